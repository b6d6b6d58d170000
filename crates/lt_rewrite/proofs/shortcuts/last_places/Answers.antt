use Rattle.std.proofs.Common.{◌≡◌, ◌+◌, ◌*◌, ◌++◌, ℕ, List, length, take, drop, ap, sym, ◌∙◌, subst, arith}
use Rattle.std.proofs.Math.Seq.{take-append_seam}
use Rattle.lt_rewrite.specs.Shortcuts.{GrowNoMore, LeadOn}
use Rattle.lt_rewrite.proofs.ShortcutWalks.{lead_less}
use Rattle.lt_rewrite.proofs.shortcuts.last_places.Goals as goal

-- if no shortcut changed in the turn before, none can get longer
pub lengthen_while-grows-requires-clause-rest : goal.lengthen_while-grows-requires-clause-rest
lengthen_while-grows-requires-clause-rest g c = λ no. subst GrowNoMore (sym c.deref_mut.ensures.value) (c.loop-steps.invariant.rest no)

-- the invariant stays true: a turn makes the shortcuts twice as long, or leaves them if they cannot get longer
pub loop-steps-preserved : goal.loop-steps-preserved
loop-steps-preserved g c =
    let R = g.L.Lookup.listed c.args.table.now in
    let steps : ℕ = c.loop-steps.steps in
    let places : List ℕ = c.lengthen_while-grows.new.places in
    let rest : List ℕ = drop (length places) c.loop-steps.places.items in
    let lead : LeadOn R steps c.deref_mut.result.now = subst (LeadOn R steps) (sym c.deref_mut.ensures.value) c.loop-steps.invariant.lead in
    let further : LeadOn R (steps + steps) places = c.lengthen_while-grows.ensures.doubled R steps lead in
    let twice : steps + steps ≡ steps * 2 = omega arith in
    let all : c.loop-steps.places.len ≡ length places = omega (arith, c.deref_mut.ensures.len, lead.one_each, further.one_each) in
    let same : places ≡ take c.loop-steps.places.len (places ++ rest) = sym (ap (λ n. take n (places ++ rest)) all
    ∙ take-append_seam places rest) in
    record {
      some = omega (arith, c.loop-steps.invariant.some);
      rest = λ no. subst GrowNoMore same (c.lengthen_while-grows.ensures.rest no);
      lead = subst (LeadOn R (steps * 2)) same (subst (λ n. LeadOn R n places) twice further);
    }

-- the shortcuts are as long as asked for: they lead over as many values as there are records, or more
pub returns : goal.returns
returns g c =
    let R = g.L.Lookup.listed c.args.table.now in
    lead_less R c.loop-steps.steps (length R) c.loop-steps.places.items
    (omega (arith, c.loop-steps-test.false, c.len.ensures, c.loop-steps.invariant.lead.one_each))
    c.loop-steps.invariant.lead
