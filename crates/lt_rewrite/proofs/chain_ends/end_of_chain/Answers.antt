use Rattle.std.proofs.Common.{◌≡◌, length, sym, ap, ◌∙◌, arith}
use Rattle.std.specs.Option.{option_copied}
use Rattle.lt_rewrite.specs.CoreSteps.{chase}
use Rattle.lt_rewrite.specs.Conditions.{next_value}
use Rattle.lt_rewrite.proofs.ChainWalks.{chase_more, walk_cycles}
use Rattle.lt_rewrite.proofs.chain_ends.end_of_chain.Goals as goal

-- Cycle is right: a value follows even after as many values as there are records, so the chain has no end
pub returns-in-Some-next_value-clause-cycle : goal.returns-in-Some-next_value-clause-cycle
returns-in-Some-next_value-clause-cycle g c =
    let R = g.L.Lookup.listed c.args.table.now in
    let steps : c.loop-step._step ≡ length R = omega (
      arith,
      ap length c.entries-step-end.ensures.value,
      c.loop-step.auto._step-end,
      c.loop-step-test.false,
    ) in
    walk_cycles R c.args.kind c.args.subtag.now c.loop-step.end c.in-Some-next_value.field-0.now
    (c.loop-step.invariant ∙ ap (λ n. chase (next_value R c.args.kind) n c.args.subtag.now) steps)
    (sym c.next_value-2.ensures ∙ ap option_copied c.in-Some-next_value.is)

-- the invariant stays true: a turn follows one value more
pub loop-step-preserved : goal.loop-step-preserved
loop-step-preserved g c =
    c.copy-end-in-Some.ensures
    ∙ chase_more (next_value (g.L.Lookup.listed c.args.table.now)
    c.args.kind) c.loop-step._step c.args.subtag.now c.loop-step.end c.in-Some.next.now c.loop-step.invariant
    (sym c.next_value.ensures ∙ ap option_copied c.in-Some.is)
