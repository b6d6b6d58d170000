use Rattle.std.proofs.Common.{◌≡◌, ◌<◌, Some, None, length, sym, ap, ◌∙◌, arith}
use Rattle.std.specs.Option.{option_copied}
use Rattle.lt_registry.specs.Parts.{EntryParts}
use Rattle.lt_registry.specs.Entries.{one_of, entry}
use Rattle.lt_rewrite.specs.Conditions.{next_value}
use Rattle.lt_rewrite.specs.Cycles.{place}
use Rattle.lt_rewrite.proofs.ChainWalks.{chase_more, IsWalk, ends_there, ends_after, at_limit, next_by}
use Rattle.lt_rewrite.proofs.cycles.ends_or_falls.Goals as goal

-- true is right: the chain has come to a record before this one in the order, and ends if the chain of that record does
pub returns-then-place : goal.returns-then-place
returns-then-place g c =
    let R = g.L.Lookup.listed c.args.table.now in
    let e : EntryParts = c.args.entry.now in
    let k = c.kind-kind.result in
    let s = c.loop-step.subtag in
    let from : one_of e.value ≡ Some c.in-Some.value.now = sym c.one_value.ensures.value ∙ ap option_copied c.in-Some.is in
    let walk : IsWalk R e k c.in-Some.value.now s c.loop-step._step = record
    { of_kind = c.kind-kind.ensures.value; from = from; walked = c.loop-step.invariant c.in-Some.value.now from } in
    let met : EntryParts = c.in-Some-entry.met.now in
    let own = c.place-place.ensures ∙ ap (place c.args.order) c.number.ensures.value in
    let below : place c.args.order met.number < place c.args.order e.number = omega
    (arith, c.if-place.true, c.place.ensures ∙ ap (place c.args.order) c.number-in-loop-step.ensures.value, own) in
    ends_after R c.args.order e met k c.in-Some.value.now s c.loop-step._step walk (sym c.entry.ensures
    ∙ ap option_copied c.in-Some-entry.is) below

-- true is right: no value follows, so the chain ends
pub returns-in-None : goal.returns-in-None
returns-in-None g c =
    let R = g.L.Lookup.listed c.args.table.now in
    let e : EntryParts = c.args.entry.now in
    let k = c.kind-kind.result in
    let s = c.loop-step.subtag in
    let from : one_of e.value ≡ Some c.in-Some.value.now = sym c.one_value.ensures.value ∙ ap option_copied c.in-Some.is in
    let walk : IsWalk R e k c.in-Some.value.now s c.loop-step._step = record
    { of_kind = c.kind-kind.ensures.value; from = from; walked = c.loop-step.invariant c.in-Some.value.now from } in
    let none : next_value R k s ≡ None =
    next_by R k s (Some c.in-Some-entry.met.now) (sym (ap option_copied c.in-Some-entry.is) ∙ c.entry.ensures)
    ∙ sym c.following.ensures ∙ ap option_copied c.in-None.is in
    λ earlier. ends_there R e k c.in-Some.value.now s c.loop-step._step walk none

-- the invariant stays true: a turn follows one value more
pub loop-step-preserved : goal.loop-step-preserved
loop-step-preserved g c = λ v from.
    let R = g.L.Lookup.listed c.args.table.now in
    let k = c.kind-kind.result in
    let s = c.loop-step.subtag in
    let found : Some c.in-Some-entry.met.now ≡ entry R k s = sym (ap option_copied c.in-Some-entry.is) ∙ c.entry.ensures in
    let next : next_value R k s ≡ Some c.in-Some-following.next.now = next_by R k s (Some c.in-Some-entry.met.now) found
    ∙ sym c.following.ensures ∙ ap option_copied c.in-Some-following.is in
    c.copy-subtag-in-Some-following.ensures
    ∙ chase_more (next_value R k) c.loop-step._step v s c.in-Some-following.next.now (c.loop-step.invariant
    v from) next

-- after as many values as there are records the chain has ended if no value follows, and else it has no end
pub returns : goal.returns
returns g c =
    let R = g.L.Lookup.listed c.args.table.now in
    let e : EntryParts = c.args.entry.now in
    let k = c.kind-kind.result in
    let s = c.loop-step.subtag in
    let from : one_of e.value ≡ Some c.in-Some.value.now = sym c.one_value.ensures.value ∙ ap option_copied c.in-Some.is in
    let walk : IsWalk R e k c.in-Some.value.now s c.loop-step._step = record
    { of_kind = c.kind-kind.ensures.value; from = from; walked = c.loop-step.invariant c.in-Some.value.now from } in
    let all : c.loop-step._step ≡ length R = omega (
      arith,
      ap length c.entries-step-end.ensures.value,
      c.loop-step.auto._step-end,
      c.loop-step-test.false,
    ) in
    at_limit R c.args.order e k c.in-Some.value.now s c.loop-step._step walk all c.next_value.result
    c.next_value.ensures c.is_none.result c.is_none.ensures
