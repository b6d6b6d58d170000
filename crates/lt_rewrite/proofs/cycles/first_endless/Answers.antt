use Rattle.std.proofs.Common.{◌≡◌, ◌<◌, List, All, length, get_or, take, sym, ap, ◌∙◌, subst, arith}
use Rattle.std.proofs.lemmas.List.{take_all}
use Rattle.std.proofs.lemmas.List.Elements.{All-more}
use Rattle.lt_registry.specs.Parts.{EntryParts}
use Rattle.lt_rewrite.specs.Conditions.{HasEndingChain}
use Rattle.lt_rewrite.specs.Cycles.{IsFirstCycle, EarlierEnd, place}
use Rattle.lt_rewrite.specs.declared.cycles.Order.TheVariants as orders
use Rattle.lt_rewrite.proofs.ChainWalks.{file_order}
use Rattle.lt_rewrite.proofs.ShortcutWalks.{lower_are_before, first_there}
use Rattle.lt_rewrite.proofs.cycles.first_endless.Goals as goal

-- this record is the first cycle: its chain has no end, and those of all before it, which have the lower numbers, end
pub returns-then-not-ends_or_falls : goal.returns-then-not-ends_or_falls
returns-then-not-ends_or_falls g c =
    let R = g.L.Lookup.listed c.args.table.now in
    let e : EntryParts = c.entry-item.result in
    let i = c.loop-entry.entry-index in
    let there : e ≡ get_or R i e = c.entry-item.is ∙ ap (λ xs. get_or xs i e) c.entries-entry-items.ensures.value in
    let within : i < length R = omega (arith, c.loop-entry-test.true, ap length c.entries-entry-items.ensures.value) in
    let so_far : All (HasEndingChain R) (take i R) = subst (λ xs. All (HasEndingChain R) (take i xs))
    c.entries-entry-items.ensures.value c.loop-entry.invariant in
    subst (IsFirstCycle R) (sym c.number.ensures.value) (first_there R i e c.entries-entry-items.ensures.rising within
    there so_far c.if-not-ends_or_falls.ensures)

-- the invariant stays true: the chains of the records of lower numbers end, so the chain of this one does
pub loop-entry-preserved : goal.loop-entry-preserved
loop-entry-preserved g c =
    let R = g.L.Lookup.listed c.args.table.now in
    let e : EntryParts = c.entry-item.result in
    let i = c.loop-entry.entry-index in
    let there : e ≡ get_or R i e = c.entry-item.is ∙ ap (λ ys. get_or ys i e) c.entries-entry-items.ensures.value in
    let within : i < length R = omega (arith, c.loop-entry-test.true, ap length c.entries-entry-items.ensures.value) in
    let so_far : All (HasEndingChain R) (take i R) = subst (λ ys. All (HasEndingChain R) (take i ys))
    c.entries-entry-items.ensures.value c.loop-entry.invariant in
    let earlier : EarlierEnd R orders.File (place orders.File e.number) = file_order R e
    (lower_are_before (HasEndingChain R) R i e c.entries-entry-items.ensures.rising within there so_far) in
    All-more (HasEndingChain R) c.entries-entry-items.result.now i e c.loop-entry-test.true c.loop-entry.invariant
    (subst (HasEndingChain R) c.entry-item.is (c.if-not-ends_or_falls.ensures earlier))

-- no record is left, so each chain ends
pub returns : goal.returns
returns g c =
    let R = g.L.Lookup.listed c.args.table.now in
    let xs : List EntryParts = c.entries-entry-items.result.now in
    let all : take c.loop-entry.entry-index xs ≡ R =
    take_all c.loop-entry.entry-index xs (omega (arith, c.loop-entry-test.false))
    ∙ c.entries-entry-items.ensures.value in
    subst (All (HasEndingChain R)) all c.loop-entry.invariant
