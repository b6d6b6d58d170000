use Rattle.std.proofs.Common.{◌≡◌, List, All, length, get_or, take, sym, ap, ◌∙◌, subst, arith}
use Rattle.std.proofs.lemmas.List.{take_all}
use Rattle.std.proofs.lemmas.List.Elements.{All-more}
use Rattle.lt_registry.specs.Parts.{EntryParts}
use Rattle.lt_rewrite.specs.Conditions.{HasEndingChain}
use Rattle.lt_rewrite.specs.Cycles.{EndsAfterEarlier}
use Rattle.lt_rewrite.specs.declared.cycles.Order.TheVariants as orders
use Rattle.lt_rewrite.proofs.ChainWalks.{all_end_in_order}
use Rattle.lt_rewrite.proofs.cycles.all_end.Goals as goal

-- false is right: the chain of this record has no end, so not all chains end
pub returns-then-not-ends_or_falls : goal.returns-then-not-ends_or_falls
returns-then-not-ends_or_falls g c = λ all.
    let R = g.L.Lookup.listed c.args.table.now in
    let e : EntryParts = c.entry-item.result in
    let i = c.loop-entry.entry-index in
    let there : e ≡ get_or R i e = c.entry-item.is ∙ ap (λ xs. get_or xs i e) c.entries-entry-items.ensures.value in
    c.if-not-ends_or_falls.ensures
    (subst (HasEndingChain R) (sym there)
    (all i e (omega (arith, c.loop-entry-test.true, ap length c.entries-entry-items.ensures.value))))

-- the invariant stays true: a turn judges one record more: its chain ends if those of the records before it in the
-- order do
pub loop-entry-preserved : goal.loop-entry-preserved
loop-entry-preserved g c =
    let P : EntryParts → Type 0 = EndsAfterEarlier (g.L.Lookup.listed c.args.table.now) orders.Mixed in
    All-more P c.entries-entry-items.result.now c.loop-entry.entry-index c.entry-item.result c.loop-entry-test.true
    c.loop-entry.invariant (subst P c.entry-item.is c.if-not-ends_or_falls.ensures)

-- no record is left: each chain ends if those of the records before it in the order do, and so all end
pub returns : goal.returns
returns g c =
    let R = g.L.Lookup.listed c.args.table.now in
    let xs : List EntryParts = c.entries-entry-items.result.now in
    let all : take c.loop-entry.entry-index xs ≡ R =
    take_all c.loop-entry.entry-index xs (omega (arith, c.loop-entry-test.false))
    ∙ c.entries-entry-items.ensures.value in
    all_end_in_order R orders.Mixed (subst (All (EndsAfterEarlier R orders.Mixed)) all c.loop-entry.invariant)
