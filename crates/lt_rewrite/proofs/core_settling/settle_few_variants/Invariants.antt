use Rattle.std.proofs.Common.{◌≡◌, take, length}
use Rattle.lt_rewrite.specs.VariantLanguages.{ArePlaces}
use Rattle.lt_rewrite.proofs.CoreSettling.{VariantsSettled}
use Rattle.lt_rewrite.proofs.core_settling.settle_few_variants.Given as goal

-- core steps lead to this core, its variants before `index` are at the ends of their chains, and `places` has the place
-- of the entry of each of these variants
abbrev pub invariant-loop-index : goal.invariant-loop-index
invariant-loop-index g l = record {
  settled : VariantsSettled (g.L.Lookup.listed l.table) l.fn.core l.core l.index l.index-end;
  places_count : length l.places.items ≡ l.index;
  places : ArePlaces (g.L.Lookup.listed l.table) (take l.index l.core.variants) l.places.items;
}
