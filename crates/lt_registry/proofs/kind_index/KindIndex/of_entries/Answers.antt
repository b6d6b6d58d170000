use Rattle.std.proofs.Common.{◌∙◌, List, subst, sym}
use Rattle.lt_registry.specs.Sorted.{AreStarts, AreStretches, RowsRise}
use Rattle.lt_registry.specs.declared.rows.RangeRow.{RangeRow}
use Rattle.lt_registry.specs.declared.rows.Row.{Row}
use Rattle.lt_registry.proofs.kind_index.KindIndex.of_entries.Goals as goal

-- the rows of single subtags are sorted, each subtag once, so their numbers rise
pub starts-requires : goal.starts-requires
starts-requires c =
    subst RowsRise (sym c.deref.ensures.value) (c.in_ok-singles-2.ensures c.args.entries.now c.args.kind
    c.in_ok-singles.ensures.singles).rising

-- the index is made of the rows that were gathered: sorted, with their starts, and cut into stretches
pub returns-clause-index : goal.returns-clause-index
returns-clause-index c = record {
  singles = c.in_ok-singles-2.ensures c.args.entries.now c.args.kind c.in_ok-singles.ensures.singles;
  starts = subst (λ (rows : List Row). AreStarts rows c.in_ok-starts.starts.items) c.deref.ensures.value c.in_ok-starts.ensures;
  ranges = subst (λ (rows : List RangeRow). AreStretches rows c.in_ok-ranges.ranges.items) (c.deref-2.ensures.value
      ∙ c.in_ok-singles.ensures.ranges) c.in_ok-ranges.ensures;
}
