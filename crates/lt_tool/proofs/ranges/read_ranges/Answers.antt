use Rattle.std.proofs.Common.{◌+◌, List, arith, map, string_bytes, subst, sym, take}
use Rattle.std.proofs.lemmas.Result.{err_from_is_err_and}
use Rattle.lt_range.specs.Ranges.{RangeParts}
use Rattle.lt_tool.specs.Selected.{AreRanges}
use Rattle.lt_tool.proofs.RangeLemmas.{next_ranges, range_refused}
use Rattle.lt_tool.proofs.ranges.read_ranges.Goals as goal

-- the text of this turn is refused; as many ranges were read as there are texts before it
pub returns-in_err-add_ranges-clause-refusal : goal.returns-in_err-add_ranges-clause-refusal
returns-in_err-add_ranges-clause-refusal g c =
    let p = err_from_is_err_and c.from_residual.result c.from_residual.ensures.1 in
    rw (p.1, p.2) (range_refused string_bytes c.args.texts.now c.loop-text.text-index c.text-item.result
    c.loop-text-test.true c.text-item.is (g.L.Lookup.listed c.args.table.now) c.loop-text.ranges.items
    c.in_err-add_ranges.field-0.0 c.loop-text.invariant.are
    (omega (arith, c.in_err-add_ranges.ensures.numbered, c.loop-text.invariant.numbered))
    (rw c.as_bytes.ensures.value at c.in_err-add_ranges.ensures.refusal))

-- a turn reads one text more, and its ranges are put after the others
pub loop-text-preserved : goal.loop-text-preserved
loop-text-preserved g c =
    let R = g.L.Lookup.listed c.args.table.now in
    let added = c.in_ok-add_ranges.ensures.added in
    record {
      are = subst
          (λ (l : List RangeParts). AreRanges R (map string_bytes (take (c.loop-text.text-index + 1) c.args.texts.now))
          l) (sym added.1)
          (next_ranges string_bytes c.args.texts.now c.loop-text.text-index c.text-item.result c.loop-text-test.true
          c.text-item.is R c.loop-text.ranges.items
          added.0 c.loop-text.invariant.are (rw c.as_bytes.ensures.value at added.2));
      numbered = omega (arith, c.loop-text.invariant.numbered);
    }
