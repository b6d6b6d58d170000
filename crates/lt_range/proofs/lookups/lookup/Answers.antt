use Rattle.std.proofs.Common.{◌++◌, ◌∷◌, ◌+◌, take, drop, sym, ap, ◌∙◌}
use Rattle.lt_range.specs.Ranges.{RangeParts}
use Rattle.lt_range.proofs.FrontLemmas.{parted}
use Rattle.lt_range.proofs.lookups.lookup.Goals as goal

-- the place is that of the tag that the first range finds which finds any: no range before this one does
pub returns-in-Some : goal.returns-in-Some
returns-in-Some c =
    let ranges = c.args.ranges.now in
    let i = c.loop-range.range-index in
    let range = c.range-item.result in
    record {
      before = take i ranges;
      range = range;
      after = drop (i + 1) ranges;
      there = parted ranges i range c.loop-range-test.true
          ∙ ap (λ (x : RangeParts). take i ranges ++ x ∷ drop (i + 1) ranges) (sym c.range-item.is);
      none_before = c.loop-range.invariant;
      finds = c.in-Some.ensures;
    }
