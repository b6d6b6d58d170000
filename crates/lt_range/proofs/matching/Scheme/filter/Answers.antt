use Rattle.std.proofs.Common.{◌++◌, List, ℕ, [], sym, subst}
use Rattle.lt_range.specs.Filtering.{Selects}
use Rattle.lt_range.specs.Matching.{MatchesBy}
use Rattle.lt_range.specs.Spellings.{MatchesSome}
use Rattle.lt_range.proofs.FilterLemmas.{selects_next, selects_end}
use Rattle.lt_range.proofs.matching.Scheme.filter.Goals as goal

-- after a turn the places so far, with what the ranges left select, are still what all select: it adds those of the
-- tags that its range matches and none before it does
pub loop-index-preserved : goal.loop-index-preserved
loop-index-preserved c = λ more h.
    let M = MatchesSome (MatchesBy c.args.self) in
    let ranges = c.args.ranges.now in
    let tags = c.args.tags.now in
    let i = c.loop-index.index in
    let found = c.loop-index.places.items in
    let added = c.in_ok-append_places.ensures in
    subst (λ (l : List ℕ). Selects M [] ranges tags (l ++ more)) (sym added.1)
    (selects_next M ranges tags i c.index-ranges-index.result found added.0 c.loop-index-test.true
    c.index-ranges-index.is added.2 c.loop-index.invariant more h)

-- the places are what all ranges select: no range is left
pub returns : goal.returns
returns c = selects_end (MatchesSome (MatchesBy c.args.self)) c.args.ranges.now c.args.tags.now c.loop-index.index
    c.loop-index.places.items c.loop-index-test.false c.loop-index.invariant
