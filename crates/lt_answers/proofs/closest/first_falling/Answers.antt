use Rattle.std.proofs.Common.{◌≡◌, ℕ, [], false, true, arith}
use Rattle.std.proofs.lemmas.List.{get_or_read}
use borrow.Author.Count.{below_more}
use Rattle.lt_range.specs.Matching.{FallsBackTo}
use Rattle.lt_range.specs.Spellings.{MatchesSome}
use Rattle.lt_answers.specs.Closest.{range_at}
use Rattle.lt_answers.proofs.closest.first_falling.Goals as goal

-- after a pass of the loop no range so far falls back to the tag: the pass went over one that does not
pub loop-place-preserved : goal.loop-place-preserved
loop-place-preserved c =
    let ranges = c.args.ranges.now in
    let tag = c.args.tag.now in
    let range = c.index-ranges-place.result in
    let is : range ≡ range_at ranges c.loop-place.place = get_or_read ranges c.loop-place.place range
    c.loop-place-test.true c.index-ranges-place.is (record { wild = true; named = [] }) in
    below_more (λ (i : ℕ). MatchesSome FallsBackTo (range_at ranges i) tag → ⊥) c.loop-place.place c.loop-place.invariant
    (λ h. let bad : false ≡ true = c.if-falls_back_to.ensures.1 (rw is h) in cc)

-- None is right: no range is left
pub returns : goal.returns
returns c = λ i within. c.loop-place.invariant i (omega (arith, within, c.loop-place-test.false))
