use Rattle.lt_answers.proofs.MatchedLemmas.{matched_as, none_matched}
use Rattle.lt_answers.proofs.matching.is_matched.Goals as goal

-- The clause of `is_matched`, that it tells exactly whether IsMatched is true, at its two ends.

-- these are the only subtags of the text, so it is matched exactly if one of the ranges matches them
pub returns-in-Some : goal.returns-in-Some
returns-in-Some g c =
    let R = g.L.Lookup.listed c.args.table.now in
    matched_as R c.args.text.now c.args.scheme c.args.ranges.now c.in-Some.subtags c.any_matches.result
    (c.matching_is_determined.ensures R (rw c.checked-checked.ensures at c.table.ensures.checked))
    (rw c.in-Some.is at c.in_ok-subtags.ensures)
    c.any_matches.ensures

-- the text has no subtags by which it is matched, so no range matches it
pub returns-in-None : goal.returns-in-None
returns-in-None g c = none_matched (g.L.Lookup.listed c.args.table.now) c.args.text.now c.args.scheme
    c.args.ranges.now (rw c.in-None.is at c.in_ok-subtags.ensures)
