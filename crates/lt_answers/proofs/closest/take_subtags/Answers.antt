use Rattle.std.proofs.Common.{◌≡◌, ◌∙◌, ap, length, sym, true, false}
use Rattle.lt_answers.proofs.ClosestLemmas.{takes_closer, takes_none, takes_other}
use Rattle.lt_answers.proofs.closest.take_subtags.Goals as goal

-- The clause of `take_subtags`, TakesSubtags, on any lines before, at its three ends.

-- no range falls back to the tag, so the closest line stays
pub returns-in_default : goal.returns-in_default
returns-in_default c = takes_none c.args.ranges.now c.args.tag.now c.args.line.now c.args.closest.now c.in_default.ensures

-- the tag is closer than what was found so far, so its line becomes the closest one
pub returns-in_ok-line : goal.returns-in_ok-line
returns-in_ok-line c =
    takes_closer c.args.ranges.now c.args.tag.now c.args.line.now c.args.closest.now
    (record { range = c.in-Some.range; count = length c.subtags-count.result.now; line = c.in_ok-line.line })
    c.in-Some.ensures
    (rw c.subtags-count.ensures at (c.is_closer.ensures.0 c.if-is_closer.true)) (ap length c.subtags-count.ensures)
    c.in_ok-line.ensures.items

-- the tag is not closer than what was found so far, so the closest line stays
pub returns-else-is_closer : goal.returns-else-is_closer
returns-else-is_closer c =
    let tells = rw c.subtags-count.ensures at c.is_closer.ensures in
    takes_other c.args.ranges.now c.args.tag.now c.args.line.now c.args.closest.now c.in-Some.range c.in-Some.ensures
    (λ closer. let bad : true ≡ false = sym (tells.1 closer) ∙ c.if-is_closer.false in cc)
