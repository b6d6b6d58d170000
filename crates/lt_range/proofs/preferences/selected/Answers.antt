use Rattle.std.proofs.Common.{◌≡◌, ℕ, [], false, true, arith}
use Rattle.std.proofs.lemmas.List.{get_or_read}
use Rattle.lt_range.specs.Lookup.{tag_at}
use Rattle.lt_range.specs.Preferences.{SelectsAt}
use borrow.Author.Count.{below_more}
use Rattle.lt_range.proofs.preferences.selected.Goals as goal

-- after a pass of the loop none of the tags so far is selected: the pass went over one that the range does not select
pub loop-place-preserved : goal.loop-place-preserved
loop-place-preserved c =
    let all = c.args.all.now in
    let range = c.args.range.now in
    let tags = c.args.tags.now in
    let t = c.index-tags-place.result in
    let is : t ≡ tag_at tags c.loop-place.place = get_or_read tags c.loop-place.place t c.loop-place-test.true c.index-tags-place.is [] in
    below_more (λ (i : ℕ). SelectsAt all range tags i → ⊥) c.loop-place.place c.loop-place.invariant
    (λ h. let bad : false ≡ true = c.if-selects.ensures.1 (rw is h) in cc)

-- None is right: no tag is left, so the range selects none
pub returns : goal.returns
returns c = λ i within. c.loop-place.invariant i (omega arith)
