use Rattle.std.proofs.Common.{◌≡◌, ◌+◌, ℕ, List, Option, [], sym, subst}
use Rattle.std.proofs.lemmas.List.{get_or_read}
use Rattle.lt_range.specs.Spellings.{Spellings}
use Rattle.lt_range.specs.Lookup.{tag_at}
use Rattle.lt_range.specs.Preferences.{AreDeciding, MayDecide}
use Rattle.lt_range.proofs.ServingLemmas.{deciding_next}
use Rattle.lt_range.proofs.preferences.all_deciding.Goals as goal

-- after a turn `found` has for one tag more the place of the range that decides its weight: it is added, or None
pub loop-place-preserved : goal.loop-place-preserved
loop-place-preserved c =
    let all = c.args.all.now in
    let tags = c.args.tags.now in
    let n = c.loop-place.place in
    let is : c.index-tags-place.result ≡ tag_at tags n = get_or_read tags n c.index-tags-place.result
    c.loop-place-test.true c.index-tags-place.is [] in
    let told : MayDecide all (tag_at tags n) c.deciding.result = subst
    (λ (t : Spellings). MayDecide all t c.deciding.result) is c.deciding.ensures in
    subst (λ (l : List (Option ℕ)). AreDeciding all tags (n + 1) l) (sym c.in_ok-push.ensures.items)
    (deciding_next all tags n c.loop-place.found.items c.deciding.result c.loop-place.invariant told)
