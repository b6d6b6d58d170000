use Rattle.std.proofs.Common.{◌≡◌, ℕ, arith, length, subst}
use Rattle.lt_range.specs.Preferences.{Matched, MayBeLongest, length_at}
use Rattle.lt_range.proofs.PreferenceLemmas.{longest_decides}
use Rattle.lt_range.proofs.preferences.deciding.Goals as goal

-- the range that was found is the longest of all that match: none is left
pub returns : goal.returns
returns c =
    let all = c.args.all.now in
    let tag = c.args.tag.now in
    let end : c.loop-place.place ≡ length all = omega (arith, c.loop-place.auto.place-end, c.loop-place-test.false) in
    longest_decides all tag c.loop-place.best
    (subst (λ (n : ℕ). MayBeLongest (Matched all tag) (length_at all) n c.loop-place.best) end c.loop-place.invariant)
