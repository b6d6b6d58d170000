use Rattle.std.proofs.Common.{◌≡◌, ◌∙◌, ◌%◌, ◌^◌, ℕ, Bool, length, take, sym, ap, ap₂, subst, arith, not, eqb, w8}
use Rattle.std.proofs.lemmas.Bool.{eqb-true, eq-eqb}
use Rattle.std.proofs.lemmas.Simd.{mask_l-mod, length-zip2, tops_compared}
use lib.Lanes.{mask_l, zip2}
use Rattle.lt_cache.specs.Padded.{padded}
use Rattle.lt_cache.proofs.LaneLemmas.{same_lanes, no_lane_differs}
use Rattle.lt_cache.proofs.short_texts.ShortText.is.Goals as goal

-- True exactly if the texts are the same: their counts are equal and zeros follow both, so they are exactly if no lane,
-- one byte of the 32, differs.
pub returns-then-self-other : goal.returns-then-self-other
returns-then-self-other c =
    let differ : ℕ → ℕ → Bool = λ a b. not (eqb a b) in
    let xs = c.self.inside.bytes in
    let ys = c.other.inside.bytes in
    let long : length xs ≡ length ys = c.self.told ∙ sym c.other.told in
    let mask = ap (λ ms. mask_l ms % 2 ^ 64) (tops_compared w8 differ xs ys)
    ∙ mask_l-mod (zip2 differ xs ys) 64 (omega (arith, length-zip2 differ xs ys long, c.self.told)) in
    let same : mask_l (zip2 differ xs ys) ≡ 0 → c.args.self.now ≡ c.args.other.now =
    λ none. sym c.self.view_is ∙ ap₂ (λ n zs. take n zs) c.if-self-other.true (same_lanes xs ys long none) ∙ c.other.view_is in
    let none : c.args.self.now ≡ c.args.other.now → mask_l (zip2 differ xs ys) ≡ 0 =
    λ e. let equal : xs ≡ ys = c.self.invariant.2 ∙ ap padded (c.self.view_is ∙ e ∙ sym c.other.view_is) ∙ sym c.other.invariant.2 in
    subst (λ zs. mask_l (zip2 differ xs zs) ≡ 0) equal (no_lane_differs xs) in
    (λ h. same (sym mask ∙ eqb-true _ 0 h), λ e. eq-eqb _ 0 (mask ∙ none e))
