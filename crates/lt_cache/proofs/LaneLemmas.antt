-- For `ShortText`, whose 32 bytes are handled at once: what is selected of a text, and whether two texts differ, byte
-- by byte. A lane is the place of one of the bytes.
use Rattle.std.proofs.Common.{◌≡◌, ◌≤◌, ◌<◌, ◌+◌, ◌*◌, ◌++◌, ℕ, Bool, true, false, not, cond, eqb, ltb, zero, suc, List}
use Rattle.std.proofs.Common.{[], ◌∷◌, map, length, take, replicate, refl, ap, ap₂, ◌∙◌, arith}
use Rattle.std.proofs.lemmas.Bool.{lt-ltb, eqb-true, eq-eqb, le-ltb}
use Rattle.std.specs.List.{range_with_len}
use lib.Lanes.{sel_l, top, mask_l, zip2}

-- what is selected of the byte `x` in the lane `a`: itself if the lane is below `c`, else zero
lane : ℕ → ℕ → ℕ → ℕ
lane a c x = cond (top 7 (cond (ltb a c) 255 0)) x 0

-- a lane `a` below `c` is selected: its mask of 255 has the top bit, 7
lane_in : (a c x : ℕ) → a < c → cond (top 7 (cond (ltb a c) 255 0)) x 0 ≡ x
lane_in a c x lt = ap (λ b. cond (top 7 (cond b 255 0)) x 0) (lt-ltb a c lt)

-- a lane `a` from `c` on is not selected, and gives zero
lane_out : (a c x : ℕ) → c ≤ a → cond (top 7 (cond (ltb a c) 255 0)) x 0 ≡ 0
lane_out a c x le = ap (λ b. cond (top 7 (cond b 255 0)) x 0) (le-ltb a c le)

-- of `n` lanes from `a` on, none below `c`, all give zeros
zeros : (n a c : ℕ) (xs : List ℕ) → length xs ≡ n → c ≤ a
    → sel_l (map (λ l. top 7 (cond (ltb l c) 255 0)) (range_with_len a n)) xs (replicate n 0) ≡ replicate n 0
zeros zero a c xs long le = refl
zeros (suc n) a c [] long le = absurd (omega (arith, long))
zeros (suc n) a c (x ∷ xs) long le = ap₂ (λ y ys. y ∷ ys) (lane_out a c x le) (zeros n (a + 1) c xs (omega arith) (omega arith))

-- of `n` lanes from `a` on, the first `k`, which are below `c`, give the bytes, and the other `m` give zeros
pub front_lanes : (n k m a c : ℕ) (xs : List ℕ) → length xs ≡ n → n ≡ k + m → c ≡ a + k
    → sel_l (map (λ l. top 7 (cond (ltb l c) 255 0)) (range_with_len a n)) xs (replicate n 0) ≡ take k xs ++ replicate m 0
front_lanes n zero m a c xs long all end = zeros n a c xs long (omega arith) ∙ ap (λ j. replicate j 0) (omega arith)
front_lanes zero (suc k) m a c xs long all end = absurd (omega (arith, all))
front_lanes (suc n) (suc k) m a c [] long all end = absurd (omega (arith, long))
front_lanes (suc n) (suc k) m a c (x ∷ xs) long all end =
    ap₂ (λ y ys. y ∷ ys) (lane_in a c x (omega arith)) (front_lanes n k m (a + 1) c xs (omega arith) (omega arith) (omega arith))

-- two lists of one length that differ in no lane are the same
pub same_lanes : (xs ys : List ℕ) → length xs ≡ length ys → mask_l (zip2 (λ a b. not (eqb a b)) xs ys) ≡ 0 → xs ≡ ys
same_lanes [] [] long none = refl
same_lanes [] (y ∷ ys) long none = absurd (omega (arith, long))
same_lanes (x ∷ xs) [] long none = absurd (omega (arith, long))
same_lanes (x ∷ xs) (y ∷ ys) long none =
    let b : Bool = eqb x y in
    let head : (b : Bool) → cond (not b) 1 0 + 2 * mask_l (zip2 (λ a b. not (eqb a b)) xs ys) ≡ 0 → b ≡ true =
    λ b e. (elim b as (λ v. cond (not v) 1 0 + 2 * mask_l (zip2 (λ a b. not (eqb a b)) xs ys) ≡ 0 → v ≡ true)
    [ true ↦ λ _. refl | false ↦ λ h. absurd (omega (arith, h)) ]) e in
    let same = head (eqb x y) none in
    ap₂ (λ z zs. z ∷ zs) (eqb-true x y same) (same_lanes xs ys (omega arith) (omega (arith, none)))

-- a list differs in no lane from itself
pub no_lane_differs : (xs : List ℕ) → mask_l (zip2 (λ a b. not (eqb a b)) xs xs) ≡ 0
no_lane_differs [] = refl
no_lane_differs (x ∷ xs) = ap₂ (λ b n. cond (not b) 1 0 + 2 * n) (eq-eqb x x refl) (no_lane_differs xs)
