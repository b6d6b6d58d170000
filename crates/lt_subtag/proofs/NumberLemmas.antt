-- The numbers of subtags (`Subtag::number`) have the order of the subtags, and are equal exactly if the subtags are: so
-- `==` and `cmp` of `Subtag` compare numbers in place of bytes.
use Rattle.std.proofs.Common.{◌≡◌, ℕ, zero, suc, ◌+◌, ◌-◌, ◌*◌, ◌^◌, ◌<◌, ◌≤◌, eqb, true, List, [], ◌∷◌, ◌++◌, length}
use Rattle.std.proofs.Common.{replicate, get_or, refl, sym, ap, ◌∙◌, arith, inl, inr}
use Rattle.std.specs.Prelude.{nat_eq}
use Rattle.std.specs.List.{list_all, AllByRecursion}
use Rattle.std.specs.Ordering.{nat_cmp, is_eq, ordering_then}
use Rattle.std.specs.declared.cmp.Ordering.TheVariants.{Less, Equal, Greater}
use Rattle.std.specs.Cmp.{nat_cmp_is, unsigned_ties}
use Rattle.std.specs.Cmp.Lexicographic.{pointwise, slice_cmp, texts_ties}
use Rattle.std.proofs.lemmas.Bool.{and_parts, cases_eq, cases_lt}
use Rattle.std.proofs.lemmas.Bool.Decides.{nat_tests}
use Rattle.lt_subtag.specs.Bytes.{is_subtag, is_subtag_byte}
use Rattle.lt_subtag.specs.Lanes.{padded, number}
use Rattle.lt_subtag.proofs.BytesLemmas.{subtag_length}
use Rattle.lt_subtag.proofs.RunLemmas.{length_padded}

-- at most eight bytes, each a lower-case letter or a digit; unlike a subtag it may be empty
pub record IsFew (s : List ℕ) : Type 0 where
  pub bytes : list_all is_subtag_byte s ≡ true
  pub few : length s ≤ 8

-- a subtag has at most eight bytes, lower-case letters and digits
pub subtag_few : (s : List ℕ) → is_subtag s ≡ true → IsFew s
unfolding is_subtag
subtag_few s h = record { bytes = (and_parts (list_all is_subtag_byte s) _ h).0; few = (subtag_length s h).1 }

-- a byte of a subtag is above 0, which is the padding, and below 256
byte_bounds : (b : ℕ) → is_subtag_byte b ≡ true → (0 < b) × (b < 256)
byte_bounds b h = (grind (arith, nat_tests), grind (arith, nat_tests))

-- each number of a list is below 256
abbrev AreBytes : List ℕ → Type 0
AreBytes bs = AllByRecursion (λ (b : ℕ). b < 256) bs

-- the bytes of s and n zeros after them are below 256
filled_bytes : (s : List ℕ) (n : ℕ) → list_all is_subtag_byte s ≡ true → AreBytes (s ++ replicate n 0)
filled_bytes [] zero h = tt
filled_bytes [] (suc n) h = (omega arith, filled_bytes [] n h)
filled_bytes (b ∷ s) n h = let both = and_parts (is_subtag_byte b) (list_all is_subtag_byte s) h in
    ((byte_bounds b both.0).1, filled_bytes s n both.1)

-- what is at an index of a list of bytes is below 256; past its end it is 0
byte_below : (bs : List ℕ) (i : ℕ) → AreBytes bs → get_or bs i 0 < 256
byte_below [] i h = omega arith
byte_below (b ∷ bs) zero h = h.0
byte_below (b ∷ bs) (suc i) h = byte_below bs i h.1

-- each byte of a padded subtag is below 256
small : (s : List ℕ) → IsFew s → (i : ℕ) → get_or (padded s) i 0 < 256
small s h i = byte_below (padded s) i (filled_bytes s (8 - length s) h.bytes)

-- the number of a subtag fits in 64 bits
pub number_below : (s : List ℕ) → IsFew s → number s < 2 ^ 64
unfolding number
number_below s h = let at = small s h in omega (arith, at 0, at 1, at 2, at 3, at 4, at 5, at 6, at 7)

-- the number that bytes make, the most significant first, after those that made the number v
abbrev through : ℕ → List ℕ → ℕ
through v [] = v
through v (b ∷ bs) = through (v * 256 + b) bs

-- the smaller of two numbers u and v stays the smaller, whatever equally many bytes follow each
through_below : (u v : ℕ) (s t : List ℕ) → u < v → length s ≡ length t → AreBytes s → through u s < through v t
through_below u v [] [] low one are = low
through_below u v (x ∷ s) (y ∷ t) low one are = through_below (u * 256 + x) (v * 256 + y) s t
    (omega (arith, low, are.0)) (omega (arith, one)) are.1
through_below u v _ _ low one are = absurd (omega (arith, one))

-- the order of two lists of equally many bytes is that of the numbers they make after the same number u
through_ordered : (u : ℕ) (s t : List ℕ) → length s ≡ length t → AreBytes s → AreBytes t
    → slice_cmp nat_cmp s t ≡ nat_cmp (through u s) (through u t)
through_ordered u [] [] one are too = nat_cmp_is u u Equal refl
through_ordered u (x ∷ s) (y ∷ t) one are too =
    let rest : length s ≡ length t = omega (arith, one) in
    elim (cases_eq x y) [
      | inl same ↦
          ap (λ o. ordering_then o (slice_cmp nat_cmp s t)) (sym (nat_cmp_is x y Equal same))
          ∙ through_ordered (u * 256 + x) s t rest are.1 too.1
          ∙ ap (λ z. nat_cmp (through (u * 256 + x) s) (through (u * 256 + z) t)) same
      | inr other ↦
          elim (cases_lt x y) [
            | inl low ↦
                ap (λ o. ordering_then o (slice_cmp nat_cmp s t)) (sym (nat_cmp_is x y Less low))
                ∙ nat_cmp_is _ _ Less (through_below (u * 256 + x) (u * 256 + y) s t (omega (arith, low)) rest are.1)
            | inr high ↦
                let above : y < x = omega (arith, high, other) in
                ap (λ o. ordering_then o (slice_cmp nat_cmp s t)) (sym (nat_cmp_is x y Greater above))
                ∙ nat_cmp_is _ _ Greater (through_below (u * 256 + y) (u * 256 + x) t s (omega (arith, above)) (sym rest) too.1)
          ]
    ]
through_ordered u _ _ one are too = absurd (omega (arith, one))

-- s with m zeros after it and t with n, up to the same length, keep their order: a zero comes before each byte of a
-- subtag
filled_ordered : (s t : List ℕ) (m n : ℕ) → list_all is_subtag_byte s ≡ true → list_all is_subtag_byte t ≡ true
    → length s + m ≡ length t + n
    → slice_cmp nat_cmp s t ≡ slice_cmp nat_cmp (s ++ replicate m 0) (t ++ replicate n 0)
filled_ordered [] [] zero zero h k one = refl
filled_ordered [] [] (suc m) (suc n) h k one = filled_ordered [] [] m n h k (omega (arith, one))
    ∙ ap (λ o. ordering_then o (slice_cmp nat_cmp (replicate m 0) (replicate n 0))) (nat_cmp_is 0 0 Equal refl)
filled_ordered [] (y ∷ t) (suc m) n h k one =
    ap (λ o. ordering_then o (slice_cmp nat_cmp (replicate m 0) (t ++ replicate n 0)))
    (nat_cmp_is 0 y Less (byte_bounds y (and_parts (is_subtag_byte y) (list_all is_subtag_byte t) k).0).0)
filled_ordered (x ∷ s) [] m (suc n) h k one =
    ap (λ o. ordering_then o (slice_cmp nat_cmp (s ++ replicate m 0) (replicate n 0)))
    (nat_cmp_is x 0 Greater (byte_bounds x (and_parts (is_subtag_byte x) (list_all is_subtag_byte s) h).0).0)
filled_ordered (x ∷ s) (y ∷ t) m n h k one =
    ap (ordering_then (nat_cmp x y)) (filled_ordered s t m n (and_parts (is_subtag_byte x) _ h).1
    (and_parts (is_subtag_byte y) _ k).1 (omega (arith, one)))
filled_ordered _ _ m n h k one = absurd (omega (arith, one))

-- the padded bytes of s, one by one, are the bytes at the indices 0 to 7, which are 0 past the end of s
filled_by_index : (s : List ℕ) → length s ≤ 8
    → padded s ≡ get_or s 0 0 ∷ get_or s 1 0 ∷ get_or s 2 0 ∷ get_or s 3 0 ∷ get_or s 4 0 ∷ get_or s 5 0 ∷ get_or s 6 0 ∷ get_or s 7 0 ∷ []
filled_by_index (a ∷ b ∷ c ∷ d ∷ e ∷ f ∷ g ∷ h ∷ i ∷ s) l = absurd (omega (arith, l))
filled_by_index _ l = refl

-- the number of a subtag is what `through` makes of its padded bytes
number_through : (s : List ℕ) → length s ≤ 8 → number s ≡ through 0 (padded s)
unfolding number
number_through s l = rw (filled_by_index s l) (omega arith)

-- the order of subtags is that of their numbers
pub numbers_ordered : (s t : List ℕ) → IsFew s → IsFew t → slice_cmp nat_cmp s t ≡ nat_cmp (number s) (number t)
numbers_ordered s t h k =
    filled_ordered s t (8 - length s) (8 - length t) h.bytes k.bytes (omega (arith, h.few, k.few))
    ∙ through_ordered 0 (padded s) (padded t) (length_padded s h.few ∙ sym (length_padded t k.few)) (filled_bytes s
    (8 - length s) h.bytes) (filled_bytes t (8 - length t) k.bytes)
    ∙ ap (λ n. nat_cmp n (through 0 (padded t))) (sym (number_through s h.few)) ∙ ap (nat_cmp (number s)) (sym (number_through t k.few))

-- subtags are equal exactly if their numbers are
pub numbers_equal : (s t : List ℕ) → IsFew s → IsFew t → eqb (number s) (number t) ≡ pointwise nat_eq s t
numbers_equal s t h k = unsigned_ties (number s) (number t) ∙ ap is_eq (sym (numbers_ordered s t h k)) ∙ sym (texts_ties s t)
