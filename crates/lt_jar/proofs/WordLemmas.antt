-- What `are_same` needs: two texts of one length are the same if their first bytes and their last bytes are, where
-- these cover the texts. They are compared as numbers.
use Rattle.std.proofs.Common.{◌≡◌, ◌<◌, ◌≤◌, ◌+◌, ◌-◌, ◌∙◌, ◌++◌, ◌∷◌, ℕ, zero, suc, List, [], length, get_or, take}
use Rattle.std.proofs.Common.{drop, refl, sym, ap, ap₂, subst, arith}
use Rattle.std.specs.Int.{from_le_bytes, to_le_bytes, w32, w64}
use Rattle.std.proofs.lemmas.Nat.{le_bytes_4, le_bytes_8}
use Rattle.std.proofs.lemmas.List.{drop-drop, get_or-drop, length-drop, length-take-le, take-append-drop, take_all}

-- each number of the list is a byte: it is below 256
abbrev AreBytes : List ℕ → Type 0
AreBytes xs = (i : ℕ) → get_or xs i 0 < 256

-- the first numbers of a list of bytes are bytes
front_bytes : (k : ℕ) (xs : List ℕ) → AreBytes xs → AreBytes (take k xs)
front_bytes zero xs h i = omega arith
front_bytes (suc k) [] h i = omega arith
front_bytes (suc k) (x ∷ xs) h zero = h zero
front_bytes (suc k) (x ∷ xs) h (suc i) = front_bytes k xs (λ m. h (suc m)) i

-- k numbers from the index i on, of a list of bytes, are bytes
part_bytes : (k i : ℕ) (xs : List ℕ) → AreBytes xs → AreBytes (take k (drop i xs))
part_bytes k i xs h = front_bytes k (drop i xs) (λ j. subst (λ b. b < 256) (sym (get_or-drop i xs j 0)) (h (i + j)))

-- a list of at least i + k elements has k from the index i on
part_long : (k i : ℕ) (xs : List ℕ) → i + k ≤ length xs → length (take k (drop i xs)) ≡ k
part_long k i xs room = length-take-le k (drop i xs) (omega (arith, length-drop i xs))

-- four bytes from the index i on are the same in two lists where the numbers that they make are
four_same : (i : ℕ) (xs ys : List ℕ) → i + 4 ≤ length xs → i + 4 ≤ length ys → AreBytes xs → AreBytes ys
    → from_le_bytes w32 (take 4 (drop i xs)) ≡ from_le_bytes w32 (take 4 (drop i ys)) → take 4 (drop i xs) ≡ take 4 (drop i ys)
four_same i xs ys room space small few e =
    sym (le_bytes_4 (take 4 (drop i xs)) _ (part_long 4 i xs room) (part_bytes 4 i xs small) refl) ∙ ap (to_le_bytes w32) e
    ∙ le_bytes_4 (take 4 (drop i ys)) _ (part_long 4 i ys space) (part_bytes 4 i ys few) refl

-- eight bytes from the index i on are the same in two lists where the numbers that they make are
eight_same : (i : ℕ) (xs ys : List ℕ) → i + 8 ≤ length xs → i + 8 ≤ length ys → AreBytes xs → AreBytes ys
    → from_le_bytes w64 (take 8 (drop i xs)) ≡ from_le_bytes w64 (take 8 (drop i ys)) → take 8 (drop i xs) ≡ take 8 (drop i ys)
eight_same i xs ys room space small few e =
    sym (le_bytes_8 (take 8 (drop i xs)) _ (part_long 8 i xs room) (part_bytes 8 i xs small) refl) ∙ ap (to_le_bytes w64) e
    ∙ le_bytes_8 (take 8 (drop i ys)) _ (part_long 8 i ys space) (part_bytes 8 i ys few) refl

-- lists of n elements, between k and twice as many: the first k and the last k cover them
module _ (k n : ℕ) (enough : k ≤ n) (few : n ≤ k + k) where
  -- what follows the first k elements is the end of the last k
  rest_in_last : (xs : List ℕ) → length xs ≡ n → drop k xs ≡ drop (k - (n - k)) (take k (drop (n - k) xs))
  rest_in_last xs long =
      let last = take_all k (drop (n - k) xs) (omega (arith, length-drop (n - k) xs)) in
      let at : n - k + (k - (n - k)) ≡ k = omega arith in
      sym (ap (drop (k - (n - k))) last ∙ drop-drop (k - (n - k)) (n - k) xs ∙ ap (λ m. drop m xs) at)

  -- lists with the same first k and the same last k elements are equal
  ends_same : (xs ys : List ℕ) → length xs ≡ n → length ys ≡ n → take k (drop 0 xs) ≡ take k (drop 0 ys)
      → take k (drop (n - k) xs) ≡ take k (drop (n - k) ys) → xs ≡ ys
  ends_same xs ys long same front back =
      sym (take-append-drop k xs)
      ∙ ap₂ (λ a b. a ++ b) front (rest_in_last xs long ∙ ap (drop (k - (n - k))) back ∙ sym (rest_in_last ys same))
      ∙ take-append-drop k ys

-- texts of 4 to 8 bytes are equal where their first four and their last four, read as numbers, are
pub same_by_fours : (n : ℕ) (xs ys : List ℕ) → length xs ≡ n → length ys ≡ n → 4 ≤ n → n ≤ 8 → AreBytes xs → AreBytes ys
    → from_le_bytes w32 (take 4 (drop 0 xs)) ≡ from_le_bytes w32 (take 4 (drop 0 ys))
    → from_le_bytes w32 (take 4 (drop (n - 4) xs)) ≡ from_le_bytes w32 (take 4 (drop (n - 4) ys)) → xs ≡ ys
same_by_fours n xs ys long same enough few a b front back =
    ends_same 4 n enough (omega arith) xs ys long same
    (four_same 0 xs ys (omega arith) (omega arith) a b front) (four_same (n - 4) xs ys (omega arith) (omega arith) a b back)

-- texts of 8 to 16 bytes are equal where their first eight and their last eight, read as numbers, are
pub same_by_eights : (n : ℕ) (xs ys : List ℕ) → length xs ≡ n → length ys ≡ n → 8 ≤ n → n ≤ 16 → AreBytes xs → AreBytes ys
    → from_le_bytes w64 (take 8 (drop 0 xs)) ≡ from_le_bytes w64 (take 8 (drop 0 ys))
    → from_le_bytes w64 (take 8 (drop (n - 8) xs)) ≡ from_le_bytes w64 (take 8 (drop (n - 8) ys)) → xs ≡ ys
same_by_eights n xs ys long same enough few a b front back =
    ends_same 8 n enough (omega arith) xs ys long same
    (eight_same 0 xs ys (omega arith) (omega arith) a b front) (eight_same (n - 8) xs ys (omega arith) (omega arith) a b back)
