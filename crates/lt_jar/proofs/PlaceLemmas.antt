-- What `first_place` needs: the bits of a mask of the first 32 bytes, or else the list of all places of a byte, tell
-- where it is first in a text.
use Rattle.std.proofs.Common.{◌≡◌, ◌≤◌, ◌<◌, ◌+◌, ◌-◌, ◌==◌, ◌∷◌, ◌∙◌, [], ℕ, zero, suc, true, false, not, List, Option}
use Rattle.std.proofs.Common.{Some, None, eqb, length, map, take, get_or, ap, sym, subst, arith, inl, inr}
use Rattle.std.proofs.lemmas.Bool.{cases_Bool, cases_eq}
use Rattle.std.proofs.lemmas.Simd.{leading_from_mask_l, trailing_mask_l, run_in_chunk_fails, run_in_chunk_stops}
use Rattle.std.specs.List.{prefix_len}
use Rattle.std.specs.Simd.Lanes.{mask_l}
use Rattle.memchr.specs.Find.{IsFirstByte, Nowhere, NoneBefore, Passes, TakesFirst, is_byte, places, places_from}
use lib.Count.{count_trailing_zeros}

-- the bits of a mask, of which bit k is set where the byte is at place k of a list
module _ (byte : ℕ) (xs : List ℕ) (bits : ℕ) (is : bits ≡ mask_l (map (λ x. eqb x byte) xs)) where
  -- where no bit is set, all of the list comes before the byte
  pub none_of_lanes : bits ≡ 0 → prefix_len (λ other. not (is_byte byte other)) xs ≡ length xs
  none_of_lanes none = leading_from_mask_l (is_byte byte) xs (sym is ∙ none)

  -- as many elements come before the byte as there are zeros below the lowest bit that is set
  pub first_of_lanes : length xs ≤ 64 → 0 < bits → count_trailing_zeros 64 bits ≡ prefix_len (λ other. not (is_byte byte other)) xs
  first_of_lanes few some = ap (count_trailing_zeros 64) is ∙ trailing_mask_l (is_byte byte) 64 xs few (omega (arith, some, is))

-- equal lists have equal heads
head_is : (a b : ℕ) (more others : List ℕ) → a ∷ more ≡ b ∷ others → a ≡ b
head_is a b more others e = cc

-- lemmas on the first place of a byte in a text
module _ (byte : ℕ) (text : List ℕ) where
  -- the byte is at this place of the text
  abbrev has : ℕ → Type 0
  has = Passes (is_byte byte) text

  -- a byte that is not at the place i, nor from i + 1 up to j, is nowhere from i up to j
  not_here : (i j : ℕ) → (get_or text i 0 == byte) ≡ false → Nowhere has (i + 1) j → Nowhere has i j
  not_here i j not more k low high = elim (cases_eq i k) [
    | inl same ↦ λ passes. let bad : (get_or text i 0 == byte) ≡ true = subst has (sym same) passes in cc
    | inr other ↦ more k (omega (arith, low, other)) high
  ]

  -- the head k of the list of a byte's places among the n from i on is the first of them
  pub first_from : (i n k : ℕ) (rest : List ℕ) → places_from (is_byte byte) text i n ≡ k ∷ rest → NoneBefore has i (i + n) k × has k
  unfolding places_from
  first_from i zero k rest e = cc
  first_from i (suc n) k rest e = elim (cases_Bool (get_or text i 0 == byte)) [
    | inl is ↦
        let first : i ≡ k = head_is i k (places_from (is_byte byte) text (i + 1) n) rest (rw is at e) in (
          record {
            low = omega (arith, first);
            high = omega (arith, first);
            before = λ j low high. absurd
                (omega (arith, first, low, high));
          },
          subst has first is,
        )
    | inr not ↦
        let more = first_from (i + 1) n k rest (rw not at e) in
        let before = not_here i k not more.0.before in
        (record { low = omega (arith, more.0.low); high = omega (arith, more.0.high); before = before }, more.1)
  ]

  -- where the list of the byte's places among the n from i on is empty, the byte is at none of them
  pub none_from : (i n : ℕ) → places_from (is_byte byte) text i n ≡ [] → Nowhere has i (i + n)
  unfolding places_from
  none_from i zero e = λ j low high. absurd (omega (arith, low, high))
  none_from i (suc n) e = elim (cases_Bool (get_or text i 0 == byte)) [
    | inl is ↦ let bad = rw is at e in cc
    | inr not ↦ not_here i (i + suc n) not (λ j low high. none_from (i + 1) n (rw not at e) j low (omega (arith, high)))
  ]

  -- the first item of the list of all places of the byte is its first place; where the list is empty, the text does not
  -- have the byte
  pub first_byte : (r : Option ℕ) (rest : List ℕ) → TakesFirst (places (is_byte byte) text) r rest → IsFirstByte (is_byte byte) text r
  first_byte None rest h = subst (Nowhere has 0) (omega arith) (none_from 0 (length text - 0) h.0)
  first_byte (Some k) rest h = subst (λ n. NoneBefore has 0 n k × has k) (omega arith) (first_from 0 (length text - 0) k rest h)

  -- where fewer than 32 of the first 32 bytes come before the byte, their number is its first place
  pub first_of_front : (count : ℕ) → 32 ≤ length text → count ≡ prefix_len (λ other. not (is_byte byte other)) (take 32 text) → count < 32
      → IsFirstByte (is_byte byte) text (Some count)
  first_of_front count long counted short = (
    record {
      low = omega arith;
      high = omega (arith, long, short);
      before = λ k low below here. let bad : (get_or text k 0 == byte) ≡ false = run_in_chunk_fails (is_byte byte) text
          0 32 count 0 long counted k low (omega (arith, below)) in cc;
    },
    subst has (omega arith) (run_in_chunk_stops (is_byte byte) text 0 32 count 0 long counted short),
  )
