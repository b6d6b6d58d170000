-- Lemmas for the functions of `lanes`, which look at 64 bytes together. The bits of a number that a comparison gives
-- are the places of a byte among them, and blocks of 64 add up to what is found, or counted, in a whole text.
use Rattle.std.proofs.Common.{◌≡◌, ◌≢◌, ◌≤◌, ◌<◌, ◌+◌, ◌-◌, ◌==◌, ◌++◌, ◌↔◌, ◌∙◌, ℕ, Bool, true, false, List, Some}
use Rattle.std.proofs.Common.{None, inl, inr, length, map, cond, refl, sym, ap, arith, bit_or, count_by, subst, take}
use Rattle.std.proofs.Common.{drop, get_or, take-add, take-append-drop}
use Rattle.std.specs.Int.{bit_at}
use Rattle.std.specs.Simd.Lanes.{mask_l}
use Rattle.std.proofs.lemmas.Bool.{cases_eq, cases_lt, eq-eqb, eqb-true}
use Rattle.std.proofs.lemmas.List.{get_or-drop, get_or-map, get_or-take, length-drop, length-take-le, take_rest}
use Rattle.std.proofs.lemmas.List.Elements.{All-append, All-drop, All-from_get_or, All-get_or}
use Rattle.std.proofs.lemmas.List.Sums.{count_by-le-length, sum_by-append}
use Rattle.std.proofs.lemmas.Nat.Bits.{bit_at_or, bit_at-zero}
use Rattle.std.proofs.lemmas.Simd.{bit_mask_l}
use Rattle.lt_rows.specs.Lanes.{AreBitsFrom}
use Rattle.lt_rows.specs.Plain.{IsNextPlace}
use Rattle.lt_rows.specs.Splitting.{IsFreeOf}
use Rattle.lt_rows.proofs.NearLemmas.{split_there}

-- the bit that stands for the answer of a comparison is 1 exactly where the two numbers are equal
tells : (a b : ℕ) (t : Bool) → (a == b) ≡ t → (cond {A = ℕ} t 1 0 ≡ 1) ↔ (a ≡ b)
tells a b true e = (λ h. eqb-true a b e, λ h. refl)
tells a b false e = (λ h. absurd (omega arith), λ h. let bad = eq-eqb a b h in cc)

-- bit k of the mask of 64 comparisons with a byte is set exactly where the byte is at place k
pub bit_of : (byte : ℕ) (text : List ℕ) (k : ℕ) → 64 ≤ length text → k < 64
    → (bit_at (mask_l (map (λ x. x == byte) (take 64 text))) k ≡ 1) ↔ (get_or text k 0 ≡ byte)
bit_of byte text k long below =
    let front = take 64 text in
    let inside : k < length front = omega (arith, below, length-take-le 64 text long) in
    let is : bit_at (mask_l (map (λ x. x == byte) front)) k ≡ cond (get_or text k 0 == byte) 1 0 =
    bit_mask_l (map (λ x. x == byte) front) k
    ∙ ap (λ b. cond b 1 0) (get_or-map (λ x. x == byte) front k 0 false inside ∙ ap (λ x. x == byte) (get_or-take 64 text k 0 below)) in
    let t = tells (get_or text k 0) byte _ refl in
    (λ h. t.0 (sym is ∙ h), λ h. is ∙ t.1 h)

-- the lowest `count` of the bits that tell where a byte is among 64 tell where it is among the first `count`
pub bits_of_front : (byte count : ℕ) (text : List ℕ) (all bits : ℕ) → count < 64 → 64 ≤ length text
    → ((k : ℕ) → k < 64 → (bit_at all k ≡ 1) ↔ (get_or text k 0 ≡ byte))
    → ((k : ℕ) → (bit_at bits k ≡ 1) ↔ ((k < count) × (bit_at all k ≡ 1)))
    → AreBitsFrom byte 0 (take count text) bits
bits_of_front byte count text all bits short long each below =
    let row_long : length (take count text) ≡ count = length-take-le count text (omega (arith, short, long)) in
    record {
      short = omega (arith, row_long, short);
      each = λ k. (
        λ set.
            let low = (below k).0 set in (
              omega arith,
              omega (arith, low.0, row_long),
              get_or-take count text k 0 low.0
                  ∙ (each k (omega (arith, low.0, short))).0 low.1,
            ),
        λ there.
            let low : k < count = omega (arith, there.1, row_long) in
            (below k).1 (low, (each k (omega (arith, low, short))).1 (sym (get_or-take count text k 0 low) ∙ there.2)),
      );
    }

-- lemmas on bits that tell where a byte is in a row, from the place `start` on
module _ (byte start : ℕ) (row : List ℕ) (bits : ℕ) (are : AreBitsFrom byte start row bits) where
  -- the row from that place on
  abbrev left : List ℕ
  left = drop start row

  -- where no bit is set, the byte is not in what is left
  pub none_set : bits ≡ 0 → IsNextPlace byte start row None
  none_set is = All-from_get_or (λ other. other ≢ byte) left 0
      (λ k inside e.
      let there : start + k < length row = omega (arith, inside, length-drop start row) in
      let set : bit_at bits (start + k) ≡ 1 = (are.each (start + k)).1 (omega arith, there, sym (get_or-drop start row k 0) ∙ e) in
      absurd (omega (arith, set, ap (λ n. bit_at n (start + k)) is, bit_at-zero (start + k))))

  -- lemmas on the lowest bit that is set, at the place `end`
  module _ (end : ℕ) (set : bit_at bits end ≡ 1) (below : (k : ℕ) → k < end → bit_at bits k ≡ 0) where
    -- the byte is at that place, in what is left
    pub lowest_there : (start ≤ end) × (end < length row) × (get_or row end 0 ≡ byte)
    lowest_there = (are.each end).0 set

    -- the byte is nowhere between `start` and the place of the lowest bit
    free_to : IsFreeOf byte (take (end - start) left)
    free_to =
        let long : length left ≡ length row - start = length-drop start row in
        let short : length (take (end - start) left) ≡ end - start = length-take-le (end - start) left
        (omega (arith, lowest_there.0, lowest_there.1, long)) in
        All-from_get_or (λ other. other ≢ byte) (take (end - start) left) 0
        (λ k inside e.
        let low : start + k < end = omega (arith, inside, short, lowest_there.0) in
        let is : get_or row (start + k) 0 ≡ byte = sym (get_or-drop start row k 0)
        ∙ sym (get_or-take (end - start) left k 0 (omega (arith, inside, short))) ∙ e in
        absurd (omega (arith, below (start + k) low, (are.each (start + k)).1 (omega arith, omega (arith, low, lowest_there.1), is))))

    -- the place of the lowest bit is the byte's next place from `start` on
    pub lowest_next : IsNextPlace byte start row (Some end)
    lowest_next =
        let inside : end - start < length left = omega (arith, lowest_there.0, lowest_there.1, length-drop start row) in
        let there : start + (end - start) ≡ end = omega (arith, lowest_there.0) in
        let here : get_or left (end - start) 0 ≡ byte = get_or-drop start row (end - start) 0
        ∙ ap (λ n. get_or row n 0) there ∙ lowest_there.2 in
        (lowest_there.0, (inside, free_to, split_there byte left (end - start) inside here))

    -- the bits without the lowest, `rest`, tell where the byte is behind the place of the lowest
    pub others_set : (rest : ℕ) → bit_at rest end ≡ 0 → ((k : ℕ) → k < 64 → k ≢ end → bit_at rest k ≡ bit_at bits k)
        → ((k : ℕ) → bit_at rest k ≡ 1 → bit_at bits k ≡ 1) → AreBitsFrom byte (end + 1) row rest
    others_set rest gone kept more = record {
      short = are.short;
      each = λ k. (
        λ is. let there = (are.each k).0 (more k is) in (above k is, there.1, there.2),
        λ there.
            kept k (omega (arith, there.1, are.short)) (λ same. omega (arith, same, there.0))
            ∙ (are.each k).1 (omega (arith, there.0, lowest_there.0), there.1, there.2),
      );
    }
      where
        above : (k : ℕ) → bit_at rest k ≡ 1 → end + 1 ≤ k
        above k is = elim (cases_lt k end) [
          | inl low ↦ absurd (omega (arith, below k low, more k is))
          | inr high ↦ elim (cases_eq k end) [
            | inl same ↦ absurd (omega (arith, is, gone, ap (bit_at rest) same))
            | inr other ↦ omega (arith, high, other)
          ]
        ]

-- ---- blocks without a byte

-- where no bit is set in a or in b, bit k is set in neither
pub neither_set : (a b k : ℕ) → bit_or a b ≡ 0 → (bit_at a k ≡ 1 → ⊥) × (bit_at b k ≡ 1 → ⊥)
neither_set a b k none =
    let zero : bit_at (bit_or a b) k ≡ 0 = ap (λ n. bit_at n k) none ∙ bit_at-zero k in
    (λ set. absurd (omega (arith, set, zero, bit_at_or a b k)), λ set. absurd (omega (arith, set, zero, bit_at_or a b k)))

-- a text whose first `at` bytes are free of a byte, and whose next 64 have no bit set for it, is free of it for 64
-- bytes more
pub free_block : (byte at : ℕ) (text : List ℕ) (bits : ℕ) → 64 ≤ length text - at → at ≤ length text
    → ((k : ℕ) → k < 64 → (bit_at bits k ≡ 1) ↔ (get_or (take (length text - at) (drop at text)) k 0 ≡ byte))
    → ((k : ℕ) → bit_at bits k ≡ 1 → ⊥) → IsFreeOf byte (take at text) → IsFreeOf byte (take (at + 64) text)
free_block byte at text bits room inside each none free =
    let short : length (take (at + 64) text) ≡ at + 64 = length-take-le (at + 64) text (omega (arith, room, inside)) in
    All-from_get_or (λ other. other ≢ byte) (take (at + 64) text) 0
    (λ k within e.
    let is : get_or text k 0 ≡ byte = sym (get_or-take (at + 64) text k 0 (omega (arith, within, short))) ∙ e in
    elim (cases_lt k at) [
      | inl low ↦ All-get_or (λ other. other ≢ byte) (take at text) k 0
          (omega (arith, low, length-take-le at text inside)) free (get_or-take at text k 0 low ∙ is)
      | inr high ↦
          let there : at + (k - at) ≡ k = omega (arith, high) in
          none (k - at) ((each (k - at) (omega (arith, within, short, high))).1
          (ap (λ l. get_or l (k - at) 0) (take_rest text at) ∙ get_or-drop at text (k - at) 0 ∙ ap (λ n. get_or text n 0) there ∙ is))
    ])

-- a text whose first `front` bytes are free of a byte is free of it exactly where its rest is
pub free_of_rest : (byte front : ℕ) (text : List ℕ) → front ≤ length text → IsFreeOf byte (take front text)
    → IsFreeOf byte text ↔ IsFreeOf byte (take (length text - front) (drop front text))
free_of_rest byte front text inside free = (
  λ whole. subst (IsFreeOf byte) (sym (take_rest text front)) (All-drop (λ other. other ≢ byte) front text whole),
  λ rest. subst (IsFreeOf byte) (take-append-drop front text)
      (All-append (λ other. other ≢ byte) (take front text) (drop front text) free
      (subst (IsFreeOf byte) (take_rest text front) rest)),
)

-- ---- how often a byte is there

-- lemmas on how often a byte is in a text, of which the first `at` bytes are counted
module _ (byte at : ℕ) (text : List ℕ) (inside : at ≤ length text) where
  -- whether a byte is the one that is counted
  abbrev is_it : ℕ → Bool
  is_it other = other == byte

  -- the byte is `count` times in the counted bytes and `more` times in the rest: together that is how often it is in
  -- the text
  pub count_rest : (count more : ℕ) → count ≡ count_by is_it (take at text)
      → more ≡ count_by is_it (take (length text - at) (drop at text)) → count + more ≡ count_by is_it text
  count_rest count more front rest =
      omega (
        arith,
        front,
        rest ∙ ap (count_by is_it) (take_rest text at),
        sum_by-append (λ other. cond (is_it other) 1 0) (take at text) (drop at text),
        ap (count_by is_it) (take-append-drop at text),
      )

  -- the byte is `count` times in the counted bytes and `more` times in the next 64: together that is how often it is in
  -- the first `at` + 64
  pub count_block : (count more : ℕ) → 64 ≤ length text - at → count ≡ count_by is_it (take at text)
      → more ≡ count_by is_it (take 64 (take (length text - at) (drop at text))) → (more ≤ 64)
      × (count + more ≡ count_by is_it (take (at + 64) text))
  count_block count more room front block =
      let both : take at text ++ take 64 (drop at text) ≡ take (at + 64) text = sym (take-add at 64 text) in
      let is : more ≡ count_by is_it (take 64 (drop at text)) = block ∙ ap (λ l. count_by is_it (take 64 l)) (take_rest text at) in (
        omega (
          arith,
          is,
          count_by-le-length is_it (take 64 (drop at text)),
          length-take-le 64 (drop at text)
              (omega (arith, room, length-drop at text)),
        ),
        omega (
          arith,
          front,
          is,
          sum_by-append (λ other. cond (is_it other) 1 0) (take at text)
              (take 64 (drop at text)),
          ap (count_by is_it) both,
        ),
      )
