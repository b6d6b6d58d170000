-- Lemmas for `plain_field_at` and `short_field_at`, which find a field in a plain row: one in which each separator
-- parts fields, so that fields end at the next places of the separator.
use Rattle.std.proofs.Common.{◌≡◌, ◌≢◌, ◌≤◌, ◌<◌, ◌+◌, ◌-◌, ◌==◌, [], ◌∷◌, ◌∙◌, ℕ, zero, suc, List, Option, Some, None}
use Rattle.std.proofs.Common.{inl, inr, length, sym, ap, arith, subst, take, drop, get_or}
use Rattle.std.proofs.lemmas.Bool.{eq-eqb, eqb-true, cases_Bool}
use Rattle.std.proofs.lemmas.List.{get_or-drop, get_or-take, length-drop, length-take-le, take_rest}
use Rattle.std.proofs.lemmas.List.Elements.{All-drop, All-from_get_or}
use Rattle.memchr.specs.Find.{Nowhere, NoneBefore, Passes, is_byte, places_from}
use Rattle.lt_rows.specs.Plain.{IsNextPlace, IsPlain}
use Rattle.lt_rows.specs.Rows.{EndsField, HasFewer, IsFieldAt, Skips}
use Rattle.lt_rows.specs.Rows as rows
use Rattle.lt_rows.specs.Splitting.{IsFreeOf, IsNear, IsPlaceOf}
use Rattle.lt_rows.specs.declared.rows.Separator.{Separator}
use Rattle.lt_rows.specs.declared.rows.Separator.TheVariants as separators
use Rattle.lt_rows.proofs.FieldLemmas.{field_ended, field_last, line_end, skips_one, tab_end}
use Rattle.lt_rows.proofs.NearLemmas.{byte_is, row_long, split_there}
use Rattle.lt_rows.proofs.RowLemmas.{skips_last}
use Rattle.lt_jar.proofs.PlaceLemmas.{first_from, none_from}

-- ---- the places of a byte, one after another

-- equal lists have equal heads and equal tails
tail_is : (a b : ℕ) (more others : List ℕ) → a ∷ more ≡ b ∷ others → (a ≡ b) × (more ≡ others)
tail_is a b more others e = (cc, cc)

-- The list of a byte's places, among n from i on, begins with k: the others are its list from k + 1 on.
pub rest_from : (byte : ℕ) (text : List ℕ) (i n k : ℕ) (rest : List ℕ) → places_from (is_byte byte) text i n ≡ k ∷ rest
    → rest ≡ places_from (is_byte byte) text (k + 1) (i + n - (k + 1))
unfolding places_from
rest_from byte text i zero k rest e = cc
rest_from byte text i (suc n) k rest e = elim (cases_Bool (get_or text i 0 == byte)) [
  | inl is ↦
      let both = tail_is i k (places_from (is_byte byte) text (i + 1) n) rest (rw is at e) in
      let left : i + suc n - (k + 1) ≡ n = omega (arith, both.0) in
      sym both.1 ∙ ap (λ j. places_from (is_byte byte) text (j + 1) n) both.0 ∙ ap (places_from (is_byte byte) text (k + 1)) (sym left)
  | inr not ↦
      let left : i + 1 + n - (k + 1) ≡ i + suc n - (k + 1) = omega arith in
      rest_from byte text (i + 1) n k rest (rw not at e) ∙ ap (places_from (is_byte byte) text (k + 1)) left
]

-- lemmas on the first `count` bytes of a text, the row, searched from `start` on in `near`, a front that has them all
-- and may have more
module _ (byte count start : ℕ) (text near : List ℕ) (is : IsNear count text near) (le : start ≤ count) where
  -- the byte is at this place of `near`
  abbrev has : ℕ → Type 0
  has = Passes (is_byte byte) near

  -- the row: the first `count` bytes of the text
  abbrev row : List ℕ
  row = take count text

  -- the row from `start` on
  abbrev left : List ℕ
  left = drop start row

  -- what is left has the bytes of the row but for the first `start`
  left_long : length left ≡ count - start
  left_long = length-drop start row ∙ ap (λ n. n - start) (row_long count text near is)

  -- the byte at the place k of what is left is in `near` at the place `start` + k
  byte_there : (k : ℕ) → start + k < count → get_or left k 0 ≡ get_or near (start + k) 0
  byte_there k below = get_or-drop start row k 0 ∙ byte_is count text near is (start + k) below

  -- where the byte is nowhere from `start` up to `stop`, so many bytes of what is left are free of it
  free_to : (stop : ℕ) → stop ≤ count → Nowhere has start stop → IsFreeOf byte (take (stop - start) left)
  free_to stop below none =
      let short : length (take (stop - start) left) ≡ stop - start = length-take-le (stop - start) left (omega (arith, below, left_long)) in
      All-from_get_or (λ other. other ≢ byte) (take (stop - start) left) 0
      (λ k inside e. none (start + k) (omega arith) (omega (arith, inside, short))
      (eq-eqb (get_or near (start + k) 0) byte (sym (byte_there k (omega (arith, inside, short, below)))
      ∙ sym (get_or-take (stop - start) left k 0 (omega (arith, inside, short))) ∙ e)))

  -- where the byte is nowhere up to the end of the row, all that is left is free of it
  none_left : (stop : ℕ) → count ≤ stop → Nowhere has start stop → IsFreeOf byte left
  none_left stop far none =
      let whole : take (count - start) left ≡ left = ap (λ n. take (n - start) left) (sym (row_long count text near is))
      ∙ take_rest row start in
      subst (IsFreeOf byte) whole (free_to count (omega arith) (λ k low high. none k low (omega (arith, high, far))))

  -- where the byte is first at the place `end` of the row, that is its next place
  at_place : (end stop : ℕ) → end < count → NoneBefore has start stop end → has end → IsNextPlace byte start row (Some end)
  at_place end stop below first passes =
      let inside : end - start < length left = omega (arith, below, first.low, left_long) in
      let there : start + (end - start) ≡ end = omega (arith, first.low) in
      let here : get_or left (end - start) 0 ≡ byte = byte_there (end - start) (omega (arith, there, below))
      ∙ ap (λ n. get_or near n 0) there ∙ eqb-true (get_or near end 0) byte passes in
      (first.low, (inside, free_to end (omega (arith, below)) first.before, split_there byte left (end - start) inside here))

  -- the list of places begins with one in the row: it is the next
  pub next_inside : (end : ℕ) (rest : List ℕ) → end < count
      → places_from (is_byte byte) near start (length near - start) ≡ end ∷ rest → IsNextPlace byte start row (Some end)
  next_inside end rest below e =
      let first = first_from byte near start (length near - start) end rest e in
      at_place end (start + (length near - start)) below first.0 first.1

  -- the list of places begins with one behind the row: there is no next
  pub next_far : (end : ℕ) (rest : List ℕ) → count ≤ end → places_from (is_byte byte) near start (length near - start)
      ≡ end ∷ rest → IsNextPlace byte start row None
  next_far end rest far e =
      let first = first_from byte near start (length near - start) end rest e in
      none_left end far first.0.before

  -- the list of places is empty: there is no next
  pub next_none : places_from (is_byte byte) near start (length near - start) ≡ [] → IsNextPlace byte start row None
  next_none e = none_left (start + (length near - start))
      (omega (arith, is.1, is.2, ap length is.3, length-take-le is.0 text is.2))
      (none_from byte near start (length near - start) e)

-- the list of a byte's places without the first is the list of its places behind the first
pub places_on : (byte start end : ℕ) (near rest : List ℕ) → places_from (is_byte byte) near start (length near - start) ≡ end ∷ rest
    → rest ≡ places_from (is_byte byte) near (end + 1) (length near - (end + 1))
places_on byte start end near rest e =
    let first = first_from byte near start (length near - start) end rest e in
    let same : start + (length near - start) - (end + 1) ≡ length near - (end + 1) = omega (arith, first.0.low, first.0.high) in
    rest_from byte near start (length near - start) end rest e ∙ ap (places_from (is_byte byte) near (end + 1)) same

-- ---- where fields end

-- a row without quotes (34) begins with none
no_quote : (row : List ℕ) → IsFreeOf 34 row → get_or row 0 0 ≡ 34 → ⊥
no_quote [] free e = absurd (omega (arith, e))
no_quote (byte ∷ row) free e = free 0 0 (omega arith) e

-- in the rest of a plain row, the first separator is where the first field ends
pub plain_end : (S : Separator) (start : ℕ) (row : List ℕ) (end : Option ℕ) → IsPlain S row
    → IsPlaceOf (rows.separator S) (drop start row) end → EndsField S (drop start row) end
plain_end separators.Tab start row end plain p = tab_end (drop start row) end p
plain_end (separators.Delimiter d) start row end plain p =
    line_end d (drop start row) end (no_quote (drop start row) (All-drop (λ byte. byte ≢ 34) start row plain.1))
    (All-drop (λ byte. byte ≢ 10) start row plain.0) p

-- lemmas on a plain row, of which `before` fields are skipped, and what is left begins at `start`
module _ (S : Separator) (before start : ℕ) (row : List ℕ) (plain : IsPlain S row) (s : Skips S before row (drop start row)) where
  -- the next separator is where the field ends that begins there
  ends_there : (end : ℕ) → IsNextPlace (rows.separator S) start row (Some end) → EndsField S (drop start row) (Some (end - start))
  ends_there end p = plain_end S start row (Some (end - start)) plain p.1

  -- one field more is skipped, up to the next separator
  pub one_more : (end : ℕ) → IsNextPlace (rows.separator S) start row (Some end) → (end + 1 ≤ length row)
      × Skips S (before + 1) row (drop (end + 1) row)
  one_more end p =
      let there : start + (end - start + 1) ≡ end + 1 = omega (arith, p.0) in
      subst (λ (n : ℕ). (n ≤ length row) × Skips S (before + 1) row (drop n row)) there
      (skips_one S before start (end - start) row s (ends_there end p))

  -- no separator is left: a field with `wanted` others before it, which are more, is not in the row
  pub no_more : (wanted : ℕ) → before < wanted → IsNextPlace (rows.separator S) start row None → HasFewer S wanted row
  no_more wanted few p = skips_last S before wanted row (drop start row) s (plain_end S start row None plain p) few

  -- the field that begins there ends at the next separator
  pub field_up_to : (end : ℕ) → start ≤ length row → IsNextPlace (rows.separator S) start row (Some end) → IsFieldAt S before row start end
  field_up_to end inside p =
      let there : start + (end - start) ≡ end = omega (arith, p.0) in
      subst (IsFieldAt S before row start) there (field_ended S before start (end - start) row inside s (ends_there end p))

  -- no separator is left: the field that begins there goes to the end of the row
  pub field_to_end : (count : ℕ) → count ≡ length row → start ≤ count → IsNextPlace (rows.separator S) start row None
      → IsFieldAt S before row start count
  field_to_end count is inside p = field_last S before start count row is inside s (plain_end S start row None plain p)
