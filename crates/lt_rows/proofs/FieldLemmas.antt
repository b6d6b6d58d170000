-- Lemmas for the functions of `rows` that find a field. The rest of a row is what is left of it behind the fields that
-- are skipped. The lemmas say where the first field of a rest ends, and from where to where this field goes in the row.
use Rattle.std.proofs.Common.{refl, ◌≡◌, ◌≢◌, ◌≤◌, ◌<◌, ◌+◌, ◌-◌, ◌↔◌, ◌++◌, [], ◌∷◌, ◌∙◌, ℕ, zero, suc, Bool, true}
use Rattle.std.proofs.Common.{false, IsTrue, List, Option, Some, None, inl, inr, length, sym, ap, arith, subst, take}
use Rattle.std.proofs.Common.{drop, get_or, ne_eqb, append_assoc, append-nil, length-append, take-append-drop}
use Rattle.std.proofs.Math.Seq.{take-append_seam, drop-append_seam, drop-length}
use Rattle.std.proofs.lemmas.List.{append_cancel_left, append_cancel_right, drop-drop, drop-take, get_or-take}
use Rattle.std.proofs.lemmas.List.{length-drop, length-take-le, take_rest}
use Rattle.std.proofs.lemmas.List.Elements.{All-head, All-tail}
use Rattle.lt_rows.specs.Quotes.{IsFreeOutside, is_quoted, place_after, place_at, place_outside}
use Rattle.lt_rows.specs.Rows.{EndsField, HasField, IsAfterField, IsEnded, IsFieldAt, IsRowField, Skips, separated, separator}
use Rattle.lt_rows.specs.Splitting.{IsFreeOf, IsPlaceOf}
use Rattle.lt_rows.specs.declared.quotes.Place.TheVariants as places
use Rattle.lt_rows.specs.declared.rows.Separator.{Separator}
use Rattle.lt_rows.specs.declared.rows.Separator.TheVariants as separators
use Rattle.lt_rows.proofs.NearLemmas.{split_there}
use Rattle.lt_rows.proofs.RowLemmas.{free_of_none, place_at-append, quoted_of_free, skips_more}

-- ---- fields by their first byte

-- lemmas on CSV whose delimiter is the byte d
module _ (d : ℕ) where
  -- outside of quotes, after a byte that is neither a delimiter nor a line feed (10), a field goes on plain
  plain_after : (byte : ℕ) → byte ≢ d → byte ≢ 10 → place_outside d byte ≡ places.Plain
  plain_after byte other feed = rw (ne_eqb byte 10 feed, ne_eqb byte d other) refl

  -- in a row without line feeds, a field without delimiters that goes on plain does so to its end; `more` is what
  -- follows it in the row
  plain_on : (field more : List ℕ) → IsFreeOf d field → IsFreeOf 10 (field ++ more) → place_at d places.Plain field ≡ places.Plain
  plain_on [] more free line = refl
  plain_on (byte ∷ field) more free line =
      let next = plain_after byte (All-head (λ (b : ℕ). b ≢ d) byte field free) (All-head (λ (b : ℕ). b ≢ 10) byte (field ++ more) line) in
      ap (λ p. place_at d p field) next
      ∙ plain_on field more (All-tail (λ (b : ℕ). b ≢ d) byte field free) (All-tail (λ (b : ℕ). b ≢ 10) byte
      (field ++ more) line)

  -- a field of a row without line feeds that begins with no quote (34) ends outside of quotes
  closed_plain : (field more : List ℕ) → (get_or (field ++ more) 0 0 ≡ 34 → ⊥) → IsFreeOf d field
      → IsFreeOf 10 (field ++ more) → is_quoted (place_at d places.Fresh field) ≡ false
  closed_plain [] more first free line = refl
  closed_plain (byte ∷ field) more first free line =
      let next : place_after d places.Fresh byte ≡ places.Plain =
      rw (ne_eqb byte 34 first) (plain_after byte (All-head (λ (b : ℕ). b ≢ d) byte field free)
      (All-head (λ (b : ℕ). b ≢ 10) byte (field ++ more) line)) in
      ap is_quoted (ap (λ p. place_at d p field) next
      ∙ plain_on field more (All-tail (λ (b : ℕ). b ≢ d) byte field free) (All-tail (λ (b : ℕ). b ≢ 10) byte
      (field ++ more) line))

  -- Text within quotes is followed by the quote (34) that closes it, and by a rest. If no byte `stop` of the rest is
  -- outside of quotes, none of the whole is.
  free_quoted : (stop : ℕ) (body rest : List ℕ) → IsFreeOf 34 body → IsFreeOutside d stop places.Fresh rest
      → IsFreeOutside d stop places.Quoted (body ++ 34 ∷ rest)
  free_quoted stop [] rest free more = (λ _. refl, more)
  free_quoted stop (byte ∷ body) rest free more = (
    λ _. refl,
    rw (ne_eqb byte 34 (All-head (λ (b : ℕ). b ≢ 34) byte body free))
        (free_quoted stop body rest (All-tail (λ (b : ℕ). b ≢ 34) byte body free) more),
  )

  -- a quote (34), a body without quotes, and a quote are a field that a delimiter may end
  quoted_field : (body : List ℕ) → d ≢ 34 → IsFreeOf 34 body → IsEnded (separators.Delimiter d) (34 ∷ body ++ 34 ∷ [])
  quoted_field body unquoted free = record {
    field = (λ e. absurd (unquoted (sym e)), free_quoted d body [] free tt);
    closed = ap is_quoted (place_at-append d places.Quoted body (34 ∷ []) ∙ ap (λ p. place_at d p (34 ∷ [])) (quoted_of_free d body free));
  }

-- ---- where a field ends

-- the first tab (9) of a rest is where its first field ends
pub tab_end : (row : List ℕ) (end : Option ℕ) → IsPlaceOf 9 row end → EndsField separators.Tab row end
tab_end row None p = p
tab_end row (Some i) p = (p.0, record { field = p.1; closed = tt }, p.2)

-- in a rest without line feeds that begins with no quote (34), the first delimiter is where the first field ends
pub line_end : (d : ℕ) (row : List ℕ) (end : Option ℕ) → (get_or row 0 0 ≡ 34 → ⊥) → IsFreeOf 10 row
    → IsPlaceOf d row end → EndsField (separators.Delimiter d) row end
line_end d row None first line p = free_of_none d d places.Fresh row p
line_end d row (Some i) first line p = (
  p.0,
  record {
    field = free_of_none d d places.Fresh (take i row) p.1;
    closed = closed_plain d (take i row) (drop i row)
        (subst (λ (l : List ℕ). get_or l 0 0 ≡ 34 → ⊥) (sym (take-append-drop i row)) first) p.1
        (subst (IsFreeOf 10) (sym (take-append-drop i row)) line);
  },
  p.2,
)

-- The first field of a rest that has no line feeds and begins with no quote (34), as `quoted` tells, ends at the first
-- delimiter. The rest is the first `count` bytes of a text.
pub line_end_of : (d : ℕ) (text : List ℕ) (count : ℕ) (quoted : Bool) (end : Option ℕ) → count ≤ length text
    → IsTrue quoted ↔ ((0 < count) × (get_or text 0 0 ≡ 34)) → quoted ≡ false
    → IsFreeOf 10 (take count text) → IsPlaceOf d (take count text) end → EndsField (separators.Delimiter d) (take count text) end
line_end_of d text count quoted end within tells is line p = line_end d (take count text) end (first count tells) line p
  where
    first : (n : ℕ) → IsTrue quoted ↔ ((0 < n) × (get_or text 0 0 ≡ 34)) → get_or (take n text) 0 0 ≡ 34 → ⊥
    first zero says e = absurd (omega (arith, e))
    first (suc n) says e =
        let yes : quoted ≡ true = says.1 (omega arith, sym (get_or-take (suc n) text 0 0 (omega arith)) ∙ e) in
        let bad : true ≡ false = sym yes ∙ is in cc

-- in a rest that begins with a field and a separator, the first field ends behind that field
pub end_by_parts : (S : Separator) (row field more : List ℕ) → IsEnded S field → row ≡ field ++ separator S ∷ more
    → EndsField S row (Some (length field))
end_by_parts S row field more ended split =
    let front : take (length field) row ≡ field = ap (take (length field)) split ∙ take-append_seam field (separator S ∷ more) in
    let through = split ∙ sym (append_assoc field (separator S ∷ []) more) in
    let long : length field + 1 ≡ length (field ++ separator S ∷ []) = sym (length-append field (separator S ∷ [])) in
    let rest : drop (length field + 1) row ≡ more = rw (through, long) (drop-append_seam (field ++ separator S ∷ []) more) in
    (omega (arith, ap length split, length-append field (separator S ∷ more)), subst (IsEnded S) (sym front) ended, rw (front, rest) split)

-- lemmas on a rest that begins with a quote (34), the first `count` bytes of `text`: the next quote has `within` bytes
-- before it, the first quote not counted
module _ (d : ℕ) (text : List ℕ) (count : ℕ) (some : 0 < count) (le : count ≤ length text) (quote : get_or text 0 0 ≡ 34) (within : ℕ)
    (p : IsPlaceOf 34 (take (count - 1) (take (length text - 1) (drop 1 text))) (Some within)) (unquoted : d ≢ 34) where
  -- the rest of the row
  abbrev row : List ℕ
  row = take count text

  -- what is behind its first quote
  abbrev tail : List ℕ
  tail = take (count - 1) (take (length text - 1) (drop 1 text))

  -- what is between its two quotes
  abbrev body : List ℕ
  body = take within tail

  -- the rest has `count` bytes
  row_long : length row ≡ count
  row_long = length-take-le count text le

  -- the tail is the rest without its first quote
  tail_is : tail ≡ drop 1 row
  tail_is =
      let whole : 1 + (count - 1) ≡ count = omega (arith, some) in
      ap (take (count - 1)) (take_rest text 1) ∙ sym (drop-take 1 (count - 1) text) ∙ ap (λ n. drop 1 (take n text)) whole

  -- the tail has one byte less
  pub tail_long : length tail ≡ count - 1
  tail_long = ap length tail_is ∙ length-drop 1 row ∙ ap (λ n. n - 1) row_long

  -- the body has `within` bytes
  body_long : length body ≡ within
  body_long = length-take-le within tail (omega (arith, p.0))

  -- the rest is the field in quotes, and what follows it
  row_is : row ≡ (34 ∷ body ++ 34 ∷ []) ++ drop (within + 1) tail
  row_is = split_there 34 row 0 (omega (arith, row_long, some)) (get_or-take count text 0 0 some ∙ quote)
      ∙ ap (λ l. 34 ∷ l) (sym tail_is ∙ p.2 ∙ sym (append_assoc body (34 ∷ []) (drop (within + 1) tail)))

  -- the field in quotes has two bytes more than its body
  field_long : length (34 ∷ body ++ 34 ∷ []) ≡ within + 2
  field_long = omega (arith, body_long, length-append body (34 ∷ []))

  -- the field in quotes is one that a delimiter may end
  ended : IsEnded (separators.Delimiter d) (34 ∷ body ++ 34 ∷ [])
  ended = quoted_field d body unquoted p.1

  -- where the rest ends with the quote that closes, no separator ends the field
  pub quoted_last : within + 2 ≡ count → EndsField (separators.Delimiter d) row None
  quoted_last last =
      let none : drop (within + 1) tail ≡ [] = ap (λ n. drop n tail) (omega (arith, last, tail_long)) ∙ drop-length tail in
      subst (IsRowField (separators.Delimiter d))
      (sym (row_is ∙ ap (λ l. (34 ∷ body ++ 34 ∷ []) ++ l) none ∙ append-nil (34 ∷ body ++ 34 ∷ []))) ended.field

  -- where a delimiter follows the quote that closes, it ends the field
  pub quoted_more : within + 2 < count → get_or text (within + 2) 0 ≡ d → EndsField (separators.Delimiter d) row (Some (within + 2))
  quoted_more below is =
      let inside : within + 2 < length row = omega (arith, below, row_long) in
      let front : take (within + 2) row ≡ 34 ∷ body ++ 34 ∷ [] = ap (λ n. take n row) (sym field_long)
      ∙ ap (take (length (34 ∷ body ++ 34 ∷ []))) row_is
      ∙ take-append_seam (34 ∷ body ++ 34 ∷ []) (drop (within + 1) tail) in (
        inside,
        subst (IsEnded (separators.Delimiter d)) (sym front) ended,
        split_there d row (within + 2) inside
            (get_or-take count text (within + 2) 0 below ∙ is),
      )

-- ---- fields that are skipped

-- the rest of a row behind the place `at`, as slices of the text whose first `count` bytes are the row, is the row
-- without its first `at` bytes
pub left_is : (text : List ℕ) (count at : ℕ) → at ≤ count → take (count - at) (take (length text - at) (drop at text))
    ≡ drop at (take count text)
left_is text count at le = ap (take (count - at)) (take_rest text at) ∙ sym (drop-take at (count - at) text)
    ∙ ap (λ n. drop at (take n text)) (omega (arith, le))

-- one field more is skipped: it begins at `at`, has `end` bytes, and a separator ends it
pub skips_one : (S : Separator) (before at end : ℕ) (row : List ℕ) → Skips S before row (drop at row)
    → EndsField S (drop at row) (Some end) → (at + (end + 1) ≤ length row)
    × Skips S (before + 1) row (drop (at + (end + 1)) row)
skips_one S before at end row s e = (
  omega (arith, e.0, length-drop at row),
  subst (Skips S (before + 1) row) (drop-drop (end + 1) at row)
      (skips_more S before row (drop at row) (take end (drop at row)) (drop (end + 1) (drop at row)) s e.1 e.2),
)

-- ---- a field by its places

-- what is before the place `start`, where the rest begins, is the skipped fields with their separators
front_skipped : (S : Separator) (before start : ℕ) (row : List ℕ) → start ≤ length row
    → (s : Skips S before row (drop start row)) → take start row ≡ separated S s.before
front_skipped S before start row inside s =
    append_cancel_right (take start row) (separated S s.before) (drop start row) (take-append-drop start row ∙ s.row_is)

-- a field at the front of the rest, which begins at `start`, has the skipped fields before it
field_there : (S : Separator) (before start : ℕ) (row field after : List ℕ) → start ≤ length row
    → Skips S before row (drop start row) → IsRowField S field → IsAfterField S field after
    → drop start row ≡ field ++ after
    → HasField S before row (take start row) field after
field_there S before start row field after inside s one ends split = record {
  before = s.before;
  each = s.each;
  number = s.number;
  front_is = front_skipped S before start row inside s;
  one = one;
  ends = ends;
  row_is = sym (take-append-drop start row) ∙ ap (λ l. take start row ++ l) split ∙ sym (append_assoc (take start row) field after);
}

-- a field that begins at `start`, behind skipped ones, and that a separator ends, ends `end` bytes further on
pub field_ended : (S : Separator) (before start end : ℕ) (row : List ℕ) → start ≤ length row
    → Skips S before row (drop start row) → EndsField S (drop start row) (Some end)
    → IsFieldAt S before row start (start + end)
field_ended S before start end row inside s e =
    let rest = drop start row in
    let field : take (start + end - start) rest ≡ take end rest = ap (λ n. take n rest) (omega arith) in
    let after : drop (start + end) row ≡ drop end rest = sym (drop-drop end start row) in
    let after_is : drop end rest ≡ separator S ∷ drop (end + 1) rest =
    append_cancel_left (take end rest) (drop end rest) (separator S ∷ drop (end + 1) rest) (take-append-drop end rest ∙ e.2) in
    record {
      ordered = omega arith;
      inside = omega (arith, e.0, length-drop start row);
      at = rw (field, after) (field_there S before start row (take end rest) (drop end rest) inside s e.1.field
          (inr (drop (end + 1) rest, e.1.closed, after_is)) (sym (take-append-drop end rest)));
    }

-- a field that begins at `start`, behind skipped ones, and that no separator ends, goes to the end of the row
pub field_last : (S : Separator) (before start count : ℕ) (row : List ℕ) → count ≡ length row → start ≤ count
    → Skips S before row (drop start row) → IsRowField S (drop start row) → IsFieldAt S before row start count
field_last S before start count row is inside s one =
    let rest = drop start row in
    let field : take (count - start) rest ≡ rest = ap (λ n. take (n - start) rest) is ∙ take_rest row start in
    let after : drop count row ≡ [] = ap (λ n. drop n row) is ∙ drop-length row in
    record {
      ordered = inside;
      inside = omega (arith, is);
      at = rw (field, after) (field_there S before start row rest [] (omega (arith, is, inside)) s one (inl refl) (sym (append-nil rest)));
    }
