-- Lemmas for `look_at`, which finds in one look whether a row ends within quotes, and where the text of a field is:
-- what it finds is true of the row.
use Rattle.std.proofs.Common.{refl, ◌≡◌, ◌≢◌, ◌≤◌, ◌+◌, ◌-◌, ◌++◌, [], ◌∷◌, ◌∙◌, ℕ, false, List, length, sym, ap, arith}
use Rattle.std.proofs.Common.{subst, take, drop, append_assoc, length-append, take-append-drop}
use Rattle.std.proofs.Math.Seq.{take-append_seam, drop-append_seam}
use Rattle.std.proofs.lemmas.List.{drop-take, length-drop, length-take-le}
use Rattle.std.specs.List.{AllByRecursion}
use Rattle.lt_rows.specs.Quotes.{is_quoted, place_after, place_at}
use Rattle.lt_rows.specs.Rows.{HasReturn, IsEnded, IsFieldAt, IsTextIn, Skips, separated}
use Rattle.lt_rows.specs.Splitting.{IsFreeOf}
use Rattle.lt_rows.specs.Looks.{HasTextAt, IsPlainLine, ends_quoted}
use Rattle.lt_rows.specs.declared.looks.TextAt.{TextAt}
use Rattle.lt_rows.specs.declared.quotes.Place.TheVariants as places
use Rattle.lt_rows.specs.declared.rows.Separator.{Separator}
use Rattle.lt_rows.specs.declared.rows.Separator.TheVariants as separators
use Rattle.lt_rows.proofs.FieldLemmas.{left_is}
use Rattle.lt_rows.proofs.GrammarLemmas.{outside_delimiter}
use Rattle.lt_rows.proofs.RowLemmas.{after_other, closed_of_free, free_of_none, place_at-append}

-- ---- the end of a row

-- a row without quotes (34) ends outside of quotes
pub closed_row : (S : Separator) (row : List ℕ) → IsFreeOf 34 row → ends_quoted S row ≡ false
closed_row separators.Tab row free = refl
closed_row (separators.Delimiter d) row free = closed_of_free d places.Fresh row refl free

-- A row without quotes (34) from `start` on, where a field begins, ends outside of quotes. The row is the first `count`
-- bytes of a text.
pub closed_rest : (d start count : ℕ) (text : List ℕ) → start ≤ count
    → IsFreeOf 34 (take (count - start) (take (length text - start) (drop start text)))
    → is_quoted (place_at d places.Fresh (drop start (take count text))) ≡ false
closed_rest d start count text le free = closed_of_free d places.Fresh (drop start (take count text)) refl
    (subst (IsFreeOf 34) (left_is text count start le) free)

-- the part of a row from `start` on, as a slice of the text whose first `count` bytes are the row
pub rest_slice : (start count : ℕ) (text : List ℕ) → start ≤ count → take (count - start) (drop start text) ≡ drop start (take count text)
rest_slice start count text le = sym (drop-take start (count - start) text) ∙ ap (λ n. drop start (take n text)) (omega (arith, le))

-- lemmas on CSV whose delimiter is the byte d, which is no quote (34)
module _ (d : ℕ) (unquoted : d ≢ 34) where
  -- the place after fields that separators end, and a rest, is the place after only the rest, since the rest begins
  -- where a field does
  fresh_after : (fields : List (List ℕ)) (rest : List ℕ) → AllByRecursion (IsEnded (separators.Delimiter d)) fields
      → place_at d places.Fresh (separated (separators.Delimiter d) fields ++ rest) ≡ place_at d places.Fresh rest
  fresh_after [] rest each = refl
  fresh_after (field ∷ fields) rest each =
      let others = separated (separators.Delimiter d) fields in
      let next : place_after d (place_at d places.Fresh field) d ≡ places.Fresh =
      after_other d (place_at d places.Fresh field) d each.0.closed unquoted ∙ outside_delimiter d unquoted in
      ap (place_at d places.Fresh) (append_assoc field (d ∷ others) rest) ∙ place_at-append d places.Fresh field (d ∷ others ++ rest)
      ∙ ap (λ p. place_at d p (others ++ rest)) next ∙ fresh_after fields rest each.1

  -- the place at the end of a row is that at the end of what is left behind skipped fields, read from where a field
  -- begins
  pub open_from : (before : ℕ) (row rest : List ℕ) → Skips (separators.Delimiter d) before row rest
      → place_at d places.Fresh row ≡ place_at d places.Fresh rest
  open_from before row rest s = ap (place_at d places.Fresh) s.row_is ∙ fresh_after s.before rest s.each

-- ---- texts of fields

-- a list of three parts is cut into them at the places `start` and `end`
cut_in_three : (row a b c : List ℕ) (start end : ℕ) → row ≡ a ++ (b ++ c) → start ≡ length a → end ≡ start + length b
    → (take start row ≡ a) × (take (end - start) (drop start row) ≡ b) × (drop end row ≡ c)
cut_in_three row a b c start end split first last =
    let front : take start row ≡ a = rw (first, split) (take-append_seam a (b ++ c)) in
    let rest : drop start row ≡ b ++ c = rw (first, split) (drop-append_seam a (b ++ c)) in
    let long : end - start ≡ length b = omega (arith, last) in
    let through = split ∙ sym (append_assoc a b c) in
    let whole : end ≡ length (a ++ b) = omega (arith, first, last, length-append a b) in
    (front, rw (long, rest) (take-append_seam b c), rw (whole, through) (drop-append_seam (a ++ b) c))

-- `place` is where the text of a field is, by the places `start` and `end` of the field and the length of its quotes
pub text_there : (S : Separator) (before : ℕ) (row : List ℕ) (start end : ℕ) (quotes text : List ℕ) (place : TextAt)
    → IsFieldAt S before row start end
    → IsTextIn S (take (end - start) (drop start row)) quotes text → place.start ≡ start + length quotes
    → place.end ≡ place.start + length text → HasTextAt S before row place
text_there S before row start end quotes text place f is first last =
    let front = take start row in
    let after = drop end row in
    let field = take (end - start) (drop start row) in
    let parts : (front ++ ((quotes ++ text) ++ quotes)) ++ after ≡ (front ++ quotes) ++ (text ++ (quotes ++ after)) = simp append_assoc in
    let split : row ≡ (front ++ quotes) ++ (text ++ (quotes ++ after)) = f.at.row_is
    ∙ ap (λ l. (front ++ l) ++ after) is.field_is ∙ parts in
    let front_long : length front ≡ start = length-take-le start row (omega (arith, f.ordered, f.inside)) in
    let begins : place.start ≡ length (front ++ quotes) = omega (arith, first, front_long, length-append front quotes) in
    let cut = cut_in_three row (front ++ quotes) text (quotes ++ after) place.start place.end split begins last in
    record {
      front = front;
      field = field;
      after = after;
      at = f.at;
      quotes = quotes;
      text = text;
      is_text = is;
      ordered = omega (arith, last);
      inside = omega (
        arith,
        last,
        begins,
        ap length split,
        length-append (front ++ quotes) (text ++ (quotes ++ after)),
        length-append text (quotes ++ after),
      );
      front_is = cut.0;
      text_is = cut.1;
      after_is = cut.2;
    }

-- a field's quote at its front, if it has one, and its text end within the row
pub text_inside : (S : Separator) (row : List ℕ) (start end : ℕ) (quotes text : List ℕ) → start ≤ end → end ≤ length row
    → IsTextIn S (take (end - start) (drop start row)) quotes text
    → start + length quotes + length text ≤ length row
text_inside S row start end quotes text ordered inside is =
    let long = ap length is.field_is ∙ length-append (quotes ++ text) quotes in
    omega (
      arith,
      long,
      length-append quotes text,
      length-take-le (end - start) (drop start row)
          (omega (arith, ordered, inside, length-drop start row)),
      ordered,
      inside,
    )

-- ---- looks

-- a record of one line has no carriage return
pub line_returns : (S : Separator) (row : List ℕ) → IsPlainLine S row → HasReturn S row → ⊥
line_returns separators.Tab row plain returns = returns
line_returns (separators.Delimiter d) row plain returns = returns (free_of_none d 13 places.Fresh row plain.0)

-- a record of one line has no line feed (10)
pub line_feeds : (S : Separator) (row : List ℕ) → IsPlainLine S row → IsFreeOf 10 row
line_feeds separators.Tab row plain = absurd plain
line_feeds (separators.Delimiter d) row plain = plain.1

-- a field that has `before` others before it begins where they are skipped
pub field_skips : (S : Separator) (before : ℕ) (row : List ℕ) (start end : ℕ) → IsFieldAt S before row start end
    → Skips S before row (drop start row)
field_skips S before row start end f = record {
  before = f.at.before;
  each = f.at.each;
  number = f.at.number;
  row_is = sym (take-append-drop start row) ∙ ap (λ l. l ++ drop start row) f.at.front_is;
}
