-- A text is cut at the first of some byte, as `split_first` does: at hyphens for ranges and first subtags, at vertical
-- bars for the fields of a line, and at line feeds for the lines of a text.
use Rattle.std.proofs.Common.{◌≡◌, ◌≢◌, ◌<◌, ◌+◌, ◌++◌, ◌==◌, ◌&&◌, ◌∙◌, ℕ, false, List, [], ◌∷◌, refl, sym, ap, arith}
use Rattle.std.proofs.Common.{length, take, drop, length-append, suc}
use Rattle.std.specs.Prelude.{is_some}
use Rattle.std.specs.List.{All, after_first, before_first, position_or_len}
use Rattle.std.proofs.lemmas.Bool.{eq-eqb, ne_eqb}
use Rattle.std.proofs.lemmas.List.{take_all, take-append-le, drop_all}
use Rattle.std.proofs.lemmas.List.Elements.{All-head, All-tail, All-weaker}
use Rattle.std.proofs.lemmas.List.Splits.{length-slice_split, slice_split_at, slice_split_none}
use Rattle.lt_jar.specs.Lines.{lines_of}
use Rattle.lt_jar.proofs.CutLemmas.{lines_of-ended, lines_of-last}
use Rattle.lt_rows.specs.Splitting.{IsFreeOf}
use Rattle.lt_codes.specs.Codes.{first_subtag}
use Rattle.lt_codes.specs.Rows.{code_of, fields_of, is_range}

-- lemmas on the first place of a byte
module _ (byte : ℕ) where
  -- b is not `byte`
  abbrev other : ℕ → Type 0
  other = λ b. b ≢ byte

  -- if `byte` follows a front that is free of it, its first place is the length of the front
  place : (front rest : List ℕ) → IsFreeOf byte front → position_or_len (λ b. b == byte) (front ++ byte ∷ rest) ≡ length front
  place [] rest free = rw (eq-eqb byte byte refl) refl
  place (b ∷ front) rest free = rw (
    ne_eqb b byte (All-head other b front free),
    place front rest (All-tail other b front free),
  ) (omega arith)

  -- in a text that is free of `byte`, the length stands for its place
  place_none : (text : List ℕ) → IsFreeOf byte text → position_or_len (λ b. b == byte) text ≡ length text
  place_none [] free = refl
  place_none (b ∷ text) free = rw (ne_eqb b byte (All-head other b text free), place_none text (All-tail other b text free)) (omega arith)

  -- a front, `byte` and a rest, without the first two, are the rest
  drop_past : (front rest : List ℕ) → drop (length front + 1) (front ++ byte ∷ rest) ≡ rest
  drop_past [] rest = refl
  drop_past (b ∷ front) rest =
      let next : length (b ∷ front) + 1 ≡ suc (length front + 1) = omega arith in
      ap (λ n. drop n ((b ∷ front) ++ byte ∷ rest)) next ∙ drop_past front rest

  -- if `byte` follows a front that is free of it, what is before the first `byte` is the front
  pub before_found : (text front rest : List ℕ) → IsFreeOf byte front → text ≡ front ++ byte ∷ rest
      → before_first (λ b. b == byte) text ≡ front
  before_found text front rest free is =
      ap (before_first (λ b. b == byte)) is ∙ ap (λ n. take n (front ++ byte ∷ rest)) (place front rest free)
      ∙ take-append-le (length front) front (byte ∷ rest) (omega arith) ∙ take_all (length front) front (omega arith)

  -- if `byte` follows a front that is free of it, what is after the first `byte` is the rest
  pub after_found : (text front rest : List ℕ) → IsFreeOf byte front → text ≡ front ++ byte ∷ rest
      → after_first (λ b. b == byte) text ≡ rest
  after_found text front rest free is =
      ap (after_first (λ b. b == byte)) is ∙ ap (λ n. drop (n + 1) (front ++ byte ∷ rest)) (place front rest free) ∙ drop_past front rest

  -- if `byte` is not in a text, what is before the first `byte` is the whole text
  pub before_none : (text : List ℕ) → IsFreeOf byte text → before_first (λ b. b == byte) text ≡ text
  before_none text free = ap (λ n. take n text) (place_none text free) ∙ take_all (length text) text (omega arith)

  -- if `byte` is not in a text, nothing is after the first `byte`
  pub after_none : (text : List ℕ) → IsFreeOf byte text → after_first (λ b. b == byte) text ≡ []
  after_none text free = ap (λ n. drop (n + 1) text) (place_none text free) ∙ drop_all (length text + 1) text (omega arith)

-- a field with a hyphen (45) is a range exactly if both parts of it are codes of three letters
pub range_found : (field first last : List ℕ) → IsFreeOf 45 first × (field ≡ first ++ 45 ∷ last)
    → is_range field ≡ (is_some (code_of 3 last) && is_some (code_of 3 first))
range_found field first last split =
    ap (λ (l : List ℕ). is_some (code_of 3 l) && is_some (code_of 3 (before_first (λ byte. byte == 45) field)))
    (after_found 45 field first last split.0 split.1)
    ∙ ap (λ (l : List ℕ). is_some (code_of 3 last) && is_some (code_of 3 l)) (before_found 45 field first last split.0 split.1)

-- a field without a hyphen (45) is no range
pub range_none : (field : List ℕ) → IsFreeOf 45 field → is_range field ≡ false
range_none field free =
    ap (λ (l : List ℕ). is_some (code_of 3 l) && is_some (code_of 3 (before_first (λ byte. byte == 45) field)))
    (after_none 45 field free)

-- the first subtag of a text with a hyphen (45) is as long as what is before the first hyphen
pub first_found : (text first rest : List ℕ) → IsFreeOf 45 first × (text ≡ first ++ 45 ∷ rest) → length first ≡ length (first_subtag text)
first_found text first rest split = sym (ap length (before_found 45 text first rest split.0 split.1))

-- the first subtag of a text without a hyphen (45) is as long as the text
pub first_none : (text : List ℕ) → IsFreeOf 45 text → length text ≡ length (first_subtag text)
first_none text free = sym (ap length (before_none 45 text free))

-- ---- fields

-- no byte of a text without a vertical bar (124) ends a field
bars : (text : List ℕ) → IsFreeOf 124 text → All (λ (byte : ℕ). (byte == 124) ≡ false) text
bars text free = All-weaker (λ (byte : ℕ). byte ≢ 124) (λ (byte : ℕ). (byte == 124) ≡ false) (λ byte other. ne_eqb byte 124 other) text free

-- a field in front of a vertical bar (124) is the first field, and those after the bar follow
pub field_next : (rest field after : List ℕ) → IsFreeOf 124 field × (rest ≡ field ++ 124 ∷ after) → fields_of rest ≡ field ∷ fields_of after
field_next rest field after split = ap fields_of split.1
    ∙ slice_split_at (λ (byte : ℕ). byte == 124) field 124 after (bars field split.0) refl

-- a text without a vertical bar (124) is one field
pub field_last : (rest : List ℕ) → IsFreeOf 124 rest → fields_of rest ≡ rest ∷ []
field_last rest free = slice_split_none (λ (byte : ℕ). byte == 124) rest (bars rest free)

-- a line has at least one field
pub field_some : (rest : List ℕ) → fields_of rest ≡ [] → ⊥
field_some rest none =
    let long = length-slice_split (λ (byte : ℕ). byte == 124) rest in
    let zero : length (fields_of rest) ≡ 0 = ap length none in
    omega (arith, long, zero)

-- ---- lines

-- if a line feed (10) follows a text without one, that text is the first line; the lines of `after`, which is shorter
-- than the whole, follow
pub line_next : (text line after : List ℕ) → IsFreeOf 10 line × (text ≡ line ++ 10 ∷ after)
    → (lines_of text ≡ line ∷ lines_of after) × (length after < length text)
line_next text line after split =
    (ap lines_of split.1 ∙ lines_of-ended line after split.0, omega (arith, ap length split.1, length-append line (10 ∷ after)))

-- a text without a line feed (10) that is not empty is one line, and no text is left
pub line_last : (text : List ℕ) → IsFreeOf 10 text → (length text ≡ 0 → ⊥) → (lines_of text ≡ text ∷ lines_of []) × (0 < length text)
line_last text free some = (lines_of-last text free (omega (arith, some)), omega (arith, some))
