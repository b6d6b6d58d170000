-- Lemmas on the lines of a text by their form (tags, rows of TSV or records of CSV), which most other files use: which
-- lines a text has, where it is within quotes, and how many line feeds it has.
use Rattle.std.proofs.Common.{◌≡◌, ◌≢◌, ◌≤◌, ◌<◌, ◌+◌, ◌++◌, ◌∷◌, ◌∙◌, ℕ, List, [], true, false, length, ap, refl}
use Rattle.std.proofs.Common.{arith, append_assoc, length-append, cond, ◌==◌, ne_eqb}
use Rattle.std.specs.List.{AllByRecursion}
use Rattle.std.proofs.lemmas.List.Elements.{All-append, All-head, All-tail}
use Rattle.std.proofs.lemmas.List.Sums.{sum_by-append}
use Rattle.lt_jar.specs.Lines.{IsOneLine}
use Rattle.lt_jar.proofs.CutLemmas.{lines_of-ended, lines_of-last}
use Rattle.lt_lines.specs.Answering.{kept_of, place_then}
use Rattle.lt_lines.specs.Owed.{IsUnit, IsWhole, ended, feeds_in, is_open, place_of, units_of, IsShort}
use Rattle.lt_rows.specs.Quotes.{is_quoted, place_at}
use Rattle.lt_rows.specs.declared.quotes.Place.{Place}
use Rattle.lt_rows.specs.declared.quotes.Place.TheVariants as places
use Rattle.lt_lines.specs.declared.forms.LineForm.{LineForm}
use Rattle.lt_rows.proofs.RowLemmas.{free-append, free_of_none, place_after_feed, place_at-append, records_from-ended, records_from-last}
use Rattle.lt_lines.specs.declared.forms.LineForm.TheVariants as forms

-- the empty text has no lines, no line feed ends a line in it, it is short, it ends outside of quotes, and nothing of
-- it is kept
pub record HasNone (form : LineForm) : Type 0 where
  pub short : IsShort form []
  pub units : units_of form [] ≡ []
  pub unit : IsUnit form []
  pub closed : place_of form [] ≡ places.Fresh
  pub kept : kept_of form [] ≡ []

-- what `HasNone` says of the empty text is true in every form
pub of_none : (form : LineForm) → HasNone form
of_none forms.Tag = record { short = tt; units = refl; unit = λ k d lt. absurd (omega (arith, lt)); closed = refl; kept = refl }
of_none (forms.Csv row delimiter) = record { short = omega arith; units = refl; unit = tt; closed = refl; kept = refl }
of_none (forms.Row row) = record {
  short = omega arith;
  units = refl;
  unit = λ k d lt. absurd (omega (arith, lt));
  closed = refl;
  kept = refl;
}

-- the lines of a text that begins with a whole line and its line feed (10): this line, and then the lines of the rest
pub units-ended : (form : LineForm) (line rest : List ℕ) → IsWhole form line → units_of form (line ++ 10 ∷ rest) ≡ line ∷ units_of form rest
units-ended (forms.Csv row delimiter) line rest h = records_from-ended delimiter places.Fresh line rest h.unit h.closed
units-ended form line rest h = lines_of-ended line rest h.unit

-- a text in which no line feed ends a line is its only line, unless it is empty
pub units-last : (form : LineForm) (line : List ℕ) → IsUnit form line → 0 < length line → units_of form line ≡ line ∷ []
units-last (forms.Csv row delimiter) line one some = records_from-last delimiter places.Fresh line one some
units-last form line one some = lines_of-last line one some

-- a line that no line feed ends goes on with bytes that have no line feed, and is still such a line
pub unit-append : (form : LineForm) (last part : List ℕ) → IsUnit form last → IsOneLine part → IsUnit form (last ++ part)
unit-append (forms.Csv row delimiter) last part h one = free-append delimiter 10 places.Fresh last part h
    (free_of_none delimiter 10 (place_at delimiter places.Fresh last) part one)
unit-append form last part h one = All-append (λ (byte : ℕ). byte ≢ 10) last part h one

-- the place at the end of a text that goes on with `part` is the one to which `part` leads from the place at the end of
-- the front, `last`
pub place_of-append : (form : LineForm) (last part : List ℕ) → place_of form (last ++ part) ≡ place_then form (place_of form last) part
place_of-append (forms.Csv row delimiter) last part = place_at-append delimiter places.Fresh last part
place_of-append form last part = refl

-- the only place within quotes is `Quoted`
pub quoted_is : (place : Place) → is_quoted place ≡ true → place ≡ places.Quoted
quoted_is places.Quoted inside = refl
quoted_is places.Fresh inside = let bad : false ≡ true = inside in cc
quoted_is places.Plain inside = let bad : false ≡ true = inside in cc

-- a line that is within quotes goes on after a line feed (10), and is still within quotes
pub feed_within : (form : LineForm) (last : List ℕ) → IsUnit form last → is_open form last ≡ true
    → IsUnit form (last ++ 10 ∷ []) × (place_of form (last ++ 10 ∷ []) ≡ places.Quoted)
feed_within (forms.Csv row delimiter) last h inside = (
  free-append delimiter 10 places.Fresh last (10 ∷ []) h (λ e. inside, tt),
  place_at-append delimiter places.Fresh last (10 ∷ [])
      ∙ ap (λ p. place_at delimiter p (10 ∷ [])) (quoted_is (place_at delimiter places.Fresh last) inside),
)
feed_within form last h inside = let bad : false ≡ true = inside in cc

-- the lines of a text that begins with whole lines, each with its line feed: these lines, and then the lines of the
-- rest
pub ended_first : (form : LineForm) (lines : List (List ℕ)) (more : List ℕ) → AllByRecursion (IsWhole form) lines
    → units_of form (ended lines ++ more) ≡ lines ++ units_of form more
ended_first form [] more h = refl
ended_first form (line ∷ lines) more h =
    rw (append_assoc line (10 ∷ ended lines) more, units-ended form line (ended lines ++ more) h.0, ended_first form lines more h.1) refl

-- whole lines leave no quote open, so the place at the end of a text depends only on its last line
pub place_of_ended : (form : LineForm) (lines : List (List ℕ)) (last : List ℕ) → AllByRecursion (IsWhole form) lines
    → place_of form (ended lines ++ last) ≡ place_of form last
place_of_ended form [] last h = refl
place_of_ended (forms.Csv row delimiter) (line ∷ lines) last h =
    ap (place_at delimiter places.Fresh) (append_assoc line (10 ∷ ended lines) last)
    ∙ place_at-append delimiter places.Fresh line (10 ∷ (ended lines ++ last))
    ∙ ap (λ p. place_at delimiter p (ended lines ++ last)) (place_after_feed delimiter
    (place_at delimiter places.Fresh line) h.0.closed) ∙ place_of_ended (forms.Csv row delimiter) lines last h.1
place_of_ended form lines last h = refl

-- the bytes of lines and one line more, each with its line feed (10), are those of the lines, and then that line and
-- its line feed
pub ended-append : (lines : List (List ℕ)) (line : List ℕ) → ended (lines ++ line ∷ []) ≡ ended lines ++ (line ++ 10 ∷ [])
ended-append [] line = refl
ended-append (l ∷ lines) line = rw (ended-append lines line, append_assoc l (10 ∷ ended lines) (line ++ 10 ∷ [])) refl

-- there are no more lines than bytes of them and of their line feeds
pub ended-length : (lines : List (List ℕ)) → length lines ≤ length (ended lines)
ended-length [] = omega arith
ended-length (line ∷ lines) = let fewer = ended-length lines in omega (arith, length-append line (10 ∷ ended lines))

-- ---- line feeds

-- the line feeds of a text that goes on with `more` are those of both
pub feeds_in-append : (text more : List ℕ) → feeds_in (text ++ more) ≡ feeds_in text + feeds_in more
feeds_in-append text more = sum_by-append (λ (byte : ℕ). cond (byte == 10) 1 0) text more

-- bytes that are one line have no line feed
pub no_feeds : (text : List ℕ) → IsOneLine text → feeds_in text ≡ 0
no_feeds [] one = refl
no_feeds (byte ∷ text) one =
    rw (ne_eqb byte 10 (All-head (λ (b : ℕ). b ≢ 10) byte text one))
    (omega (arith, no_feeds text (All-tail (λ (b : ℕ). b ≢ 10) byte text one)))

-- a text that goes on with `part`, which has no line feed, and a line feed (10) has one line feed more
pub one_feed : (text part : List ℕ) → IsOneLine part → feeds_in (text ++ (part ++ 10 ∷ [])) ≡ feeds_in text + 1
one_feed text part one =
    rw (feeds_in-append text (part ++ 10 ∷ []), feeds_in-append part (10 ∷ []), no_feeds part one) refl
