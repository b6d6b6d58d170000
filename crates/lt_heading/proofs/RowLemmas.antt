-- Where rows end: in TSV each line feed ends one, in CSV each line feed outside of quotes. The other files use this.
use Rattle.std.proofs.Common.{◌≡◌, ◌≢◌, ◌<◌, ◌++◌, ◌∷◌, ℕ, List, [], true, false, length, refl, arith}
use Rattle.std.proofs.lemmas.List.Elements.{All-append}
use Rattle.lt_jar.specs.Lines.{IsOneLine}
use Rattle.lt_jar.proofs.CutLemmas.{lines_of-ended, lines_of-last}
use Rattle.lt_rows.specs.Quotes.{place_at}
use Rattle.lt_rows.specs.declared.quotes.Place.TheVariants as places
use Rattle.lt_rows.specs.declared.rows.Separator.{Separator}
use Rattle.lt_rows.specs.declared.rows.Separator.TheVariants as separators
use Rattle.lt_rows.proofs.RowLemmas.{free-append, free_of_none, place_at-append, records_from-ended, records_from-last}
use Rattle.lt_heading.specs.Headings.{IsOneRow, IsRowSoFar, is_open, place_then, rows_of}

-- a text of no bytes is one row so far, at whose end a field begins
pub none_so_far : (S : Separator) → IsRowSoFar S [] places.Fresh
none_so_far separators.Tab = record { one = λ k d lt. absurd (omega (arith, lt)); place_is = refl; short = omega arith }
none_so_far (separators.Delimiter delimiter) = record { one = tt; place_is = refl; short = omega arith }

-- a text that is one row stays so with bytes `part` that have no line feed
pub one_more : (S : Separator) (text part : List ℕ) → IsOneRow S text → IsOneLine part → IsOneRow S (text ++ part)
one_more separators.Tab text part h one = All-append (λ (byte : ℕ). byte ≢ 10) text part h one
one_more (separators.Delimiter delimiter) text part h one =
    free-append delimiter 10 places.Fresh text part h (free_of_none delimiter 10 (place_at delimiter places.Fresh text) part one)

-- the place after a text and `part` is the place after `part`, from that after the text
pub place_more : (S : Separator) (text part : List ℕ) → place_then S places.Fresh (text ++ part)
    ≡ place_then S (place_then S places.Fresh text) part
place_more separators.Tab text part = refl
place_more (separators.Delimiter delimiter) text part = place_at-append delimiter places.Fresh text part

-- a line feed (10) within quotes does not end the row
pub feed_within : (S : Separator) (text : List ℕ) → IsOneRow S text → is_open S text ≡ true → IsOneRow S (text ++ 10 ∷ [])
feed_within separators.Tab text h inside = let bad : false ≡ true = inside in cc
feed_within (separators.Delimiter delimiter) text h inside = free-append delimiter 10 places.Fresh text (10 ∷ []) h (λ e. inside, tt)

-- the rows of a text whose first row a line feed (10) ends outside of quotes: that row, and the rows of the rest
pub rows_ended : (S : Separator) (row rest : List ℕ) → IsOneRow S row → is_open S row ≡ false
    → rows_of S (row ++ 10 ∷ rest) ≡ row ∷ rows_of S rest
rows_ended separators.Tab row rest one closed = lines_of-ended row rest one
rows_ended (separators.Delimiter delimiter) row rest one closed = records_from-ended delimiter places.Fresh row rest one closed

-- a text that is one row, and not empty, has only that row
pub rows_last : (S : Separator) (row : List ℕ) → IsOneRow S row → 0 < length row → rows_of S row ≡ row ∷ []
rows_last separators.Tab row one some = lines_of-last row one some
rows_last (separators.Delimiter delimiter) row one some = records_from-last delimiter places.Fresh row one some

-- an empty text has no rows
pub rows_none : (S : Separator) → rows_of S [] ≡ []
rows_none separators.Tab = refl
rows_none (separators.Delimiter delimiter) = refl
