-- Which lines of a text are refused, by which fault, and how they are counted.
use Rattle.std.specs.Prelude.{◌≡◌, ◌⊎◌, ◌+◌, ◌<◌, ◌^◌, ℕ, Bool, true, false, List, [], ◌∷◌, ◌++◌, drop, if◌then◌else◌}
use Rattle.std.specs.Prelude.{length, nat_le, take}
use Rattle.std.specs.List.{before_first}
use Rattle.lt_jar.specs.Lines.{content_of}
use Rattle.lt_stream.specs.Tallies.{AreTallies, Refused}
use Rattle.lt_stream.specs.declared.tallies.Tally.{Tally}
use Rattle.lt_lines.specs.Owed.{EndsInQuotes, EndsTooLong, IsOwed, IsOwedToLastFeed, Reply, Terms, units_of}
use Rattle.lt_rows.specs.Rows.{HasFewer, HasField, IsTextIn}
use Rattle.lt_lines.specs.declared.runs.Counts.{Counts}
use Rattle.lt_lines.specs.declared.forms.LineForm.{LineForm}
use Rattle.lt_lines.specs.declared.forms.RowForm.{RowForm}
use Rattle.lt_lines.specs.declared.forms.LineForm.TheVariants as forms
use Rattle.lt_rows.specs.declared.rows.Separator.{Separator}
use Rattle.lt_rows.specs.declared.rows.Separator.TheVariants as separators

-- how many separators stand between a row as it was and what the answer tells of its refusal
abbrev pub separators_in : RowForm → ℕ
separators_in row = if row.is_kept then 2 else 1

-- what the answer to a line, `bytes`, tells of the line's refusal: it follows the 2 bytes of `! `, or the row as it was
-- and its separators
abbrev pub told_in : LineForm → (line bytes : List ℕ) → List ℕ
told_in forms.Tag line bytes = drop 2 bytes
told_in (forms.Row row) line bytes = drop (length (content_of line) + separators_in row) bytes
told_in (forms.Csv row delimiter) line bytes = drop (length (content_of line) + separators_in row) bytes

-- the name of the fault that the answer to a refused line, `bytes`, tells: what is before the first space (32) or end
-- of line
abbrev pub fault_in : LineForm → (line bytes : List ℕ) → List ℕ
fault_in form line bytes = before_first (λ byte. nat_le byte 32) (told_in form line bytes)

-- the text of the field after `before` others in a row, without quotes around it
pub record IsFieldText (S : Separator) (before : ℕ) (row text : List ℕ) : Type 0 where
  pub front : List ℕ
  pub field : List ℕ
  pub after : List ℕ
  pub at : HasField S before row front field after
  pub quotes : List ℕ
  pub is_text : IsTextIn S field quotes text

-- the text of a row's field, or nothing if the row has fewer fields
abbrev pub IsFieldOrNone : Separator → ℕ → (row text : List ℕ) → Type 0
IsFieldOrNone S before row text = IsFieldText S before row text ⊎ (HasFewer S before row × (text ≡ []))

-- the text that is read as a tag in a line: the line itself without a carriage return that ends it, or the text of a
-- row's field, or nothing if the row has fewer fields
abbrev pub IsTagIn : LineForm → (line text : List ℕ) → Type 0
IsTagIn forms.Tag line text = text ≡ content_of line
IsTagIn (forms.Row row) line text = IsFieldOrNone separators.Tab row.before (content_of line) text
IsTagIn (forms.Csv row delimiter) line text =
    IsFieldOrNone (separators.Delimiter delimiter) row.before (content_of line) text

-- the most bytes that are shown of a text
abbrev pub most_shown : ℕ
most_shown = 64

-- line number `number` was refused by the answer `bytes`: `f` has the number, the fault's name, and the front of the
-- line's text
pub record IsRefusedAs (form : LineForm) (number : ℕ) (line bytes : List ℕ) (f : Refused) : Type 0 where
  pub number_is : f.number ≡ number
  pub fault : f.fault ≡ fault_in form line bytes
  pub text : List ℕ
  pub is_text : IsTagIn form line text
  pub front : f.text ≡ take most_shown text

-- the refused ones of these lines, by their answers, in order; the first line has this number
abbrev pub AreRefused : LineForm → ℕ → List (List ℕ) → List Reply → List Refused → Type 0
AreRefused form number (line ∷ lines) (r ∷ replies) refusals =
    ((r.refused ≡ false) × AreRefused form (number + 1) lines replies refusals)
    ⊎ ((f : Refused) × (more : List Refused) × (r.refused ≡ true) × (refusals ≡ f ∷ more)
    × IsRefusedAs form number line r.bytes f × AreRefused form (number + 1) lines replies more)
AreRefused form number lines replies refusals = refusals ≡ []

-- the tallies of the lines that their answers refuse; the first line has the number 1
pub record AreTalliesOf (form : LineForm) (lines : List (List ℕ)) (replies : List Reply)
    (tallies : List Tally) : Type 0 where
  pub refusals : List Refused
  pub are_refused : AreRefused form 1 lines replies refusals
  pub tallied : AreTallies refusals tallies

-- all that is owed for the bytes was written and counted, and the tallies count the refused lines
pub record OwesAll (T : Terms) (bytes written : List ℕ) (counts : Counts) (tallies : List Tally) : Type 0 where
  pub all : IsOwed T bytes written counts
  pub tallied : AreTalliesOf T.form (units_of T.form bytes) all.owed tallies

-- what is owed up to the last line feed was written, and the tallies count the refused lines of it
abbrev pub TalliesToLastFeed : Terms → List Tally → (bytes written : List ℕ) → Type 0
TalliesToLastFeed T tallies bytes written =
    (o : IsOwedToLastFeed T bytes written) × AreTalliesOf T.form o.lines o.owed tallies

-- the bytes end within the quotes of a record that begins in this line; what is owed before it was written and tallied
abbrev pub TalliesInQuotes : Terms → ℕ → List Tally → (bytes written : List ℕ) → Type 0
TalliesInQuotes T line tallies bytes written =
    (e : EndsInQuotes T bytes written line) × AreTalliesOf T.form e.owed.lines e.owed.owed tallies

-- a row or record that begins in this line is too long; what is owed before it was written and tallied
abbrev pub TalliesTooLong : Terms → ℕ → List Tally → (bytes written : List ℕ) → Type 0
TalliesTooLong T line tallies bytes written =
    (e : EndsTooLong T bytes written line) × AreTalliesOf T.form e.lines e.owed tallies

-- ---- the steps

-- A refused line, whose number is `number` and whose answer is `bytes`, was added to the tallies `old`, which gives
-- `new`. That is so for all lines that `old` may be the tallies of, if they are fewer than 2 to the 64 with this one.
pub record CountsLine (form : LineForm) (number : ℕ) (line bytes : List ℕ) (old new : List Tally) : Type 0 where
  pub one : Refused
  pub is_refused : IsRefusedAs form number line bytes one
  pub counted : (refusals : List Refused) → length refusals + 1 < 2 ^ 64
      → AreTallies refusals old → AreTallies (refusals ++ one ∷ []) new

-- line number `number`, whose answer is `bytes`, was added to the tallies `old`, which gives `new`, if it was refused
-- (true); else the tallies stay as they are
abbrev pub CountsIf : LineForm → ℕ → (line bytes : List ℕ) → Bool → (old new : List Tally) → Type 0
CountsIf form number line bytes false old new = new ≡ old
CountsIf form number line bytes true old new = CountsLine form number line bytes old new

-- a line so far: the bytes that are kept of it, or this part of a piece if none are kept
abbrev pub line_at : (kept part : List ℕ) → List ℕ
line_at [] part = part
line_at (byte ∷ kept) part = byte ∷ kept
