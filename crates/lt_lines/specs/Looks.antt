-- What a look (lt_rows) finds out of the line of a row before it is answered: whether it ends within quotes, so that
-- its record goes on, and where the text of its field is. No public contract cites this.
use Rattle.std.specs.Prelude.{◌≡◌, ℕ, IsTrue, List, [], Option, None, MatchOption}
use Rattle.lt_jar.specs.Lines.{content_of}
use Rattle.lt_rows.specs.Looks.{IsLookAt}
use Rattle.lt_rows.specs.Splitting.{IsFreeOf}
use Rattle.lt_rows.specs.declared.looks.Lacks.{Lacks}
use Rattle.lt_rows.specs.declared.looks.Look.{Look}
use Rattle.lt_rows.specs.declared.rows.Separator.{Separator}
use Rattle.lt_rows.specs.declared.rows.Separator.TheVariants as separators
use Rattle.lt_lines.specs.declared.forms.LineForm.{LineForm}
use Rattle.lt_lines.specs.declared.forms.LineForm.TheVariants as forms

-- what a look at a row found, if there was a look, is true of the line without its line end; the look was for the field
-- after `before` others
abbrev pub IsRowLook : Separator → ℕ → List ℕ → Option Look → Type 0
IsRowLook S before line look = MatchOption look (Unit {0}) (λ l. IsLookAt S before (content_of line) l)

-- what a look at a line found is true of it; at a line that is a tag there is no look
abbrev pub IsLook : LineForm → List ℕ → Option Look → Type 0
IsLook forms.Tag line look = look ≡ None
IsLook (forms.Row row) line look = IsRowLook separators.Tab row.before line look
IsLook (forms.Csv row delimiter) line look = IsRowLook (separators.Delimiter delimiter) row.before line look

-- `kept` is the front of a line that came in earlier pieces, and `line` the bytes of it that came now. A look was made
-- only where `kept` is empty, so at a whole line, and what it found is true.
pub record IsAhead (form : LineForm) (kept line : List ℕ) (look : Option Look) : Type 0 where
  pub is_look : IsLook form line look
  pub whole : MatchOption look (Unit {0}) (λ _. kept ≡ [])

-- what is known of a text is true: that it has no carriage return (13), or no quote (34)
pub record IsKnownToLack (text : List ℕ) (lacks : Lacks) : Type 0 where
  pub returns : IsTrue lacks.returns → IsFreeOf 13 text
  pub quotes : IsTrue lacks.quotes → IsFreeOf 34 text
