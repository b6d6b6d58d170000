-- Lemmas on the bytes that are kept of a line that comes in pieces. They are always `kept_of` the line so far: all of a
-- row or a record, and the first 1,027 bytes of a tag. They tell whether a row or a record is too long.
use Rattle.std.proofs.Common.{◌≡◌, ◌++◌, ◌∷◌, ◌∙◌, ℕ, List, [], true, false, length, sym, ap, subst, arith, append-nil}
use Rattle.std.proofs.Common.{length-append, inl, inr}
use Rattle.std.specs.List.{AllByRecursion}
use Rattle.lt_lines.specs.Answering.{kept_of, IsLongBy, longest_kept, part_kept}
use Rattle.lt_lines.specs.Owed.{IsOfGrammar, IsWhole, is_open, IsShort}
use Rattle.lt_rows.proofs.GrammarLemmas.{closed_is_record}
use Rattle.lt_stream.specs.Running.{longest_row}
use Rattle.lt_lines.specs.declared.forms.LineForm.{LineForm}
use Rattle.lt_stream.proofs.PartLemmas.{kept_front, nothing_kept as none_kept}
use Rattle.std.proofs.lemmas.Bool.Decides.{leb_tells}
use Rattle.lt_lines.specs.declared.forms.LineForm.TheVariants as forms

-- if `kept` is what is kept of a line, `last`, then with what is kept of its next bytes, `part`, it is what is kept of
-- `last` and `part` together
pub kept_more : (form : LineForm) (kept last part new : List ℕ) → kept ≡ kept_of form last
    → new ≡ kept ++ part_kept form (length kept) part → new ≡ kept_of form (last ++ part)
kept_more forms.Tag kept last part new is e = kept_front longest_kept kept last part new is e
kept_more form kept last part new is e = e ∙ ap (λ (l : List ℕ). l ++ part) is

-- a line, `last`, of which nothing is kept is empty
pub nothing_kept : (form : LineForm) (kept last : List ℕ) → kept ≡ kept_of form last → kept ≡ [] → last ≡ []
nothing_kept forms.Tag kept last is none = none_kept longest_kept kept last (omega arith) is none
nothing_kept form kept last is none = sym is ∙ none

-- all is kept of a line, `last`, that is within quotes, and so goes on after a line feed
pub kept_open : (form : LineForm) (kept last : List ℕ) → kept ≡ kept_of form last → is_open form last ≡ true → kept ≡ last
kept_open forms.Tag kept last is inside = let bad : false ≡ true = inside in cc
kept_open form kept last is inside = is

-- ---- rows and records that are too long

-- the kept bytes and the next bytes, `part`, are short together, if `part` does not make the line too long
pub short_by : (form : LineForm) (kept part : List ℕ) → (IsLongBy form (length kept) (length part) → ⊥) → IsShort form (kept ++ part)
short_by forms.Tag kept part room = tt
short_by (forms.Row row) kept part room = elim (leb_tells (length (kept ++ part)) longest_row) [
  | inl short ↦ short.1
  | inr long ↦ absurd (room (omega (arith, long.1, length-append kept part)))
]
short_by (forms.Csv row delimiter) kept part room = elim (leb_tells (length (kept ++ part)) longest_row) [
  | inl short ↦ short.1
  | inr long ↦ absurd (room (omega (arith, long.1, length-append kept part)))
]

-- a line, `last`, is short with its next bytes, `part`, if what is kept of it is
pub short_line : (form : LineForm) (kept last part : List ℕ) → kept ≡ kept_of form last → IsShort form (kept ++ part)
    → IsShort form (last ++ part)
short_line forms.Tag kept last part is short = tt
short_line form kept last part is short = subst (λ (l : List ℕ). IsShort form (l ++ part)) is short

-- what is kept of a short line, `last`, is short, with nothing after it
pub short_kept : (form : LineForm) (kept last : List ℕ) → kept ≡ kept_of form last → IsShort form last → IsShort form (kept ++ [])
short_kept forms.Tag kept last is short = tt
short_kept form kept last is short = subst (IsShort form) (sym is ∙ sym (append-nil kept)) short

-- a line, `last`, is not short with next bytes, `part`, that make it too long
pub long_by : (form : LineForm) (kept last part : List ℕ) → kept ≡ kept_of form last
    → IsLongBy form (length kept) (length part) → IsShort form (last ++ part) → ⊥
long_by forms.Tag kept last part is long short = long
long_by (forms.Row row) kept last part is long short = omega (arith, long, short, ap length is, length-append last part)
long_by (forms.Csv row delimiter) kept last part is long short = omega (arith, long, short, ap length is, length-append last part)

-- of a line, `last`, that `count` further bytes make too long all is kept, as it is a row or a record
pub kept_long : (form : LineForm) (kept last : List ℕ) (count : ℕ) → kept ≡ kept_of form last
    → IsLongBy form (length kept) count → kept ≡ last
kept_long forms.Tag kept last count is long = absurd long
kept_long form kept last count is long = is

-- a whole line is one of the grammar of its form
of_grammar : (form : LineForm) (line : List ℕ) → IsWhole form line → IsOfGrammar form line
of_grammar forms.Tag line w = tt
of_grammar (forms.Row row) line w = tt
of_grammar (forms.Csv row delimiter) line w = λ unquoted fed. closed_is_record delimiter unquoted line
    (record { free = w.unit; closed = w.closed })

-- whole lines are all of the grammar of their form
pub all_of_grammar : (form : LineForm) (lines : List (List ℕ)) → AllByRecursion (IsWhole form) lines
    → AllByRecursion (IsOfGrammar form) lines
all_of_grammar form [] h = tt
all_of_grammar form (line ∷ lines) h = (of_grammar form line h.0, all_of_grammar form lines h.1)

-- whole lines are all short
pub all_short : (form : LineForm) (lines : List (List ℕ)) → AllByRecursion (IsWhole form) lines → AllByRecursion (IsShort form) lines
all_short form [] h = tt
all_short form (line ∷ lines) h = (h.0.short, all_short form lines h.1)
