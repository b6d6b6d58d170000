use Rattle.std.proofs.Common.{◌∙◌, ap, refl, sym}
use Rattle.lt_rows.specs.Quotes.{is_quoted}
use Rattle.lt_heading.proofs.TakenLemmas.{whole_row}
use Rattle.lt_heading.proofs.first_rows.FirstRow.end_text.Goals as goal

-- The clause of `end_text`, EndsText, for any separator S, at its two ends.

-- a quote is open, so the text is no whole row
pub returns-then-is_quoted : goal.returns-then-is_quoted
returns-then-is_quoted c = λ S. (refl, λ so_far. ap is_quoted (sym so_far.place_is) ∙ sym c.is_quoted.ensures ∙ c.if-is_quoted.true)

-- no quote is open, so the text is a whole row, and its length is given
pub returns : goal.returns
returns c = λ S. (
  c.len.ensures ∙ c.args.self.now.text.ok.0,
  λ so_far. whole_row S _ _ so_far (sym c.is_quoted.ensures
      ∙ c.if-is_quoted.false),
)
