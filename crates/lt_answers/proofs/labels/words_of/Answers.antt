use Rattle.std.proofs.Common.{◌∙◌, sym}
use Rattle.lt_rows.proofs.SplitLemmas.{no_split}
use Rattle.lt_answers.proofs.LineLemmas.{one_split}
use Rattle.lt_answers.proofs.labels.words_of.Goals as goal

-- The clause of `words_of` where the answer is None, HasFewWords: no four words are the line's.

-- the line has no space, but a line of four words has three
pub returns-in_err-name : goal.returns-in_err-name
returns-in_err-name c = rw c.from_residual.ensures (λ name place number text w. no_split 32 c.args.line.now name _
    c.in_err-name.ensures w.line_is)

-- no space is after the first one, but a line of four words has three
pub returns-in_err-place : goal.returns-in_err-place
returns-in_err-place c = rw c.from_residual-in_err-place.ensures (λ name place number text w.
    no_split 32 c.in_ok-name.places.now place _ c.in_err-place.ensures
    (one_split 32 c.in_ok-name.name.now name _ _ c.in_ok-name.ensures.0 w.name_free (sym c.in_ok-name.ensures.1
    ∙ w.line_is)).1)

-- no space is after the second one, but a line of four words has three
pub returns-in_err-number : goal.returns-in_err-number
returns-in_err-number c = rw c.from_residual-in_err-number.ensures (λ name place number text w.
    let behind = (one_split 32 c.in_ok-name.name.now name _ _ c.in_ok-name.ensures.0 w.name_free
    (sym c.in_ok-name.ensures.1 ∙ w.line_is)).1 in
    no_split 32 c.in_ok-place.numbers.now number _ c.in_err-number.ensures
    (one_split 32 c.in_ok-place.place.now place _ _ c.in_ok-place.ensures.0 w.place_free
    (sym c.in_ok-place.ensures.1 ∙ behind)).1)
