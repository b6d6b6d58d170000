use Rattle.std.proofs.Common.{sym, decimal}
use Rattle.lt_rewrite.specs.Names.{name_of}
use Rattle.lt_answers.proofs.LineLemmas.{one_words, step_words}
use Rattle.lt_answers.proofs.labels.read_step.Goals as goal

-- The clause of `read_step`: IsNoName where the answer is None, and else IsStepLine.

-- the line of a step has four words, but this one has fewer
pub returns-in_err-words : goal.returns-in_err-words
returns-in_err-words c = rw c.from_residual.ensures (λ step text is. c.in_err-words.ensures (name_of step.kind)
    (decimal step.place) (decimal step.number) text (step_words is))

-- the first word of a step's line is the name of its kind, but no kind has this name
pub returns-in_err-kind : goal.returns-in_err-kind
returns-in_err-kind c = rw c.from_residual-in_err-kind.ensures
    (λ step text is. c.in_err-kind.ensures step.kind (sym (one_words c.in_ok-words.ensures (step_words is)).0))

-- the second word of a step's line is its place in decimal, but this word is no number of 32 bits
pub returns-in_err-place : goal.returns-in_err-place
returns-in_err-place c = rw c.from_residual-in_err-place.ensures
    (λ step text is. c.in_err-place.ensures step.place is.place
    (sym (one_words c.in_ok-words.ensures (step_words is)).1))

-- the third word of a step's line is its number in decimal, but this word is no number of 32 bits
pub returns-in_err-number : goal.returns-in_err-number
returns-in_err-number c = rw c.from_residual-in_err-number.ensures
    (λ step text is. c.in_err-number.ensures step.number is.number
    (sym (one_words c.in_ok-words.ensures (step_words is)).2))

-- the line is these words, which are the name of the kind, the two numbers in decimal and the text
pub returns : goal.returns
returns c = record {
  place = c.in_ok-place.ensures.0;
  number = c.in_ok-number.ensures.0;
  line_is = rw (c.in_ok-kind.ensures, c.in_ok-place.ensures.1, c.in_ok-number.ensures.1) c.in_ok-words.ensures.line_is;
}
