use Rattle.lt_heading.proofs.FirstRowLemmas.{begun_of, finish_begun, finish_last, undecided_of}
use Rattle.lt_heading.proofs.first_rows.FirstRow.finish.Goals as goal

-- The clause of `finish`, FinishesText, where it calls `end_text`.

-- the mark is known, so the bytes end as the text does
pub returns-then-self : goal.returns-then-self
returns-then-self c =
    let S = c.args.separator in
    let old = c.args.self.now in
    finish_begun S old old c.end_text.result (begun_of S old c.if-self.true c.requires) (c.end_text.ensures S)

-- the kept bytes are shorter than a mark: no line feed ends a row in them, and they end as the text does
pub returns-in-None : goal.returns-in-None
returns-in-None c =
    let S = c.args.separator in
    let old = c.args.self.now in
    finish_last S old c.begin.new.self (undecided_of S old c.if-self.false c.requires) c.end_text-in-None.result
    (rw c.in-None.is at c.in_ok-end.ensures) (c.end_text-in-None.ensures S)
