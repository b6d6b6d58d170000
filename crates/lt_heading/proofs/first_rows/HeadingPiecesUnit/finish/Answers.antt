use Rattle.lt_heading.proofs.first_rows.HeadingPiecesUnit.finish.Goals as goal

-- what `FirstRow::finish` requires: the bytes so far don't end the first row, as IsTaken says of a run so far
pub finish-requires : goal.finish-requires
finish-requires c = let r = c.requires in rw r.taken.separator r.taken.going

-- what `Pieces` promises of the end, FinishesText: the bytes read are those that were taken, so `FirstRow::finish`
-- gives it
pub returns : goal.returns
returns c = λ first start read t. rw (← t.separator, ← t.taken) c.finish.ensures
