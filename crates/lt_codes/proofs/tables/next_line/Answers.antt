use Rattle.lt_codes.proofs.SplitLemmas.{line_next}
use Rattle.lt_codes.proofs.tables.next_line.Goals as goal

-- the bytes before the first line feed are the first line, and the other lines are those of the rest, which is shorter
pub returns-in-Some : goal.returns-in-Some
returns-in-Some c = line_next c.args.text.now c.in-Some.line.now c.in-Some.rest.now c.in-Some.ensures
