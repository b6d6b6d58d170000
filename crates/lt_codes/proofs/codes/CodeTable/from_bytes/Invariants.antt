use Rattle.std.proofs.Common.{length}
use Rattle.lt_codes.proofs.TableLemmas.{IsRead}
use Rattle.lt_codes.proofs.codes.CodeTable.from_bytes.Given as goal

-- the table has the codes of the lines before the rest, and `line` is the number of the next
abbrev pub invariant-loop-part : goal.invariant-loop-part
invariant-loop-part l = IsRead l.text l.table l.rest l.line

-- the bytes that are left get fewer with each turn, so the loop ends
abbrev pub decreases-loop-part : goal.decreases-loop-part
decreases-loop-part l = length l.rest
