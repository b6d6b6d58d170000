use Rattle.std.proofs.Common.{length, string_bytes}
use Rattle.lt_heading.specs.Names.{LooksSo}
use Rattle.lt_heading.proofs.names.look_up_in_row.Given as goal

-- the names before the rest of the row were counted and listed, and this name was looked for among them
abbrev pub invariant-loop-field : goal.invariant-loop-field
invariant-loop-field l = LooksSo l.separator l.row l.rest l.name l.found (string_bytes l.listed) l.count

-- so it ends: each turn leaves less of the row
abbrev pub decreases-loop-field : goal.decreases-loop-field
decreases-loop-field l = length l.rest
