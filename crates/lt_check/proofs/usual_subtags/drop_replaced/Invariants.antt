use Rattle.std.proofs.Common.{take}
use Rattle.lt_check.specs.Flags.{Tell, stays_beside}
use Rattle.lt_check.proofs.usual_subtags.drop_replaced.Given as goal

-- the flags tell what has a record without a value, less the languages of which an entry so far replaces a plain tag
abbrev pub invariant-loop-entry : goal.invariant-loop-entry
invariant-loop-entry l = Tell (stays_beside l.entries (take l.entry-index l.entries)) l.words
