use Rattle.std.proofs.Common.{◌-◌, length, drop}
use Rattle.lt_check.specs.Flags.{TellSingles}
use Rattle.lt_check.proofs.usual_subtags.put_singles.Given as goal

-- the flags tell which subtags have a record without a value among the last entries, as many as the turns so far
abbrev pub invariant-loop-index : goal.invariant-loop-index
invariant-loop-index l = TellSingles (drop (length l.entries - l.index) l.entries) l.words
