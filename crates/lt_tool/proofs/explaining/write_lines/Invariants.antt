use Rattle.std.proofs.Common.{length}
use Rattle.lt_tool.proofs.ExplainedLemmas.{HasWritten}
use Rattle.lt_tool.proofs.explaining.write_lines.Given as goal

-- the head and the lines so far were written, but for what is kept in memory, which is `lines`
abbrev pub invariant-loop-lines : goal.invariant-loop-lines
invariant-loop-lines g l = HasWritten g.O.Write.contents l.fn.head.items l.initial.left l.left l.fn.output l.output
    l.lines.items

-- each turn takes one of the steps that are left
abbrev pub decreases-loop-lines : goal.decreases-loop-lines
decreases-loop-lines g l = length l.left.steps
