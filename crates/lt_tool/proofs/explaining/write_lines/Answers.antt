-- The bytes `head`, the lines of an explanation and the bytes `tail` are written by pieces. `lines` keeps in memory
-- what is not written yet; where the call ends early, a front of all these bytes was written.
use Rattle.std.proofs.lemmas.Result.{err_from_is_err_and}
use Rattle.lt_tool.proofs.ExplainedLemmas.{HasWritten, written_all, written_kept, written_lacks, written_less, written_none, written_step}
use Rattle.lt_tool.proofs.explaining.write_lines.Goals as goal
use Rattle.lt_tool.proofs.explaining.write_lines.Goals.{After-len}

-- before the loop nothing is written, and only the head is kept
pub loop-lines-init : goal.loop-lines-init
loop-lines-init g c = written_none g.O.Write.contents c.args.head.items c.args.left c.args.left c.args.tail.now
    c.args.output.now c.args.output.now c.requires

-- memory ran out for the next line
pub returns-in_err-append_line : goal.returns-in_err-append_line
returns-in_err-append_line g c =
    written_lacks g.O.Write.contents c.args.head.items c.args.left c.loop-lines.left c.args.tail.now
    c.args.output.now c.loop-lines.output c.loop-lines.lines.items c.from_residual.result c.loop-lines.invariant
    c.from_residual.ensures.1

-- the line of a step is kept besides
kept : (g : _) (c : goal.After-len g) → HasWritten g.O.Write.contents c.args.head.items c.args.left
    c.append_line.new.self c.args.output.now c.loop-lines.output c.append_line.new.lines.items
kept g c =
    let line = rw c.if-branch.true at (c.in_ok-append_line.ensures {u = tt}).line in
    written_step g.O.Write.contents c.args.head.items c.args.left c.loop-lines.left c.args.tail.now c.args.output.now
    c.loop-lines.output c.append_line.new.self c.loop-lines.lines.items c.append_line.new.lines.items
    c.loop-lines.invariant line

-- memory ran out for the bytes after the last line
pub returns-in_err-append_bytes : goal.returns-in_err-append_bytes
returns-in_err-append_bytes g c =
    written_lacks g.O.Write.contents c.args.head.items c.args.left c.loop-lines.left c.args.tail.now
    c.args.output.now c.loop-lines.output c.loop-lines.lines.items c.from_residual-in_err-append_bytes.result
    c.loop-lines.invariant c.from_residual-in_err-append_bytes.ensures.1

-- the lines that are kept are not all written, since a write failed
pub returns-in_err-write_text : goal.returns-in_err-write_text
returns-in_err-write_text g c =
    let p = err_from_is_err_and c.from_residual-in_err-write_text.result c.from_residual-in_err-write_text.ensures.1
    in
    let now = kept g (goal.at.returns-in_err-write_text g c).After-len in
    rw (p.1, p.2) (written_less g.O.Write.contents c.args.head.items c.args.left c.append_line.new.self
    c.args.tail.now c.args.output.now c.loop-lines.output c.write_text.new.output c.append_line.new.lines.items _
    now (rw c.deref.ensures.value at c.in_err-write_text.ensures))

-- a turn that fills the buffer writes all that is kept, and then keeps nothing
pub loop-lines-preserved-then-len-ge-FULL : goal.loop-lines-preserved-then-len-ge-FULL
loop-lines-preserved-then-len-ge-FULL g c =
    let now = kept g (goal.at.loop-lines-preserved-then-len-ge-FULL g c).After-len in
    rw c.clear.ensures.items (written_kept g.O.Write.contents c.args.head.items c.args.left c.append_line.new.self
    c.args.tail.now c.args.output.now c.loop-lines.output c.write_text.new.output c.append_line.new.lines.items
    now (rw c.deref.ensures.value at c.in_ok-write_text.ensures))

-- any other turn writes nothing and keeps one line more
pub loop-lines-preserved : goal.loop-lines-preserved
loop-lines-preserved g c = kept g (goal.at.loop-lines-preserved g c).After-len

-- no step is left: the last line and the tail are kept too, and the last write is of all that is kept
pub returns : goal.returns
returns g c =
    let line = rw c.if-branch.false at (c.in_ok-append_line.ensures {u = tt}).line in
    written_all g.O.Write.contents c.args.head.items c.args.left c.loop-lines.left c.args.tail.now c.args.output.now
    c.loop-lines.output c.write_text-2.new.output c.append_line.new.self c.loop-lines.lines.items
    c.append_line.new.lines.items c.append_bytes.new.lines.items c.write_text-2.result c.loop-lines.invariant
    line c.in_ok-append_bytes.ensures (rw c.deref-2.ensures.value at c.write_text-2.ensures)
