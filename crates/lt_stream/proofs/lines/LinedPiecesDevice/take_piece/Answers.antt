use Rattle.std.proofs.lemmas.Result.{err_from_is_err_and}
use Rattle.lt_stream.proofs.LineRunLemmas.{PieceTurn, first_turn, turn_done, turn_fails, turn_kept, turn_lacks}
use Rattle.lt_stream.proofs.LineRunLemmas.{turn_line, turn_room, turn_written}
use Rattle.lt_stream.proofs.lines.LinedPiecesDevice.take_piece.Goals as goal
use Rattle.lt_stream.proofs.lines.LinedPiecesDevice.take_piece.Goals.{In_ok-end_line}

-- `take_piece` of `Lined`: the invariant before the loop and after a turn, what `end_line` requires, and at its ends
-- what `Pieces` promises: `IsTaken` with the piece read too, or `Stops`.

-- before the loop no line of the piece is answered, and the whole piece is left
pub loop-line-init : goal.loop-line-init
loop-line-init g c = first_turn _ _ _ _ _ _

-- memory ran out, and what was written is a front of the answers
pub returns-in_err-keep : goal.returns-in_err-keep
returns-in_err-keep g c =
    let p = err_from_is_err_and c.from_residual.result c.from_residual.ensures.1 in
    rw (p.1, p.2) (turn_lacks _ _ _ _ _ _ _ _ _ c.loop-line.invariant)

-- the lines answered are no more than the bytes read, which are few enough for one line more
pub end_line-requires : goal.end_line-requires
end_line-requires g c = turn_room _ _ _ _ _ _ _ _ _ c.loop-line.invariant _ c.keep.new.self c.requires c.in_ok-keep.ensures

-- memory ran out, and what was written is a front of the answers
pub returns-in_err-end_line : goal.returns-in_err-end_line
returns-in_err-end_line g c =
    let p = err_from_is_err_and c.from_residual-in_err-end_line.result c.from_residual-in_err-end_line.ensures.1 in
    rw (p.1, p.2) (turn_lacks _ _ _ _ _ _ _ _ _ c.loop-line.invariant)

-- one line more is answered, and what follows its line feed is left
after_line : (g : _) (c : goal.In_ok-end_line g)
    → PieceTurn g.A.Lines.answered g.A.Lines.longest g.W.Write.contents c.args.piece.now c.in-Some.after.now
    c.args.output.now c.loop-line.output c.args.self.now c.end_line.new.self
after_line g c =
    turn_line _ _ _ _ _ _ _ _ _ c.loop-line.invariant c.in-Some.line.now c.in-Some.after.now c.keep.new.self c.end_line.new.self
    c.in-Some.ensures c.in_ok-keep.ensures c.in_ok-end_line.ensures

-- a write failed, and what was written is a front of the answers
pub returns-in_err-write_much : goal.returns-in_err-write_much
returns-in_err-write_much g c =
    let p = err_from_is_err_and c.from_residual-in_err-write_much.result c.from_residual-in_err-write_much.ensures.1 in
    rw (p.1, p.2) (turn_fails _ _ _ _ _ _ _ _ _ (after_line g (goal.at.returns-in_err-write_much g c).In_ok-end_line) _
    _ _ c.in_err-write_much.ensures.writes)

-- a turn answers one line more, and writes the answers that wait if they are many
pub loop-line-preserved : goal.loop-line-preserved
loop-line-preserved g c = turn_written _ _ _ _ _ _ _ _ _ (after_line g (goal.at.loop-line-preserved g c).In_ok-end_line)
    _ _ c.in_ok-write_much.ensures.writes

-- memory ran out, and what was written is a front of the answers
pub returns-in_err-keep-2 : goal.returns-in_err-keep-2
returns-in_err-keep-2 g c =
    let p = err_from_is_err_and c.from_residual-in_err-keep-2.result c.from_residual-in_err-keep-2.ensures.1 in
    rw (p.1, p.2) (turn_lacks _ _ _ _ _ _ _ _ _ c.loop-line.invariant)

-- a write failed, and what was written is a front of the answers
pub returns-in_err-write : goal.returns-in_err-write
returns-in_err-write g c =
    let p = err_from_is_err_and c.from_residual-in_err-write.result c.from_residual-in_err-write.ensures.1 in
    let kept = turn_kept _ _ _ _ _ _ _ _ _ c.loop-line.invariant c.keep-2.new.self c.in_default.ensures c.in_ok-keep-2.ensures in
    rw (p.1, p.2) (turn_fails _ _ _ _ _ _ _ _ _ kept _ _ _ c.in_err-write.ensures.writes)

-- the rest has no line feed and is kept, and no answer waits
pub returns : goal.returns
returns g c =
    let kept = turn_kept _ _ _ _ _ _ _ _ _ c.loop-line.invariant c.keep-2.new.self c.in_default.ensures c.in_ok-keep-2.ensures in
    turn_done _ _ _ _ _ _ _ _ (turn_written _ _ _ _ _ _ _ _ _ kept _ _ c.in_ok-write.ensures.writes) c.in_ok-write.ensures.emptied
