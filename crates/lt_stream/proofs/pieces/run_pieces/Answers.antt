use Rattle.std.proofs.Common.{◌≡◌, ◌≤◌, ◌<◌, ◌∙◌, length, take, sym, ap, arith, length-take}
use Rattle.std.proofs.lemmas.Result.{err_from_is_err_and}
use Rattle.lt_stream.proofs.ReadLemmas.{ReadsPiece, refilled}
use Rattle.lt_stream.proofs.RunLemmas.{run_failed, run_finished, run_first, run_lacks, run_next, run_room, run_stopped, run_turns}
use Rattle.lt_stream.proofs.pieces.run_pieces.Goals as goal
use Rattle.lt_stream.proofs.pieces.run_pieces.Goals.{After-deref}

-- The invariant before the loop and after a turn, what the calls of `take_piece` and `finish` require, and the clause
-- of `run_pieces`, RunsPieces, at each of its ends.

-- there is no memory for a piece, so the run ends before a read
pub returns-in_err-buffer : goal.returns-in_err-buffer
returns-in_err-buffer g c =
    let p = err_from_is_err_and c.from_residual.result c.from_residual.ensures.1 in
    rw (p.1, p.2) (run_lacks _ (g.P.Pieces.stopped c.args.pieces.now) (g.P.Pieces.finished c.args.pieces.now)
    g.R.Read.remaining c.args.input.now c.args.output.now c.args.pieces.now c.requires)

-- before the loop nothing is read, and the buffer has the size of a piece
pub loop-read-init : goal.loop-read-init
loop-read-init g c = record {
  turn = run_first _ g.R.Read.remaining c.args.input.now c.args.output.now c.args.pieces.now c.requires;
  buffer = sym c.in_ok-buffer.buffer.ok.0 ∙ c.in_ok-buffer.ensures.len;
}

-- at most 10,000,000 reads gave 65,536 bytes each, which are few enough
pub finish-requires : goal.finish-requires
finish-requires g c = run_room g.P.Pieces.taken g.P.Pieces.stopped g.P.Pieces.finished _ _ _ _ _ _ _ _
    c.loop-read.invariant.turn 0 c.loop-read-test.true (omega arith)

-- a read into a buffer with room gave nothing, so the reader has ended
pub returns-in-Ok-eq0 : goal.returns-in-Ok-eq0
returns-in-Ok-eq0 g c =
    let buffer = c.read.new.buf in
    let ensures = c.in-Ok-eq0.ensures in
    let none = c.in-Ok-eq0.field-0-test in
    let some : 0 < length buffer = omega (arith, c.read.auto.buf, ap length c.deref_mut.ensures.value, c.loop-read.invariant.buffer) in
    run_finished g.P.Pieces.taken g.P.Pieces.stopped g.P.Pieces.finished _ _ _ _ _ _ _ _ c.loop-read.invariant.turn _ _
    c.finish.new.self c.finish.result c.loop-read-test.true
    (record { consumes = rw none at ensures.bytes.0; calls = ensures.reads; failures = ensures.works })
    (ensures.bytes.1 none some) c.finish.ensures

-- the read failed, and ended the run
pub returns-in-Err : goal.returns-in-Err
returns-in-Err g c =
    let ensures = c.in-Err.ensures in
    run_failed g.P.Pieces.taken g.P.Pieces.stopped g.P.Pieces.finished _ _ _ _ _ _ _ _ c.loop-read.invariant.turn _
    c.loop-read-test.true ensures.bytes ensures.reads ensures.fails

-- all 10,000,000 reads were made, and the last gave bytes
pub returns : goal.returns
returns g c =
    run_turns g.P.Pieces.taken g.P.Pieces.stopped g.P.Pieces.finished _ _ _ _ _ _ _ _ c.loop-read.invariant.turn
    (omega (arith, c.loop-read-test.false, c.loop-read.auto._read-end))

-- the bytes that were read are at the front of the buffer, which keeps its size, 65,536 bytes
reads : (g : _) (c : goal.After-deref g) → (length c.read.new.buf ≡ 65536)
    × ReadsPiece g.R.Read.remaining c.loop-read.input c.read.new.self (take c.in-Ok.count c.read.new.buf)
    × (c.deref.result.now ≡ c.read.new.buf)
reads g c =
    let held = c.loop-read.buffer in
    let ensures = c.in-Ok.ensures in
    let full : length c.read.new.buf ≡ length held.items = omega (arith, c.read.auto.buf, ap length c.deref_mut.ensures.value) in (
      full ∙ c.loop-read.invariant.buffer,
      record { consumes = ensures.bytes.0; calls = ensures.reads; failures = ensures.works },
      c.deref.ensures.value ∙ refilled held.len held.items c.read.new.buf held.ok.0 full,
    )

-- at most 10,000,000 reads gave 65,536 bytes each, which are few enough with those of this piece
pub take_piece-requires : goal.take_piece-requires
take_piece-requires g c =
    let read = reads g (goal.at.take_piece-requires g c).After-deref in
    run_room g.P.Pieces.taken g.P.Pieces.stopped g.P.Pieces.finished _ _ _ _ _ _ _ _ c.loop-read.invariant.turn _
    c.loop-read-test.true (omega (
      arith,
      length-take c.in-Ok.count c.deref.result.now,
      c.in-Ok.ensures.bound.0,
      read.0,
    ))

-- the piece ended the run by a fault
pub returns-in_err-answer-in-Ok : goal.returns-in_err-answer-in-Ok
returns-in_err-answer-in-Ok g c =
    let p = err_from_is_err_and c.from_residual-in_err-answer-in-Ok.result c.from_residual-in_err-answer-in-Ok.ensures.1 in
    let turn = c.loop-read.invariant.turn in
    let read = reads g (goal.at.returns-in_err-answer-in-Ok g c).After-deref in
    let stops = rw read.2 at c.in_err-answer-in-Ok.ensures in
    rw (p.1, p.2) (run_stopped g.P.Pieces.taken g.P.Pieces.stopped g.P.Pieces.finished _ _ _ _ _ _ _ _ turn _ _ _ _ _
    c.loop-read-test.true read.1 (stops c.args.pieces.now c.args.output.now turn.read turn.taken))

-- the piece ended the run by an answer
pub returns-in-Some : goal.returns-in-Some
returns-in-Some g c =
    let turn = c.loop-read.invariant.turn in
    let read = reads g (goal.at.returns-in-Some g c).After-deref in
    let stops = rw (c.in-Some.is, read.2) at c.in_ok-answer-in-Ok.ensures in
    run_stopped g.P.Pieces.taken g.P.Pieces.stopped g.P.Pieces.finished _ _ _ _ _ _ _ _ turn _ _ _ _ _
    c.loop-read-test.true read.1 (stops c.args.pieces.now c.args.output.now turn.read turn.taken)

-- a turn reads one piece more, which is taken, and the run goes on
pub loop-read-preserved : goal.loop-read-preserved
loop-read-preserved g c =
    let piece = take c.in-Ok.count c.read.new.buf in
    let ensures = c.in-Ok.ensures in
    let held = c.loop-read.buffer in
    let read = reads g (goal.at.loop-read-preserved g c).After-deref in
    let some : 0 < length piece = omega (arith, length-take c.in-Ok.count c.read.new.buf, ensures.bound.0, c.in-Ok.count-test) in
    let short : length piece ≤ 65536 = omega (arith, length-take c.in-Ok.count c.read.new.buf, ensures.bound.0, read.0) in
    record {
      turn = run_next g.P.Pieces.taken g.P.Pieces.stopped g.P.Pieces.finished _ _ _ _ _ _ _ _ c.loop-read.invariant.turn
          _ _ _ piece read.1 some short (omega (arith, ensures.last, c.in-Ok.count-test))
          (rw (c.in_default.is, read.2) at c.in_ok-answer-in-Ok.ensures);
      buffer = ap length (refilled held.len held.items c.read.new.buf held.ok.0 (read.0 ∙ sym c.loop-read.invariant.buffer)) ∙ read.0;
    }
