use Rattle.std.proofs.Common.{◌≡◌, length}
use Rattle.lt_stream.proofs.RunLemmas.{RunTurn}
use Rattle.lt_stream.proofs.pieces.run_pieces.Given as goal

-- all that was read so far was taken, no read failed, and the buffer keeps its size, 65,536 bytes
abbrev pub invariant-loop-read : goal.invariant-loop-read
invariant-loop-read g l = record {
  turn : RunTurn (g.P.Pieces.taken l.fn.pieces) g.R.Read.remaining l.fn.input l.input l.fn.output l.output l.pieces l._read;
  buffer : length l.buffer.items ≡ 65536;
}
