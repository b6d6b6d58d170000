use Rattle.std.proofs.Common.{◌≡◌, ◌≤◌, ◌-◌, length, take}
use Rattle.lt_jar.specs.Devices.{failures_of, inner_of}
use Rattle.std.specs.Io.KnownBytes.{Appends}
use Rattle.lt_stream.proofs.device_output.write_text.Given as goal

-- the bytes so far were written, and no write failed
abbrev pub invariant-loop-at : goal.invariant-loop-at
invariant-loop-at g l = record {
  appends : Appends (g.W.Write.contents (inner_of l.fn.output)) (g.W.Write.contents (inner_of l.output)) (take l.at l.text);
  in_range : l.at ≤ length l.text;
  failures : failures_of l.output ≡ failures_of l.fn.output;
}

-- so it ends: each turn leaves fewer bytes to write
abbrev pub decreases-loop-at : goal.decreases-loop-at
decreases-loop-at g l = length l.text - l.at
