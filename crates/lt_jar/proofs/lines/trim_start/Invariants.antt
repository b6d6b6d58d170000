use Rattle.std.proofs.Common.{◌≡◌, drop}
use Rattle.std.specs.Str.{IsCharBoundary}
use Rattle.lt_jar.specs.LineKinds.{trim_start}
use Rattle.lt_jar.proofs.lines.trim_start.Given as goal

-- the bytes so far are blank, and no character is cut after them
abbrev pub invariant-loop-i : goal.invariant-loop-i
invariant-loop-i l = record {
  trimmed : trim_start l.text ≡ trim_start (drop l.i l.text);
  boundary : IsCharBoundary l.text l.i;
}
