use Rattle.std.proofs.Common.{◌≡◌, ◌++◌, take, drop}
use Rattle.std.specs.Str.{IsCharBoundary}
use Rattle.lt_jar.specs.LineKinds.{name_at_front}
use Rattle.lt_jar.proofs.lines.split_name.Given as goal

-- the name is the bytes so far and the name at the front of what is left, and no character is cut there
abbrev pub invariant-loop-i : goal.invariant-loop-i
invariant-loop-i l = record {
  named : name_at_front l.text ≡ take l.i l.text ++ name_at_front (drop l.i l.text);
  boundary : IsCharBoundary l.text l.i;
}
