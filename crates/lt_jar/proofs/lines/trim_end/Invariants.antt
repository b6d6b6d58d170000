use Rattle.std.proofs.Common.{◌≡◌, ◌≤◌, length, take, reverse}
use Rattle.std.specs.Str.{IsCharBoundary}
use Rattle.lt_jar.specs.LineKinds.{trim_start}
use Rattle.lt_jar.proofs.lines.trim_end.Given as goal

-- the bytes after this end are blank, and no character is cut there
abbrev pub invariant-loop-end : goal.invariant-loop-end
invariant-loop-end l = record {
  within : l.end ≤ length l.text;
  trimmed : trim_start (reverse l.text) ≡ trim_start (reverse (take l.end l.text));
  boundary : IsCharBoundary l.text l.end;
}

-- the end moves to the front with each turn, so the loop ends
abbrev pub decreases-loop-end : goal.decreases-loop-end
decreases-loop-end l = l.end
