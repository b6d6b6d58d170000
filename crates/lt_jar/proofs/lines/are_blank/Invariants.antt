use Rattle.std.proofs.Common.{◌≡◌, drop}
use Rattle.std.specs.List.{list_all}
use Rattle.lt_jar.specs.LineKinds.{is_blank}
use Rattle.lt_jar.proofs.lines.are_blank.Given as goal

-- all bytes are blank exactly if those that are left are
abbrev pub invariant-loop-byte : goal.invariant-loop-byte
invariant-loop-byte l = list_all is_blank l.bytes ≡ list_all is_blank (drop l.byte-index l.bytes)
