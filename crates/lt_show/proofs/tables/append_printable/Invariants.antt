use Rattle.std.proofs.Common.{◌≡◌, ◌++◌, map, take}
use Rattle.lt_show.specs.Tables.{shown_byte}
use Rattle.lt_show.proofs.tables.append_printable.Given as goal

-- the bytes that are shown for the text so far were appended
abbrev pub invariant-loop-byte : goal.invariant-loop-byte
invariant-loop-byte l = l.told.items ≡ l.fn.told.items ++ map shown_byte (take l.byte-index l.text)
