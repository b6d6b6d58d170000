use Rattle.std.proofs.Common.{◌≡◌, take, map}
use Rattle.bcp47_c.specs.Posix.{hyphen_for}
use Rattle.bcp47_c.proofs.posix.tag_text.Given as goal

-- the text has the bytes of the locale so far, with hyphens for underscores
abbrev pub invariant-loop-byte : goal.invariant-loop-byte
invariant-loop-byte l = l.text.items ≡ map hyphen_for (take l.byte-index l.locale)
