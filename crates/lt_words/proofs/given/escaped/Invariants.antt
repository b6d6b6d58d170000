use Rattle.std.proofs.Common.{◌≡◌, string_bytes, take}
use Rattle.lt_words.specs.Given.{escaped}
use Rattle.lt_words.proofs.given.escaped.Given as goal

-- what is said is the bytes so far, each as it is or escaped
abbrev pub invariant-loop-byte : goal.invariant-loop-byte
invariant-loop-byte l = string_bytes l.said ≡ escaped (take l.byte-index l.bytes)
