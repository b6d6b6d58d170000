use Rattle.std.proofs.Common.{length}
use Rattle.std.specs.Str.Parse.{AllDigits}
use Rattle.lt_words.proofs.values.are_digits.Given as goal

-- all bytes are digits exactly if those of the rest are
abbrev pub invariant-loop-byte : goal.invariant-loop-byte
invariant-loop-byte l = (AllDigits 10 l.bytes → AllDigits 10 l.rest) × (AllDigits 10 l.rest → AllDigits 10 l.bytes)

-- each turn leaves fewer bytes
abbrev pub decreases-loop-byte : goal.decreases-loop-byte
decreases-loop-byte l = length l.rest
