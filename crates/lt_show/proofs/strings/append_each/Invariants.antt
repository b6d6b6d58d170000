use Rattle.std.proofs.Common.{◌≡◌, ◌++◌, take}
use Rattle.lt_show.specs.Strings.{escaped_text}
use Rattle.lt_show.proofs.strings.append_each.Given as goal

-- each byte so far was appended as it is, or its escape
abbrev pub invariant-loop-byte : goal.invariant-loop-byte
invariant-loop-byte l = l.texts.items ≡ l.initial.texts.items ++ escaped_text (take l.byte-index l.text)
