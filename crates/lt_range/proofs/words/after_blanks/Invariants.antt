use Rattle.std.proofs.Common.{◌≡◌, drop}
use Rattle.lt_range.specs.Words.{is_blank, rest}
use Rattle.lt_range.proofs.words.after_blanks.Given as goal

-- the bytes so far are blank, so the rest of the text is that of what is left
abbrev pub invariant-loop-i : goal.invariant-loop-i
invariant-loop-i l = rest is_blank (drop l.i l.text) ≡ rest is_blank l.text
