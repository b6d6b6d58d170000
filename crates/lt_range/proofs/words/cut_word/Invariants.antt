use Rattle.std.proofs.Common.{◌≡◌, ◌++◌, take, drop}
use Rattle.lt_range.specs.Words.{is_word_byte, front, rest}
use Rattle.lt_range.proofs.words.cut_word.Given as goal

-- the bytes so far are those of a word
abbrev pub invariant-loop-i : goal.invariant-loop-i
invariant-loop-i l = record {
  word : take l.i l.text ++ front is_word_byte (drop l.i l.text) ≡ front is_word_byte l.text;
  others : rest is_word_byte (drop l.i l.text) ≡ rest is_word_byte l.text;
}
