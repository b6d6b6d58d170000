use Rattle.std.proofs.Common.{◌≡◌, map, string_bytes, take}
use Rattle.lt_words.proofs.values.copies_of.Given as goal

-- the texts so far are copied
abbrev pub invariant-loop-text : goal.invariant-loop-text
invariant-loop-text l = map string_bytes l.copies.items ≡ map (λ text. text.now) (take l.text-index l.texts)
