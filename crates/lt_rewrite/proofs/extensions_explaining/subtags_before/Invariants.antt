use Rattle.std.proofs.Common.{◌≡◌, length, take}
use Rattle.lt_tag.specs.Spelling.{spell_extensions}
use Rattle.lt_rewrite.proofs.extensions_explaining.subtags_before.Given as goal

-- the count is that of the subtags of the extensions so far
abbrev pub invariant-loop-extension : goal.invariant-loop-extension
invariant-loop-extension l = l.count ≡ length (spell_extensions (take l.extension-index l.extension-items))
