use Rattle.std.proofs.Common.{◌≡◌, take}
use Rattle.lt_tag.proofs.copies.copy_extensions.Given as goal

-- `copy` has the extensions so far
abbrev pub invariant-loop-extension : goal.invariant-loop-extension
invariant-loop-extension l = l.copy.items ≡ take l.extension-index l.extensions
