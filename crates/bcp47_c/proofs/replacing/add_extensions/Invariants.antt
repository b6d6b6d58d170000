use Rattle.std.proofs.Common.{◌≡◌, ◌++◌, take}
use Rattle.std.specs.Prelude.{flat_map}
use Rattle.lt_tag.specs.Spelling.{spell_extensions}
use Rattle.bcp47_c.specs.Replacing.{hyphened}
use Rattle.bcp47_c.proofs.replacing.add_extensions.Given as goal

-- the subtags of the extensions so far are at the end
abbrev pub invariant-loop-extension : goal.invariant-loop-extension
invariant-loop-extension l = l.text.items
    ≡ l.initial.text.items ++ flat_map hyphened (spell_extensions (take l.extension-index l.extensions))
