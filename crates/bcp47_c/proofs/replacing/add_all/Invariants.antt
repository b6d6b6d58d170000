use Rattle.std.proofs.Common.{◌≡◌, ◌++◌, take}
use Rattle.std.specs.Prelude.{flat_map}
use Rattle.bcp47_c.specs.Replacing.{hyphened}
use Rattle.bcp47_c.proofs.replacing.add_all.Given as goal

-- the subtags so far are at the end
abbrev pub invariant-loop-subtag : goal.invariant-loop-subtag
invariant-loop-subtag l = l.text.items ≡ l.initial.text.items ++ flat_map hyphened (take l.subtag-index l.subtags)
