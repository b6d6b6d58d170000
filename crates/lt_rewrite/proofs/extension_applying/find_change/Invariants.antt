use Rattle.std.proofs.Common.{◌≡◌, ◌<◌, ◌+◌, ℕ, length, take}
use Rattle.lt_tag.specs.Parts.{ExtensionParts}
use Rattle.lt_tag.specs.Spelling.{spell_extensions}
use Rattle.lt_rewrite.specs.Applying.{LeadsAt}
use Rattle.lt_rewrite.proofs.extension_applying.find_change.Given as goal

-- `place` is where this extension begins, and the step acts inside none before it
abbrev pub invariant-loop-index : goal.invariant-loop-index
invariant-loop-index g l = record {
  here : l.place ≡ l.start + length (spell_extensions (take l.index l.extensions)) + 1;
  elsewhere : (k : ℕ) (f : ExtensionParts) → k < l.index → LeadsAt (g.L.Lookup.listed l.table) l.start l.extensions l.step k f → ⊥;
}
