use Rattle.std.proofs.Common.{false, ◌≡◌, ◌<◌, ℕ, List, Some, length, slice_get}
use Rattle.lt_registry.specs.Parts.{EntryParts}
use Rattle.lt_rewrite.specs.Shortcuts.{LeadOn}
use Rattle.lt_rewrite.proofs.ShortcutWalks.{PartDoubled}
use Rattle.lt_rewrite.proofs.shortcuts.lengthen.Given as goal

-- the shortcuts before the index are twice as long, whatever the registry and the length; all are indices in the list,
-- and while none has changed the list is what it was
abbrev pub invariant-loop-index : goal.invariant-loop-index
invariant-loop-index l = record {
  within : (i j : ℕ) → slice_get l.places i ≡ Some j → j < length l.places;
  same : l.grew ≡ false → l.places ≡ l.fn.places;
  doubled : (R : List EntryParts) (n : ℕ) → LeadOn R n l.fn.places → PartDoubled R n l.index l.places;
}
