-- The places, which are indices, of the entries of variants in a registry (RFC 5646, 3.1.8). By them VariantLanguage
-- steps are found without looking up the variants again.
use Rattle.std.specs.Prelude.{ℕ, ◌≡◌, List, map}
use Rattle.std.specs.List.{slice_get}
use Rattle.lt_registry.specs.Parts.{EntryParts}
use Rattle.lt_registry.specs.Entries.{entry}
use Rattle.lt_registry.specs.declared.entries.Kind.TheVariants as kinds

-- for each of the variants `places` has the index of its entry in the registry, or an index after the last entry if it
-- has none: what is at the places are the variants' entries
abbrev pub ArePlaces : List EntryParts → List (List ℕ) → List ℕ → Type 0
ArePlaces R variants places = map (slice_get R) places ≡ map (entry R kinds.Variant) variants
