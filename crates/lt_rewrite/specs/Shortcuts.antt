-- Shortcuts along the chains of values of a registry's records (RFC 5646, 3.1.7), by which the end of a chain is found
-- in a few look-ups. A shortcut of a record leads to a record further on in its chain, and is given by its place, the
-- index of that record in the registry.
use Rattle.std.specs.Prelude.{ℕ, ◌≡◌, ◌+◌, ◌≤◌, ◌<◌, List, Option, Some, length}
use Rattle.std.specs.List.{slice_get}
use Rattle.lt_registry.specs.Parts.{EntryParts}
use Rattle.lt_registry.specs.declared.entries.Kind.{Kind}
use Rattle.lt_rewrite.specs.CoreSteps.{chase}
use Rattle.lt_rewrite.specs.Conditions.{next_value}
use Rattle.lt_rewrite.specs.ChainEnds.{following}

-- `s` leads to `t` over at least `n` values, or over fewer to the end of a shorter chain; `f` gives the next value
abbrev pub IsOnward : (List ℕ → Option (List ℕ)) → ℕ → List ℕ → List ℕ → Type 0
IsOnward f n s t = (m : ℕ) × (n ≤ m) × (chase f m s ≡ t)

-- the record at the index `place` of `R` has this kind, and the subtag `v` leads to the record's value over at least
-- `n` values, or over fewer if that value is the end of the chain
pub record LeadsTo (R : List EntryParts) (kind : Kind) (n : ℕ) (v : List ℕ) (place : ℕ) : Type 0 where
  pub entry : EntryParts
  pub there : slice_get R place ≡ Some entry
  pub of_kind : entry.kind ≡ kind
  pub value : List ℕ
  pub follows : following entry.kind entry ≡ Some value
  pub onward : IsOnward (next_value R kind) n v value

-- from the record at `i`, if it has a value that follows in a chain, a shortcut of at least `n` values leads to the
-- record at `j`
abbrev pub IsShortcut : List EntryParts → ℕ → ℕ → ℕ → Type 0
IsShortcut R n i j =
    (e : EntryParts) (v : List ℕ) → slice_get R i ≡ Some e → following e.kind e ≡ Some v → LeadsTo R e.kind n v j

-- the shortcuts lead onward by at least `n` values, or to the end of the chain: for each record `places` has the index
-- of the record to which its shortcut leads, which may be the record itself
pub record LeadOn (R : List EntryParts) (n : ℕ) (places : List ℕ) : Type 0 where
  pub one_each : length places ≡ length R
  pub within : (i j : ℕ) → slice_get places i ≡ Some j → j < length R
  pub shortcut : (i j : ℕ) → slice_get places i ≡ Some j → IsShortcut R n i j

-- these shortcuts are as long as they can be: if they lead onward by `n` values in some registry, they lead onward by
-- twice as many there too
abbrev pub GrowNoMore : List ℕ → Type 0
GrowNoMore places = (R : List EntryParts) (n : ℕ) → LeadOn R n places → LeadOn R (n + n) places

-- the shortcuts that are kept of a registry: for each record the index of the record to which its shortcut leads, which
-- may be its own index
pub record ShortcutParts : Type 0 where
  pub places : List ℕ

-- the shortcuts lead onward by at least as many values as there are records, and so to the end of each chain that ends
pub record AreShortcuts (R : List EntryParts) (s : ShortcutParts) : Type 0 where
  pub chains : LeadOn R (length R) s.places
