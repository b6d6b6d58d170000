-- What a cache of recent answers holds.
use Rattle.std.specs.Prelude.{◌≡◌, ◌⊎◌, ◌+◌, ◌<◌, ℕ, Bool, List, Option, Some, None, length}
use Rattle.std.specs.List.{All, Contains, swap}
use Rattle.std.proofs.Math.ListN.{set}
use Rattle.lt_cache.specs.declared.recent.Kept.{Kept}

-- a place of the cache that has this answer for this line; `refused` is whether the answer is a refusal
abbrev pub kept : List ℕ → List ℕ → Bool → Option Kept
kept line answer refused = Some (record { line = line; answer = answer; refused = refused })

-- some place of the cache has this answer for this line
abbrev pub Holds : List (Option Kept) → List ℕ → List ℕ → Bool → Type 0
Holds places line answer refused = Contains places (kept line answer refused)

-- no place of the cache has an answer
abbrev pub IsBlank : List (Option Kept) → Type 0
IsBlank places = All (λ place. place ≡ None) places

-- the cache `new` is as it was before, `old`; or a place has this answer for this line, and what was there is in the
-- place after it
abbrev pub PutsIn : List (Option Kept) → List (Option Kept) → List ℕ → List ℕ → Bool → Type 0
PutsIn old new line answer refused =
    (new ≡ old) ⊎ ((i : ℕ) × (i + 1 < length old) × (new ≡ set (swap old i (i + 1)) i (kept line answer refused)))
