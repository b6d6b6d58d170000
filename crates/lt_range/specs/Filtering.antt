-- What filtering selects from a list of tags by a language priority list (RFC 4647, 2.3 and 3.3).
use Rattle.std.specs.Prelude.{ℕ, ◌≡◌, ◌+◌, ◌⊎◌, List, [], ◌∷◌, ◌++◌}
use Rattle.std.specs.List.{AllByRecursion}
use Rattle.lt_range.specs.Ranges.{RangeParts}
use Rattle.lt_range.specs.Spellings.{Spellings}

-- a statement on a range and the spellings of a tag, such as that the range matches one of them
abbrev pub Matching : Type 1
Matching = RangeParts → Spellings → Type 0

-- the places, counted from `place`, of the tags of which `P` is true, in their order
abbrev pub ArePlaces : (Spellings → Type 0) → ℕ → List Spellings → List ℕ → Type 0
ArePlaces P place [] found = found ≡ []
ArePlaces P place (t ∷ ts) found =
    (P t × ((rest : List ℕ) × (found ≡ place ∷ rest) × ArePlaces P (place + 1) ts rest))
    ⊎ ((P t → ⊥) × ArePlaces P (place + 1) ts found)

-- none of the ranges matches the tag by `M`
abbrev pub NoneMatches : Matching → List RangeParts → Spellings → Type 0
NoneMatches M ranges tag = AllByRecursion (λ range. M range tag → ⊥) ranges

-- Each of the ranges in turn, by priority, selects the tags that it matches by `M` and none before it does; those of
-- `before` have had their turn. `found` are the places of all that are selected (RFC 4647, 3.3).
abbrev pub Selects : Matching → List RangeParts → List RangeParts → List Spellings → List ℕ → Type 0
Selects M before [] tags found = found ≡ []
Selects M before (r ∷ rs) tags found = (here rest : List ℕ) × (found ≡ here ++ rest)
    × ArePlaces (λ tag. M r tag × NoneMatches M before tag) 0 tags here
    × Selects M (before ++ r ∷ []) rs tags rest

-- The places of the tags that a priority list selects: those of the range with the highest priority first, and for each
-- range in the order of the tags (RFC 4647, 3.3).
abbrev pub AreFiltered : Matching → List RangeParts → List Spellings → List ℕ → Type 0
AreFiltered M ranges tags found = Selects M [] ranges tags found
