use Rattle.std.proofs.Common.{◌≡◌, ◌++◌, List, ℕ, drop}
use Rattle.lt_range.specs.Filtering.{NoneMatches, ArePlaces}
use Rattle.lt_range.specs.Matching.{MatchesBy}
use Rattle.lt_range.specs.Spellings.{MatchesSome}
use Rattle.lt_range.proofs.matching.Scheme.append_places.Given as goal

-- the places so far, with any after them that are those of the tags left, are those of all tags
abbrev pub invariant-loop-place : goal.invariant-loop-place
invariant-loop-place l =
    (found : List ℕ) × (l.places.items ≡ l.initial.places.items ++ found)
    × ((more : List ℕ)
    → ArePlaces (λ tag. MatchesSome (MatchesBy l.self) l.range tag × NoneMatches (MatchesSome
    (MatchesBy l.self)) l.before tag) l.place (drop
    l.place l.tags) more
    → ArePlaces (λ tag. MatchesSome (MatchesBy l.self) l.range tag × NoneMatches (MatchesSome
    (MatchesBy l.self)) l.before tag) 0 l.tags (found ++ more))
