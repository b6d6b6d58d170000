use Rattle.std.proofs.Common.{◌≡◌, ◌++◌, List, ℕ}
use Rattle.lt_range.specs.Preferences.{Accepts}
use Rattle.lt_range.proofs.FilterLemmas.{GoOn}
use Rattle.lt_range.proofs.preferences.append_accepted.Given as goal

-- the places so far, with any after them that are those of the tags left, are those of all tags
abbrev pub invariant-loop-place : goal.invariant-loop-place
invariant-loop-place l =
    (found : List ℕ) × (l.places.items ≡ l.initial.places.items ++ found) × GoOn (Accepts l.all l.index) l.tags l.place found
