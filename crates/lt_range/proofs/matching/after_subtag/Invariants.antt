use Rattle.std.proofs.Common.{◌≡◌, ◌++◌, true, ℕ, List, length}
use Rattle.std.specs.List.{list_all, AllByRecursion}
use Rattle.lt_range.specs.Matching.{is_no_singleton, IsPassedTo}
use Rattle.lt_range.proofs.matching.after_subtag.Given as goal

-- those so far are no singletons and not the subtag, which can only be in what is left
abbrev pub invariant-loop-first : goal.invariant-loop-first
invariant-loop-first l = record {
  so_far : (passed : List (List ℕ)) × (l.list ≡ passed ++ l.rest) × (list_all is_no_singleton passed ≡ true)
      × AllByRecursion (λ t. t ≡ l.subtag → ⊥) passed;
  left : IsPassedTo l.list l.subtag → IsPassedTo l.rest l.subtag;
}

-- each turn leaves a subtag less
abbrev pub decreases-loop-first : goal.decreases-loop-first
decreases-loop-first l = length l.rest
