-- Which lines are selected: with one line more, selected or not, the selected lines are those before and perhaps this
-- one; and of the same lines only one list is selected, which is the law `selection_is_determined`.
use Rattle.std.proofs.Common.{◌≡◌, ◌++◌, ◌∷◌, ◌∙◌, inl, inr, ℕ, List, [], ap, refl, sym}
use Rattle.lt_registry.specs.Parts.{EntryParts}
use Rattle.lt_answers.specs.Laws.{SelectionIsDetermined}
use Rattle.lt_answers.specs.Selection.{AreSelected, IsSelected, Selection}

-- one line more, which is selected, comes last among the selected lines
pub selected_yes : (P : Selection) (lines selected : List (List ℕ)) (line : List ℕ) → AreSelected P lines selected
    → P line → AreSelected P (lines ++ line ∷ []) (selected ++ line ∷ [])
selected_yes P [] selected line none is = rw none (inl (is, [], refl, refl))
selected_yes P (first ∷ lines) selected line (inl (here, rest, split, are)) is =
    inl (here, rest ++ line ∷ [], ap (λ (l : List (List ℕ)). l ++ line ∷ []) split, selected_yes P lines rest line are is)
selected_yes P (first ∷ lines) selected line (inr (other, are)) is = inr (other, selected_yes P lines selected line are is)

-- one line more, which is not selected, leaves the selected lines the same
pub selected_no : (P : Selection) (lines selected : List (List ℕ)) (line : List ℕ) → AreSelected P lines selected
    → (P line → ⊥) → AreSelected P (lines ++ line ∷ []) selected
selected_no P [] selected line none not = inr (not, none)
selected_no P (first ∷ lines) selected line (inl (here, rest, split, are)) not =
    inl (here, rest, split, selected_no P lines rest line are not)
selected_no P (first ∷ lines) selected line (inr (other, are)) not = inr (other, selected_no P lines selected line are not)

-- of the same lines, a selection selects only one list
one_selection : (P : Selection) (lines a b : List (List ℕ)) → AreSelected P lines a → AreSelected P lines b → a ≡ b
one_selection P [] a b none other = none ∙ sym other
one_selection P (line ∷ lines) a b (inl (here, rest, split, are)) (inl (there, others, splits, were)) =
    split ∙ ap (λ (l : List (List ℕ)). line ∷ l) (one_selection P lines rest others are were) ∙ sym splits
one_selection P (line ∷ lines) a b (inl (here, rest, split, are)) (inr (not, were)) = absurd (not here)
one_selection P (line ∷ lines) a b (inr (not, are)) (inl (there, others, splits, were)) = absurd (not there)
one_selection P (line ∷ lines) a b (inr (not, are)) (inr (nor, were)) = one_selection P lines a b are were

-- of the same lines, ranges select only one list, by either scheme
pub selection_determined : (R : List EntryParts) → SelectionIsDetermined R
selection_determined R scheme ranges lines a b are were = one_selection (IsSelected R scheme ranges) lines a b are were
