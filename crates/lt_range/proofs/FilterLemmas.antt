-- The two loops of filtering, over the tags for one range and over the ranges: the places that were found so far, with
-- those that the rest selects, are the places of all. So the answers of `filter_basic` and `filter_extended` are right.
use Rattle.std.proofs.Common.{◌≡◌, ℕ, ◌<◌, ◌≤◌, ◌+◌, inl, inr, List, [], ◌∷◌, ◌++◌}
use Rattle.std.proofs.Common.{length, get_or, take, drop, refl, sym, ap, ◌∙◌, subst, suc, zero, arith}
use Rattle.std.proofs.lemmas.List.{append_assoc, append-nil, drop_more, take_more}
use Rattle.std.proofs.Math.ListN.{drop_of_length-le}
use Rattle.lt_range.specs.Ranges.{RangeParts}
use Rattle.lt_range.specs.Filtering.{ArePlaces, NoneMatches, Selects}
use Rattle.lt_range.specs.Spellings.{Spellings}

-- what is left of a list at the index `i` is the element there and what follows it
pub next_is : {X : Type 0} (xs : List X) (i : ℕ) (x : X) → i < length xs → x ≡ get_or xs i x → drop i xs ≡ x ∷ drop (i + 1) xs
next_is xs i x within is = drop_more xs i x within ∙ ap (λ y. y ∷ drop (i + 1) xs) (sym is)

-- if the range at a place matches a tag, it is not so that none does
pub one_matches : (M : RangeParts → Spellings → Type 0) (ranges : List RangeParts) (tag : Spellings) (i : ℕ) (r : RangeParts)
    → i < length ranges → r ≡ get_or ranges i r → M r tag → NoneMatches M ranges tag → ⊥
one_matches M [] tag i r within is m none = absurd (omega (arith, within))
one_matches M (x ∷ xs) tag zero r within is m none = none.0 (subst (λ (y : RangeParts). M y tag) is m)
one_matches M (x ∷ xs) tag (suc i) r within is m none = one_matches M xs tag i r (omega (arith, within)) is m none.1

-- the loop over tags that adds the places of those of which `P` is true
module _ (P : Spellings → Type 0) (tags : List Spellings) where
  -- `found` are the places so far, of the first `i` tags: with those of the other tags they are those of all
  abbrev pub GoOn : ℕ → List ℕ → Type 0
  GoOn i found = (more : List ℕ) → ArePlaces P i (drop i tags) more → ArePlaces P 0 tags (found ++ more)

  -- if `P` is true of the next tag, its place is added
  pub places_yes : (i : ℕ) (t : Spellings) (found : List ℕ) → i < length tags → t ≡ get_or tags i t → P t
      → GoOn i found → GoOn (i + 1) (found ++ i ∷ [])
  places_yes i t found within is p go = λ more h.
      let here : ArePlaces P i (t ∷ drop (i + 1) tags) (i ∷ more) = inl (p, (more, refl, h)) in
      subst (λ (l : List ℕ). ArePlaces P 0 tags l) (sym (append_assoc found (i ∷ []) more))
      (go (i ∷ more) (subst (λ (l : List Spellings). ArePlaces P i l (i ∷ more)) (sym (next_is tags i t within is)) here))

  -- if `P` is not true of the next tag, no place is added
  pub places_no : (i : ℕ) (t : Spellings) (found : List ℕ) → i < length tags → t ≡ get_or tags i t → (P t → ⊥)
      → GoOn i found → GoOn (i + 1) found
  places_no i t found within is n go = λ more h.
      let here : ArePlaces P i (t ∷ drop (i + 1) tags) more = inr (n, h) in
      go more (subst (λ (l : List Spellings). ArePlaces P i l more) (sym (next_is tags i t within is)) here)

  -- past the last tag, the places are those of all
  pub places_end : (i : ℕ) (found : List ℕ) → length tags ≤ i → GoOn i found → ArePlaces P 0 tags found
  places_end i found past go =
      let none : drop i tags ≡ [] = drop_of_length-le tags past in
      subst (λ (l : List ℕ). ArePlaces P 0 tags l) (append-nil found)
      (go [] (subst (λ (l : List Spellings). ArePlaces P i l []) (sym none) refl))

-- the loop over the ranges of a priority list; `M` says that a range matches a tag
module _ (M : RangeParts → Spellings → Type 0) (ranges : List RangeParts) (tags : List Spellings) where
  -- `found` are the places so far, that the first `i` ranges select: with those that the other ranges select they are
  -- what all select
  abbrev pub SelectsOn : ℕ → List ℕ → Type 0
  SelectsOn i found = (more : List ℕ) → Selects M (take i ranges) (drop i ranges) tags more → Selects M [] ranges tags (found ++ more)

  -- the next range adds the places of the tags that it matches and no range before it does (`here`)
  pub selects_next : (i : ℕ) (r : RangeParts) (found here : List ℕ) → i < length ranges → r ≡ get_or ranges i r
      → ArePlaces (λ tag. M r tag × NoneMatches M (take i ranges) tag) 0 tags here → SelectsOn i found → SelectsOn (i + 1) (found ++ here)
  selects_next i r found here within is places go = λ more h.
      let before : take (i + 1) ranges ≡ take i ranges ++ r ∷ [] = take_more ranges i r within
      ∙ ap (λ y. take i ranges ++ y ∷ []) (sym is) in
      let step : Selects M (take i ranges) (r ∷ drop (i + 1) ranges) tags (here ++ more) =
      (here, more, refl, places, subst (λ (l : List RangeParts). Selects M l (drop (i + 1) ranges) tags more) before h) in
      subst (λ (l : List ℕ). Selects M [] ranges tags l) (sym (append_assoc found here more))
      (go (here ++ more) (subst (λ (l : List RangeParts). Selects M (take i ranges) l tags (here ++ more))
      (sym (next_is ranges i r within is)) step))

  -- past the last range, the places are what all ranges select
  pub selects_end : (i : ℕ) (found : List ℕ) → length ranges ≤ i → SelectsOn i found → Selects M [] ranges tags found
  selects_end i found past go =
      let none : drop i ranges ≡ [] = drop_of_length-le ranges past in
      subst (λ (l : List ℕ). Selects M [] ranges tags l) (append-nil found)
      (go [] (subst (λ (l : List RangeParts). Selects M (take i ranges) l tags []) (sym none) refl))
