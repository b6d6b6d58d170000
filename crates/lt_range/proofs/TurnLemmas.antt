-- Subtags are *in turn* in a list if they are there one after another, with no singleton passed over, as extended
-- filtering asks. To look for each only at its first place is enough: `are_in_turn` does so.
use Rattle.std.proofs.Common.{◌≡◌, ℕ, ◌⊎◌, inl, inr, true, false, List, [], ◌∷◌, ◌++◌, sym, ap, ◌∙◌, arith, subst}
use Rattle.std.specs.List.{list_all, AllByRecursion}
use Rattle.std.proofs.lemmas.Bool.Decides.{nat_tests}
use Rattle.std.proofs.lemmas.List.{append_assoc}
use Rattle.lt_tag.proofs.ListLemmas.{head_is, tail_is, list_all-append}
use Rattle.lt_range.specs.Matching.{is_no_singleton, AreInTurn, IsPassedTo, FollowsFirst}

-- if no subtag of a list is a singleton, the first isn't
long_head : (x : List ℕ) (xs : List (List ℕ)) → list_all is_no_singleton (x ∷ xs) ≡ true → is_no_singleton x ≡ true
long_head x xs h = grind (arith, nat_tests)

-- if no subtag of a list is a singleton, none after the first is
long_tail : (x : List ℕ) (xs : List (List ℕ)) → list_all is_no_singleton (x ∷ xs) ≡ true → list_all is_no_singleton xs ≡ true
long_tail x xs h = grind (arith, nat_tests)

-- a subtag that is in a list with no singleton before it, and isn't the first of the list, is also in what follows the
-- first, with no singleton before it
pub passed_next : (s first : List ℕ) (others : List (List ℕ)) → (first ≡ s → ⊥) → IsPassedTo (first ∷ others) s → IsPassedTo others s
passed_next s first others other h = go h.passed h.there h.long
  where
    go : (passed : List (List ℕ)) → first ∷ others ≡ passed ++ s ∷ h.rest → list_all is_no_singleton passed ≡ true → IsPassedTo others s
    go [] there long = absurd (other (head_is first s others h.rest there))
    go (p ∷ ps) there long = record {
      passed = ps;
      rest = h.rest;
      there = tail_is first p others (ps ++ s ∷ h.rest)
          there;
      long = long_tail p ps long;
    }

-- no subtag is in a list with no singleton before it if the list begins with a singleton that is another subtag
pub passed_stops : (s first : List ℕ) (others : List (List ℕ)) → (first ≡ s → ⊥) → is_no_singleton first ≡ false
    → IsPassedTo (first ∷ others) s → ⊥
passed_stops s first others other short h = go h.passed h.there h.long
  where
    go : (passed : List (List ℕ)) → first ∷ others ≡ passed ++ s ∷ h.rest → list_all is_no_singleton passed ≡ true → ⊥
    go [] there long = other (head_is first s others h.rest there)
    go (p ∷ ps) there long =
        let same : first ≡ p = head_is first p others (ps ++ s ∷ h.rest) there in
        let is : is_no_singleton p ≡ true = long_head p ps long in
        let isnt : is_no_singleton p ≡ false = subst (λ (x : List ℕ). is_no_singleton x ≡ false) same short in
        cc

-- an empty list has no subtag in it
pub passed_none : (s : List ℕ) → IsPassedTo [] s → ⊥
passed_none s h = go h.passed h.there
  where
    go : (passed : List (List ℕ)) → [] ≡ passed ++ s ∷ h.rest → ⊥
    go [] there = cc
    go (p ∷ ps) there = cc

-- of two places of `s` in a list, after `passed` and after `passed_other`, the second is later; `rest` and `other` are
-- what follows the two, and `between` is what is between them
pub record IsLater (s : List ℕ) (rest other passed passed_other : List (List ℕ)) : Type 0 where
  pub between : List (List ℕ)
  pub rest_is : rest ≡ between ++ s ∷ other
  pub passed_is : passed_other ≡ passed ++ s ∷ between

-- if `s` is at two places of a list, and isn't among the subtags before the first, the two are one place, or the second
-- is later
first_place : (s : List ℕ) (passed passed_other rest other : List (List ℕ)) → passed ++ s ∷ rest ≡ passed_other ++ s ∷ other
    → AllByRecursion (λ t. t ≡ s → ⊥) passed → (rest ≡ other) ⊎ IsLater s rest other passed passed_other
first_place s [] [] rest other same new = inl (tail_is s s rest other same)
first_place s [] (x ∷ xs) rest other same new =
    let here : s ≡ x = head_is s x rest (xs ++ s ∷ other) same in
    inr (record { between = xs; rest_is = tail_is s x rest (xs ++ s ∷ other) same; passed_is = ap (λ (y : List ℕ). y ∷ xs) (sym here) })
first_place s (p ∷ ps) [] rest other same new = absurd (new.0 (head_is p s (ps ++ s ∷ rest) other same))
first_place s (p ∷ ps) (x ∷ xs) rest other same new =
    let here : p ≡ x = head_is p x (ps ++ s ∷ rest) (xs ++ s ∷ other) same in
    elim (first_place s ps xs rest other (tail_is p x (ps ++ s ∷ rest) (xs ++ s ∷ other) same) new.1) [
      | inl e ↦ inl e
      | inr l ↦
          inr (record {
            between = l.between;
            rest_is = l.rest_is;
            passed_is = ap (λ (y : List ℕ). y ∷ xs) (sym here)
                ∙ ap (λ (ys : List (List ℕ)). p ∷ ys) l.passed_is;
          })
    ]

-- if subtags are in turn in a list, they still are with subtags that are no singletons in front of the list
more_before : (ss passed list : List (List ℕ)) → list_all is_no_singleton passed ≡ true → AreInTurn ss list → AreInTurn ss (passed ++ list)
more_before [] passed list long h = tt
more_before (s ∷ ss) passed list long h = (
  passed ++ h.0,
  h.1,
  ap (λ (l : List (List ℕ)). passed ++ l) h.2 ∙ sym (append_assoc passed h.0 (s ∷ h.1)),
  list_all-append is_no_singleton passed h.0 long h.3,
  h.4,
)

-- if a list has no singletons, its end has none
long_part : (xs ys : List (List ℕ)) → list_all is_no_singleton (xs ++ ys) ≡ true → list_all is_no_singleton ys ≡ true
long_part [] ys h = h
long_part (x ∷ xs) ys h = long_part xs ys (long_tail x (xs ++ ys) h)

-- if subtags are in turn in a list, those after the first, `s`, are in turn in what follows the first place of `s`
pub turn_next : (s : List ℕ) (ss list rest : List (List ℕ)) → FollowsFirst list s rest → AreInTurn (s ∷ ss) list → AreInTurn ss rest
turn_next s ss list rest f h =
    elim (first_place s f.passed h.0 rest h.1 (sym f.there ∙ h.2) f.new) [
      | inl e ↦ subst (AreInTurn ss) (sym e) h.4
      | inr l ↦
          let long : list_all is_no_singleton (f.passed ++ s ∷ l.between) ≡ true = subst
          (λ (xs : List (List ℕ)). list_all is_no_singleton xs ≡ true) l.passed_is h.3 in
          let from : list_all is_no_singleton (s ∷ l.between) ≡ true = long_part f.passed (s ∷ l.between) long in
          let later : AreInTurn ss ((l.between ++ s ∷ []) ++ h.1) =
          more_before ss (l.between ++ s ∷ []) h.1
          (list_all-append is_no_singleton l.between (s ∷ []) (long_tail s l.between from)
          (grind (arith, nat_tests, long_head s l.between from))) h.4 in
          subst (AreInTurn ss) (append_assoc l.between (s ∷ []) h.1 ∙ sym l.rest_is) later
    ]

-- if the subtags after the first, `s`, are in turn in what follows the first place of `s` in a list, all are in turn in
-- the list
pub turn_back : (s : List ℕ) (ss list rest : List (List ℕ)) → FollowsFirst list s rest → AreInTurn ss rest → AreInTurn (s ∷ ss) list
turn_back s ss list rest f h = (f.passed, rest, f.there, f.long, h)

-- if a subtag isn't in a list with no singleton before it, then it and others aren't in turn in the list
pub turn_none : (s : List ℕ) (ss list : List (List ℕ)) → (IsPassedTo list s → ⊥) → AreInTurn (s ∷ ss) list → ⊥
turn_none s ss list none h = none (record { passed = h.0; rest = h.1; there = h.2; long = h.3 })

-- if `s` is none of `xs` and is not `x`, it is none of `xs` and `x`
pub new_more : (s : List ℕ) (xs : List (List ℕ)) (x : List ℕ) → AllByRecursion (λ t. t ≡ s → ⊥) xs → (x ≡ s → ⊥)
    → AllByRecursion (λ t. t ≡ s → ⊥) (xs ++ x ∷ [])
new_more s [] x new other = (other, tt)
new_more s (y ∷ ys) x new other = (new.0, new_more s ys x new.1 other)
