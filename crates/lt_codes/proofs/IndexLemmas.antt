-- A table has, at the number of each three letters, the place of the first code that they are, counted from 1, or 0 if
-- they are none. `CodeTable::push` keeps this when it adds a code, and so `registered` finds the first code of a text.
use Rattle.std.proofs.Common.{◌≡◌, ◌≢◌, ◌<◌, ◌-◌, ◌++◌, ◌∙◌, ◌⊎◌, ℕ, true, false, List, [], ◌∷◌, inl, inr, refl, sym}
use Rattle.std.proofs.Common.{ap, arith, subst, length, Some, None, get_or, set, replicate, length-set}
use Rattle.std.specs.Prelude.{Option, slice_get, zero, suc, bytes_eq, IsSome}
use Rattle.std.specs.List.{All}
use Rattle.std.specs.Option.{option_or}
use Rattle.std.proofs.lemmas.Bool.{cases_Bool, cases_eq}
use Rattle.std.proofs.lemmas.List.{get_or-replicate, get_or-set_same, get_or-set_other, length-replicate}
use Rattle.std.proofs.lemmas.Grind.{get_or_default_zero}
use Rattle.std.proofs.lemmas.List.Elements.{All-nil, All-push}
use Rattle.std.proofs.lemmas.List.Folds.{find-append}
use Rattle.std.proofs.lemmas.Slice.Eq.{bytes_eq-Decides}
use Rattle.lt_subtag.specs.Bytes.{folded}
use Rattle.lt_codes.specs.Codes.{found_in}
use Rattle.lt_codes.specs.Index.{AreIndexed, IsCode, IsPlaceOf, number_of, numbers}
use Rattle.lt_codes.specs.declared.codes.Code.{Code}
use Rattle.lt_codes.proofs.FindLemmas.{find_holds, find_passes, get_before, get_last, length-last}
use Rattle.lt_codes.proofs.LetterLemmas.{has_letters, number-folded, one_number}

-- a code that is this text, letter case aside, has the number of the text
number_is : (c : Code) (text : List ℕ) → bytes_eq c.code (folded text) ≡ true → number_of c.code ≡ number_of text
number_is c text same = ap number_of ((bytes_eq-Decides c.code (folded text)).0 same) ∙ number-folded text

-- a text that has no number is none of the codes
pub found_none : (codes : List Code) (text : List ℕ) → All IsCode codes → number_of text ≡ None → found_in codes text ≡ None
found_none codes text each none = by_found (found_in codes text) refl
  where
    by_found : (found : Option Code) → found_in codes text ≡ found → found ≡ None
    by_found None is = refl
    by_found (Some c) is =
        let code = find_holds IsCode (λ c. bytes_eq c.code (folded text)) codes c each is in
        let number = number_is c text (find_passes (λ c. bytes_eq c.code (folded text)) codes c is) ∙ none in
        let bad : IsSome {T = ℕ} None = subst (λ (n : Option ℕ). IsSome n) number code.number in cc

-- what is found for a text, with one more code x behind the others
module _ (codes : List Code) (x : Code) (text : List ℕ) where
  -- if x is not the text, the same is found as without x
  found_other : bytes_eq x.code (folded text) ≡ false → found_in (codes ++ x ∷ []) text ≡ found_in codes text
  found_other other = find-append (λ c. bytes_eq c.code (folded text)) codes (x ∷ []) ∙ rw other (by_found (found_in codes text))
    where
      by_found : (found : Option Code) → option_or found None ≡ found
      by_found None = refl
      by_found (Some c) = refl

  -- if x is the text, and no code before it is, x is found
  found_last : found_in codes text ≡ None → bytes_eq x.code (folded text) ≡ true → found_in (codes ++ x ∷ []) text ≡ Some x
  found_last none same = find-append (λ c. bytes_eq c.code (folded text)) codes (x ∷ []) ∙ rw (none, same) refl

  -- if a code before x is found, it is still found
  found_before : (c : Code) → found_in codes text ≡ Some c → found_in (codes ++ x ∷ []) text ≡ Some c
  found_before c some = find-append (λ c. bytes_eq c.code (folded text)) codes (x ∷ []) ∙ rw some refl

  -- the place of a text stays, unless it had none and x is the text
  place_stays : (place : ℕ) → (place ≡ 0 → bytes_eq x.code (folded text) ≡ false) → IsPlaceOf codes text place
      → IsPlaceOf (codes ++ x ∷ []) text place
  place_stays zero other none = found_other (other refl) ∙ none
  place_stays (suc i) other some = (some.0, found_before some.0 some.1, get_before codes x some.0 i some.2)

  -- if x is the text, and no code before it is, the last place is that of the text
  place_last : (place : ℕ) → place ≡ length (codes ++ x ∷ []) → found_in codes text ≡ None
      → bytes_eq x.code (folded text) ≡ true → IsPlaceOf (codes ++ x ∷ []) text place
  place_last place is none same = subst (IsPlaceOf (codes ++ x ∷ []) text) (sym (is ∙ length-last codes x))
      (x, found_last none same, get_last codes x)

-- a text whose number is not that of a code is not the code
other_code : (x : Code) (text : List ℕ) (n m : ℕ) → number_of x.code ≡ Some n → number_of text ≡ Some m → (m ≡ n → ⊥)
    → bytes_eq x.code (folded text) ≡ false
other_code x text n m is has other = elim (cases_Bool (bytes_eq x.code (folded text))) [
  | inl same ↦ let one : Some n ≡ Some m = sym is ∙ number_is x text same ∙ has in let equal : m ≡ n = cc in absurd (other equal)
  | inr not ↦ not
]

-- a text whose number is that of a code is the code
same_code : (x : Code) (text : List ℕ) (n : ℕ) → IsCode x → number_of x.code ≡ Some n → number_of text ≡ Some n
    → bytes_eq x.code (folded text) ≡ true
same_code x text n code is has = (bytes_eq-Decides x.code (folded text)).1 (sym code.lower ∙ one_number x.code text n is has)

-- numbers of three letters are below 17576, which is 26 to the 3
pub number_small : (text : List ℕ) (n : ℕ) → number_of text ≡ Some n → n < 17576
number_small text n h = let x = has_letters text n h in omega (arith, x.small.0, x.small.1, x.small.2, x.number)

-- a table without codes has the place 0 at each number
pub indexed_none : (places : List ℕ) → places ≡ replicate numbers 0 → AreIndexed [] places
indexed_none places is = record {
  each = All-nil IsCode;
  full = ap length is ∙ length-replicate {A = ℕ} numbers 0;
  place = λ text n has. subst (IsPlaceOf [] text)
      (sym (ap (λ l. get_or l n 0) is ∙ get_or-replicate {A = ℕ} numbers n 0 0 (number_small text n has))) refl;
}

-- if a code x with the number n is added, and `places` already has a place at n, `places` is still right
pub indexed_known : (codes : List Code) (places : List ℕ) (x : Code) (n : ℕ) → AreIndexed codes places → IsCode x
    → number_of x.code ≡ Some n → get_or places n 0 ≢ 0 → AreIndexed (codes ++ x ∷ []) places
indexed_known codes places x n old code is taken = record {
  each = All-push IsCode codes x old.each code;
  full = old.full;
  place = λ text m has.
      place_stays codes x text (get_or places m 0)
      (λ none. other_code x text n m is has (λ same. taken (ap (λ k. get_or places k 0) (sym same) ∙ none)))
      (old.place text m has);
}

-- if a code x with the number n is added, and `places` has none at n yet, it is right with the place of x put there
pub indexed_new : (codes : List Code) (places : List ℕ) (x : Code) (n : ℕ) → AreIndexed codes places → IsCode x
    → number_of x.code ≡ Some n → get_or places n 0 ≡ 0
    → AreIndexed (codes ++ x ∷ []) (set places n (length (codes ++ x ∷ [])))
indexed_new codes places x n old code is free = record {
  each = All-push IsCode codes x old.each code;
  full = length-set places n (length (codes ++ x ∷ [])) ∙ old.full;
  place = λ text m has. by_number text m has (cases_eq m n);
}
  where
    by_number : (text : List ℕ) (m : ℕ) → number_of text ≡ Some m → (m ≡ n) ⊎ (m ≡ n → ⊥)
        → IsPlaceOf (codes ++ x ∷ []) text (get_or (set places n (length (codes ++ x ∷ []))) m 0)
    by_number text m has (inl same) =
        let here : number_of text ≡ Some n = has ∙ ap (λ k. Some k) same in
        let within : n < length places = omega (arith, number_small x.code n is, old.full) in
        place_last codes x text (get_or (set places n (length (codes ++ x ∷ []))) m 0)
        (ap (λ k. get_or (set places n (length (codes ++ x ∷ []))) k 0) same ∙ get_or-set_same places n (length (codes ++ x ∷ [])) 0 within)
        (subst (IsPlaceOf codes text) free (old.place text n here)) (same_code x text n code is here)
    by_number text m has (inr other) =
        subst (IsPlaceOf (codes ++ x ∷ []) text) (sym (get_or-set_other places n m (length (codes ++ x ∷ [])) 0 other))
        (place_stays codes x text (get_or places m 0) (λ _. other_code x text n m is has other) (old.place text m has))

-- what `places` has at the number n of a text is the place of the text; `place` stands also for an index past the end,
-- which n never is
pub place_at : (codes : List Code) (places : List ℕ) (text : List ℕ) (n place : ℕ) → AreIndexed codes places
    → number_of text ≡ Some n → place ≡ get_or places n place → IsPlaceOf codes text place
place_at codes places text n place indexed has is =
    let within : n < length places = omega (arith, number_small text n has, indexed.full) in
    subst (IsPlaceOf codes text) (sym (is ∙ get_or_default_zero places n place within)) (indexed.place text n has)

-- if the place of a text is not 0, the code at that place, counted from 1, is the one that is found for the text
pub at_place : (codes : List Code) (text : List ℕ) (place : ℕ) → (place ≡ 0 → ⊥) → IsPlaceOf codes text place
    → (c : Code) × (found_in codes text ≡ Some c) × (slice_get codes (place - 1) ≡ Some c)
at_place codes text zero some none = absurd (some refl)
at_place codes text (suc i) some found = (found.0, found.1, subst (λ k. slice_get codes k ≡ Some found.0) (omega arith) found.2)

-- a code has three letters
pub code_long : (c : Code) → IsCode c → length c.code ≡ 3
code_long c code = by_number (number_of c.code) refl
  where
    by_number : (n : Option ℕ) → number_of c.code ≡ n → length c.code ≡ 3
    by_number None is = let bad : IsSome {T = ℕ} None = subst (λ (o : Option ℕ). IsSome o) is code.number in cc
    by_number (Some n) is = ap length (sym code.lower ∙ (has_letters c.code n is).folds)
