-- What the ordering steps on lists of parts keep: what holds of each part; and they lead to no more parts and subtags.
-- And lists that are cut at one element: when two cuts of a list are the same.
use Rattle.std.proofs.Common.{◌≡◌, ◌≢◌, ℕ, ◌≤◌, ◌<◌, ◌+◌, Bool, true, List, [], ◌∷◌, ◌++◌, Option, Some, refl, sym, ap}
use Rattle.std.proofs.Common.{ap₂, ◌∙◌, subst, Ordering, length, arith, IfSome, suc, get_or, set, take, drop}
use Rattle.std.specs.Prelude.{flat_map, map}
use Rattle.std.specs.List.{list_all, AllByRecursion}
use Rattle.std.proofs.lemmas.List.Elements.{All-from_recursion, recursion_from_All, All-map, All-weaker}
use Rattle.std.proofs.lemmas.List.Sums.{AllPass-from_list_all, list_all-from_AllPass}
use Rattle.std.proofs.Math.Seq.{get_or-append_seam}
use Rattle.std.proofs.lemmas.Grind.{flat_map-append}
use Rattle.std.proofs.lemmas.List.{length-append, set_split, set-get_or}
use Rattle.lt_rewrite.specs.Orderings.{ListStep, by_swap, by_drop}
use Rattle.lt_tag.specs.Parts.{ExtensionParts}
use Rattle.lt_registry.specs.Validity.{Distinct}

-- if all parts pass a test, each part does
pub facts_of_tests : {A : Type 0} (test : A → Bool) (xs : List A) → list_all test xs ≡ true → AllByRecursion (λ x. test x ≡ true) xs
facts_of_tests test xs h = recursion_from_All (λ x. test x ≡ true) xs (AllPass-from_list_all test xs h)

-- if each part passes a test, all do
pub tests_of_facts : {A : Type 0} (test : A → Bool) (xs : List A) → AllByRecursion (λ x. test x ≡ true) xs → list_all test xs ≡ true
tests_of_facts test xs h = list_all-from_AllPass test xs (All-from_recursion (λ x. test x ≡ true) xs h)

-- if `P` of all parts of `xs` gives `P` of all of `ys`, it does so with the same parts before both
all_under : {A : Type 0} (P : A → Type 0) (before xs ys : List A) → (AllByRecursion P xs → AllByRecursion P ys)
    → AllByRecursion P (before ++ xs) → AllByRecursion P (before ++ ys)
all_under P [] xs ys f h = f h
all_under P (u ∷ us) xs ys f h = (h.0, all_under P us xs ys f h.1)

-- if `P` holds of each part, it does so after two neighbours change places
pub all_swapped : {A : Type 0} (P : A → Type 0) (before : List A) (a b : A) (after : List A)
    → AllByRecursion P (before ++ a ∷ b ∷ after) → AllByRecursion P (before ++ b ∷ a ∷ after)
all_swapped P before a b after h = all_under P before (a ∷ b ∷ after) (b ∷ a ∷ after) (λ k. (k.1.0, (k.0, k.1.1))) h

-- if `P` holds of each part, it does so without one of them, `v`
pub all_without : {A : Type 0} (P : A → Type 0) (before : List A) (v : A) (after : List A)
    → AllByRecursion P (before ++ v ∷ after) → AllByRecursion P (before ++ after)
all_without P before v after h = all_under P before (v ∷ after) after (λ k. k.1) h

-- if `P` holds of each part, it does so after a step on the list
pub all_step : {A : Type 0} (P : A → Type 0) {once : Bool} {cmp : A → A → Ordering} (xs ys : List A)
    → ListStep once cmp xs ys → AllByRecursion P xs → AllByRecursion P ys
all_step P xs ys (by_swap before a b after s) h = subst (AllByRecursion P) (sym s.result)
    (all_swapped P before a b after (subst (AllByRecursion P) s.there h))
all_step P xs ys (by_drop before a between b after o s) h =
    subst (AllByRecursion P) (sym s.result)
    (all_under P before (a ∷ (between ++ b ∷ after)) (a ∷ (between ++ after))
    (λ k. (k.0, all_without P between b after k.1)) (subst (AllByRecursion P) s.there h))

-- if all parts pass a test, they do so after a step on the list
pub list_all_step : {A : Type 0} (test : A → Bool) {once : Bool} {cmp : A → A → Ordering} (xs ys : List A)
    → ListStep once cmp xs ys → list_all test xs ≡ true → list_all test ys ≡ true
list_all_step test xs ys s h = tests_of_facts test ys (all_step (λ x. test x ≡ true) xs ys s (facts_of_tests test xs h))

-- if `P` holds of each part and of `w`, it holds of each part with `w` in the place of `v`
pub all_replaced : {A : Type 0} (P : A → Type 0) (before : List A) (v w : A) (after : List A)
    → AllByRecursion P (before ++ v ∷ after) → P w → AllByRecursion P (before ++ w ∷ after)
all_replaced P before v w after h p = all_under P before (v ∷ after) (w ∷ after) (λ k. (p, k.1)) h

-- if `P` holds of each part, it holds of the part `v` at which the list is cut
pub all_middle : {A : Type 0} (P : A → Type 0) (before : List A) (v : A) (after : List A) → AllByRecursion P (before ++ v ∷ after) → P v
all_middle P [] v after h = h.0
all_middle P (u ∷ us) v after h = all_middle P us v after h.1

-- if `P` of a part gives `Q` of what `g` makes of it, `P` of all parts gives `Q` of what `g` makes of all
pub all_mapped : {A B : Type 0} (P : A → Type 0) (Q : B → Type 0) (g : A → B) → ((a : A) → P a → Q (g a))
    → (xs : List A) → AllByRecursion P xs → AllByRecursion Q (map g xs)
all_mapped P Q g h xs a = recursion_from_All Q (map g xs) (All-map Q g xs (All-weaker P (λ x. Q (g x)) h xs (All-from_recursion P xs a)))

-- if `P` holds of each element of the list that `g` makes of a list, it holds of what `g` makes of each part
pub all_unmapped : {A B : Type 0} (P : B → Type 0) (g : A → B) (xs : List A) → AllByRecursion P (map g xs)
    → AllByRecursion (λ x. P (g x)) xs
all_unmapped P g [] h = tt
all_unmapped P g (x ∷ xs) h = (h.0, all_unmapped P g xs h.1)

-- a list that is cut at a part is not empty
pub empty_middle : {A : Type 0} (before : List A) (a : A) (after : List A) → before ++ a ∷ after ≢ []
empty_middle [] a after e = cc
empty_middle (b ∷ bs) a after e = cc

-- if `P` and `Q` of a part give `S` of it, `P` and `Q` of all parts give `S` of all
pub all_both : {A : Type 0} (P Q S : A → Type 0) → ((a : A) → P a → Q a → S a) → (xs : List A) → AllByRecursion P xs
    → AllByRecursion Q xs → AllByRecursion S xs
all_both P Q S f [] h k = tt
all_both P Q S f (x ∷ xs) h k = (f x h.0 k.0, all_both P Q S f xs h.1 k.1)

-- equal lists are equal after their first parts
pub others_same : {A : Type 0} (x y : A) (xs ys : List A) → x ∷ xs ≡ y ∷ ys → xs ≡ ys
others_same x y xs ys e = cc

-- a step on a list of parts leads to a list with no more subtags
pub spelled_step : {A : Type 0} (spell : A → List (List ℕ)) {once : Bool} {cmp : A → A → Ordering} (xs ys : List A)
    → ListStep once cmp xs ys → length (flat_map spell ys) ≤ length (flat_map spell xs)
spelled_step spell xs ys (by_swap before a b after s) =
    rw (s.result, s.there) (simp (flat_map-append, length-append) (omega arith))
spelled_step spell xs ys (by_drop before a between b after o s) =
    rw (s.result, s.there) (simp (flat_map-append, length-append) (omega arith))

-- if a part is replaced by one with no more subtags, the list has no more subtags
pub spelled_replaced : {A : Type 0} (spell : A → List (List ℕ)) (before : List A) (v w : A) (after : List A)
    → length (spell w) ≤ length (spell v) → length (flat_map spell (before ++ w ∷ after))
    ≤ length (flat_map spell (before ++ v ∷ after))
spelled_replaced spell before v w after h =
    simp (flat_map-append, length-append) (omega arith)

-- a step on a list of parts leads to a list with no more parts
pub length_step : {A : Type 0} {once : Bool} {cmp : A → A → Ordering} (xs ys : List A) → ListStep once cmp xs ys → length ys ≤ length xs
length_step xs ys (by_swap before a b after s) = rw (s.result, s.there) (simp length-append (omega arith))
length_step xs ys (by_drop before a between b after o s) = rw (s.result, s.there) (simp length-append (omega arith))

-- if a part is replaced by another, the list has as many parts as before
pub length_replaced : {A : Type 0} (before : List A) (v w : A) (after : List A)
    → length (before ++ w ∷ after) ≡ length (before ++ v ∷ after)
length_replaced before v w after = simp length-append

-- a step on a list leaves at least one part
pub step_some : {A : Type 0} {once : Bool} {cmp : A → A → Ordering} (xs ys : List A) → ListStep once cmp xs ys → ys ≢ []
step_some xs ys (by_swap before a b after s) e = empty_middle before b (a ∷ after) (sym s.result ∙ e)
step_some xs ys (by_drop before a between b after o s) e = empty_middle before a (between ++ after) (sym s.result ∙ e)

-- the length of a list that is not empty is above 0
pub some_long : {A : Type 0} (xs : List A) → xs ≢ [] → 0 < length xs
some_long [] h = absurd (h refl)
some_long (x ∷ xs) h = omega arith

-- if `P` holds of an optional value in case there is one, it holds of the value `a`
pub if_some_is : {A : Type 0} (P : A → Type 0) (o : Option A) (a : A) → o ≡ Some a → IfSome o P → P a
if_some_is P o a e h = subst (λ x. IfSome x P) e h

-- if `P` holds of the value `a`, it holds of the optional value in case there is one
pub is_if_some : {A : Type 0} (P : A → Type 0) (o : Option A) (a : A) → o ≡ Some a → P a → IfSome o P
is_if_some P o a e h = subst (λ x. IfSome x P) (sym e) h

-- Lists cut at an element.

-- in a list that is cut at `v`, the part at the index of `v` is `v`
pub cut_at : {A : Type 0} (before : List A) (v : A) (after vs : List A) (d : A) → vs ≡ before ++ v ∷ after → get_or vs (length before) d ≡ v
cut_at before v after vs d e = ap (λ us. get_or us (length before) d) e ∙ get_or-append_seam before v after d

-- in a list that is cut at `v`, the index of `v` is below the length
pub cut_within : {A : Type 0} (before : List A) (v : A) (after vs : List A) → vs ≡ before ++ v ∷ after → length before < length vs
cut_within before v after vs e = omega (arith, ap length e, length-append before (v ∷ after))

-- a list is what is before its part `x` at the index `i`, then `x`, and then what is after it
pub round : {A : Type 0} (xs : List A) (i : ℕ) (x : A) → i < length xs → x ≡ get_or xs i x → xs ≡ take i xs ++ x ∷ drop (suc i) xs
round xs i x h e = sym (set-get_or xs i x) ∙ ap (set xs i) (sym e) ∙ set_split xs i x h

-- When two cuts of one list are the same.

-- two cuts of one list are the same: in what is before, in the part, and in what is after
pub record SameCut {A : Type 0} (xs ys : List A) (v w : A) (us vs : List A) : Type 0 where
  pub front : xs ≡ ys
  pub at : v ≡ w
  pub rest : us ≡ vs

-- two cuts of one list are the same, if `Q` relates what is before them: `Q` relates an empty list to no list that is
-- not empty, or the other way round, and if it relates two lists with the same first part, it relates their rests
same_by : {A : Type 0} (Q : List A → List A → Type 0) → ((y : A) (ys : List A) → Q [] (y ∷ ys) → ⊥)
    → ((x : A) (xs : List A) → Q (x ∷ xs) [] → ⊥) → ((x : A) (xs ys : List A) → Q (x ∷ xs) (x ∷ ys) → Q xs ys)
    → (xs ys : List A) (v w : A) (us vs : List A) → xs ++ v ∷ us ≡ ys ++ w ∷ vs → Q xs ys → SameCut xs ys v w us vs
same_by Q l r more [] [] v w us vs e q = record { front = refl; at = let k : v ≡ w = cc in k; rest = others_same v w us vs e }
same_by Q l r more [] (y ∷ ys) v w us vs e q = absurd (l y ys q)
same_by Q l r more (x ∷ xs) [] v w us vs e q = absurd (r x xs q)
same_by Q l r more (x ∷ xs) (y ∷ ys) v w us vs e q =
    let h : x ≡ y = cc in
    let k = same_by Q l r more xs ys v w us vs (others_same x y (xs ++ v ∷ us) (ys ++ w ∷ vs) e)
    (more x xs ys (subst (λ z. Q (x ∷ xs) (z ∷ ys)) (sym h) q)) in
    record { front = ap₂ (λ z zs. z ∷ zs) h k.front; at = k.at; rest = k.rest }

-- two cuts of one list with as many parts before them are the same
pub same_cut : {A : Type 0} (xs ys : List A) (v w : A) (us vs : List A) → xs ++ v ∷ us ≡ ys ++ w ∷ vs
    → length xs ≡ length ys → SameCut xs ys v w us vs
same_cut xs ys v w us vs e l =
    same_by (λ a b. length a ≡ length b) (λ y ys h. omega arith) (λ x xs h. omega arith) (λ x xs ys h. omega arith) xs ys v w us vs e l

-- two cuts of one list with as many subtags before them are the same, if each part has a subtag
pub same_flat : {A : Type 0} (spell : A → List (List ℕ)) → ((a : A) → spell a ≢ [])
    → (xs ys : List A) (v w : A) (us vs : List A) → xs ++ v ∷ us ≡ ys ++ w ∷ vs
    → length (flat_map spell xs) ≡ length (flat_map spell ys) → SameCut xs ys v w us vs
same_flat spell n xs ys v w us vs e l =
    same_by (λ a b. length (flat_map spell a) ≡ length (flat_map spell b))
    (λ y ys h. omega (arith, h, some_long (spell y) (n y), length-append (spell y) (flat_map spell ys)))
    (λ x xs h. omega (arith, h, some_long (spell x) (n x), length-append (spell x) (flat_map spell xs)))
    (λ x xs ys h. omega (
      arith,
      h,
      length-append (spell x) (flat_map spell xs),
      length-append (spell x) (flat_map spell ys),
    )) xs ys v w us vs e l

-- the number of subtags of a list is that of those before a part `a`, of `a`, and of those after it
pub flat_length : {A : Type 0} (spell : A → List (List ℕ)) (before : List A) (a : A) (between : List A)
    → length (flat_map spell (before ++ a ∷ between)) ≡ length (flat_map spell before) + length (spell a)
    + length (flat_map spell between)
flat_length spell before a between =
    simp (flat_map-append, length-append) (omega arith)

-- the singleton of an extension
abbrev singleton_of : ExtensionParts → ℕ
singleton_of e = e.singleton

-- if each singleton occurs once, two cuts of one list at extensions with the same singleton are the same
pub distinct_cut : (xs ys : List ExtensionParts) (v w : ExtensionParts) (us vs : List ExtensionParts)
    → xs ++ v ∷ us ≡ ys ++ w ∷ vs → Distinct (map (λ (e : ExtensionParts). e.singleton) (xs ++ v ∷ us))
    → v.singleton ≡ w.singleton → SameCut xs ys v w us vs
distinct_cut xs ys v w us vs e d k =
    same_by (λ as' bs. (as' ++ v ∷ us ≡ bs ++ w ∷ vs) × Distinct (map singleton_of (as' ++ v ∷ us)))
    (λ y bs q.
    let others = subst (λ l. AllByRecursion (λ n. n ≢ v.singleton) (map singleton_of l)) (others_same v y us (bs ++ w ∷ vs) q.0) q.1.0 in
    all_middle (λ (x : ExtensionParts). x.singleton ≢ v.singleton) bs w vs
    (all_unmapped (λ n. n ≢ v.singleton) singleton_of (bs ++ w ∷ vs) others) (sym k))
    (λ x as' q.
    let same : x ≡ w = cc (q.0) in
    all_middle (λ (y : ExtensionParts). y.singleton ≢ x.singleton) as' v us
    (all_unmapped (λ n. n ≢ x.singleton) singleton_of (as' ++ v ∷ us) q.1.0) (k ∙ ap singleton_of (sym same)))
    (λ x as' bs q. (others_same x x (as' ++ v ∷ us) (bs ++ w ∷ vs) q.0, q.1.1)) xs ys v w us vs e (e, d)
