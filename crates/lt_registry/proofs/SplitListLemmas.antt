-- What is true of each element of a list, or of each pair of its elements, shown by all ways to split the list around
-- them. Faults are stated by such splits, and validity by properties of whole lists, so `ValidityLaws` needs both.
use Rattle.std.proofs.Common.{◌≡◌, ◌≢◌, List, [], ◌∷◌, ◌++◌, refl, sym, ap, ◌∙◌, subst}
use Rattle.std.specs.Prelude.{map}
use Rattle.std.specs.List.{AllByRecursion}
use Rattle.lt_registry.specs.Validity.{Distinct}

-- each element has the property `P` if it does wherever the list is split around it
pub all_from : {A : Type 0} (P : A → Type 0) (xs : List A) → ((b : List A) (y : A) (a : List A) → xs ≡ b ++ y ∷ a → P y)
    → AllByRecursion P xs
all_from P [] f = tt
all_from P (x ∷ xs) f = (f [] x xs refl, all_from P xs (λ b y a e. f (x ∷ b) y a (ap (λ zs. x ∷ zs) e)))

-- if each element has the property, the one between `b` and `a` does
all_there : {A : Type 0} (P : A → Type 0) (b : List A) (y : A) (a : List A) → AllByRecursion P (b ++ y ∷ a) → P y
all_there P [] y a h = h.0
all_there P (x ∷ b) y a h = all_there P b y a h.1

-- if each element has the property, the one that `xs` is split around does
pub all_at : {A : Type 0} (P : A → Type 0) (xs b : List A) (y : A) (a : List A) → xs ≡ b ++ y ∷ a → AllByRecursion P xs → P y
all_at P xs b y a e h = all_there P b y a (subst (AllByRecursion P) e h)

-- with an element more that has the property, each has it
pub all_more : {A : Type 0} (P : A → Type 0) (xs : List A) (v : A) → AllByRecursion P xs → P v → AllByRecursion P (xs ++ v ∷ [])
all_more P [] v h p = (p, tt)
all_more P (x ∷ xs) v h p = (h.0, all_more P xs v h.1 p)

-- a list is distinct if it can't be split around one value twice
pub distinct_from : {A : Type 0} (xs : List A) → ((b : List A) (v : A) (c d : List A) → xs ≡ b ++ v ∷ (c ++ v ∷ d) → ⊥) → Distinct xs
distinct_from [] f = tt
distinct_from (x ∷ xs) f = (
  all_from (λ y. y ≢ x) xs (λ b y a e same. f [] x b a (ap (λ zs. x ∷ zs) (e ∙ ap (λ z. b ++ z ∷ a) same))),
  distinct_from xs (λ b v c d e. f (x ∷ b) v c d (ap (λ zs. x ∷ zs) e)),
)

-- a list with `v` between `b` and `c` and again before `d` is not distinct
distinct_there : {A : Type 0} (b : List A) (v : A) (c d : List A) → Distinct (b ++ v ∷ (c ++ v ∷ d)) → ⊥
distinct_there [] v c d h = all_there (λ y. y ≢ v) c v d h.0 refl
distinct_there (x ∷ b) v c d h = distinct_there b v c d h.1

-- a list that is split around `v` twice is not distinct
pub distinct_at : {A : Type 0} (xs b : List A) (v : A) (c d : List A) → xs ≡ b ++ v ∷ (c ++ v ∷ d) → Distinct xs → ⊥
distinct_at xs b v c d e h = distinct_there b v c d (subst Distinct e h)

-- the facts on each element, and on each pair, for the values of a function

-- each value of `f` has the property `P` if it does wherever the list is split around its element
all_map_from : {A B : Type 0} (f : A → B) (P : B → Type 0) (xs : List A)
    → ((b : List A) (y : A) (a : List A) → xs ≡ b ++ y ∷ a → P (f y)) → AllByRecursion P (map f xs)
all_map_from f P [] h = tt
all_map_from f P (x ∷ xs) h = (h [] x xs refl, all_map_from f P xs (λ b y a e. h (x ∷ b) y a (ap (λ zs. x ∷ zs) e)))

-- the values of `f` are distinct if the list can't be split around two elements of one value
pub distinct_map_from : {A B : Type 0} (f : A → B) (xs : List A)
    → ((b : List A) (x : A) (c : List A) (y : A) (d : List A) → xs ≡ b ++ x ∷ (c ++ y ∷ d) → f x ≡ f y → ⊥)
    → Distinct (map f xs)
distinct_map_from f [] h = tt
distinct_map_from f (x ∷ xs) h = (
  all_map_from f (λ z. z ≢ f x) xs (λ b y a e same. h [] x b y a (ap (λ zs. x ∷ zs) e) (sym same)),
  distinct_map_from f xs (λ b y c z d e. h (x ∷ b) y c z d (ap (λ zs. x ∷ zs) e)),
)

-- if each value of `f` has the property, that of the element `y` between `b` and `a` does
all_map_there : {A B : Type 0} (f : A → B) (P : B → Type 0) (b : List A) (y : A) (a : List A)
    → AllByRecursion P (map f (b ++ y ∷ a)) → P (f y)
all_map_there f P [] y a h = h.0
all_map_there f P (x ∷ b) y a h = all_map_there f P b y a h.1

-- values of `f` are not distinct if two elements have one value
distinct_map_there : {A B : Type 0} (f : A → B) (b : List A) (x : A) (c : List A) (y : A) (d : List A)
    → Distinct (map f (b ++ x ∷ (c ++ y ∷ d))) → f x ≡ f y → ⊥
distinct_map_there f [] x c y d h e = all_map_there f (λ z. z ≢ f x) c y d h.0 (sym e)
distinct_map_there f (z ∷ b) x c y d h e = distinct_map_there f b x c y d h.1 e

-- the values of `f` are not distinct if the list is split around two elements of one value
pub distinct_map_at : {A B : Type 0} (f : A → B) (xs b : List A) (x : A) (c : List A) (y : A) (d : List A)
    → xs ≡ b ++ x ∷ (c ++ y ∷ d) → Distinct (map f xs) → f x ≡ f y → ⊥
distinct_map_at f xs b x c y d e h = distinct_map_there f b x c y d (subst (λ zs. Distinct (map f zs)) e h)
