-- What `Found::put` needs: which of five names a field has, and what one more field changes of a name: the place of its
-- first field, its body, and whether it occurs twice.
use Rattle.std.proofs.Common.{◌≡◌, ◌≢◌, ℕ, suc, ◌+◌, ◌-◌, ◌≤◌, Bool, true, false, ◌||◌, List, [], ◌∷◌, ◌++◌, length}
use Rattle.std.proofs.Common.{Option, Some, None, refl, sym, ap, ◌∙◌, arith}
use Rattle.std.specs.Prelude.{find, is_some, nat_lt, cond, count_by, option_map, if◌then◌else◌}
use Rattle.std.specs.Cmp.Lexicographic.{bytes_decides}
use Rattle.std.specs.List.{position_from, slice_get}
use Rattle.std.specs.Option.{option_and_then, option_or}
use Rattle.std.specs.Char.{to_ascii_lowercase}
use Rattle.std.specs.Str.{str_eq_ignore_ascii_case, str_to_ascii_lowercase}
use Rattle.std.proofs.lemmas.Bool.{false_from_ne_true}
use Rattle.std.proofs.lemmas.Bool.Decides.{nat_tests}
use Rattle.std.proofs.lemmas.List.{length-map}
use Rattle.std.proofs.lemmas.List.Folds.{find-append}
use Rattle.std.proofs.lemmas.List.Sums.{sum_by-append, sum_by-cons}
use Rattle.lt_jar.specs.Records.{Field}
use Rattle.lt_registry.specs.Records.{body, is_called, is_repeated}
use Rattle.lt_registry.specs.RecordSteps.{IsPlace}
use Rattle.lt_registry.specs.declared.fields.FieldName.{FieldName}
use Rattle.lt_registry.specs.declared.fields.FieldName.TheVariants as told

-- A text has one of the names at most.

-- a text that is the name `n`, letter case aside, is no name of another length
pub apart : (s n m : List ℕ) → length n ≢ length m → str_eq_ignore_ascii_case s n ≡ true → str_eq_ignore_ascii_case s m ≡ false
apart s n m far h =
    false_from_ne_true (str_eq_ignore_ascii_case s m) (λ g.
    let a = (bytes_decides (str_to_ascii_lowercase s) (str_to_ascii_lowercase n)).0 h in
    let b = (bytes_decides (str_to_ascii_lowercase s) (str_to_ascii_lowercase m)).0 g in
    let lower : str_to_ascii_lowercase n ≡ str_to_ascii_lowercase m = sym a ∙ b in
    far (omega (arith, ap length lower, length-map n to_ascii_lowercase, length-map m to_ascii_lowercase)))

-- which field a name is, by the tests for Type, Subtag, Tag, Preferred-Value and File-Date: the first that holds tells
-- it
abbrev told_by : Bool → Bool → Bool → Bool → Bool → FieldName
told_by a b c d e = if a then told.Type else
    (if b then told.Subtag else
    (if c then told.Tag else (if d then told.PreferredValue else (if e then told.FileDate else told.Other))))

-- if the five tests of `told_by` tell Type, the first holds
pub by_type : (a b c d e : Bool) → told_by a b c d e ≡ told.Type → a ≡ true
by_type true b c d e h = refl
by_type false true c d e h = cc
by_type false false true d e h = cc
by_type false false false true e h = cc
by_type false false false false true h = cc
by_type false false false false false h = cc

-- if the five tests of `told_by` tell Subtag, the second holds
pub by_subtag : (a b c d e : Bool) → told_by a b c d e ≡ told.Subtag → b ≡ true
by_subtag true b c d e h = cc
by_subtag false true c d e h = refl
by_subtag false false true d e h = cc
by_subtag false false false true e h = cc
by_subtag false false false false true h = cc
by_subtag false false false false false h = cc

-- if the five tests of `told_by` tell Tag, the third holds
pub by_tag : (a b c d e : Bool) → told_by a b c d e ≡ told.Tag → c ≡ true
by_tag true b c d e h = cc
by_tag false true c d e h = cc
by_tag false false true d e h = refl
by_tag false false false true e h = cc
by_tag false false false false true h = cc
by_tag false false false false false h = cc

-- if the five tests of `told_by` tell Preferred-Value, the fourth holds
pub by_value : (a b c d e : Bool) → told_by a b c d e ≡ told.PreferredValue → d ≡ true
by_value true b c d e h = cc
by_value false true c d e h = cc
by_value false false true d e h = cc
by_value false false false true e h = refl
by_value false false false false true h = cc
by_value false false false false false h = cc

-- if the five tests of `told_by` tell File-Date, the fifth holds
pub by_date : (a b c d e : Bool) → told_by a b c d e ≡ told.FileDate → e ≡ true
by_date true b c d e h = cc
by_date false true c d e h = cc
by_date false false true d e h = cc
by_date false false false true e h = cc
by_date false false false false true h = refl
by_date false false false false false h = cc

-- if the five tests of `told_by` tell Other, none of them holds
pub by_none : (a b c d e : Bool) → told_by a b c d e ≡ told.Other → (a ≡ false) × (b ≡ false) × (c ≡ false) × (d ≡ false) × (e ≡ false)
by_none true b c d e h = cc
by_none false true c d e h = cc
by_none false false true d e h = cc
by_none false false false true e h = cc
by_none false false false false true h = cc
by_none false false false false false h = (refl, refl, refl, refl, refl)

-- One field more.

-- to map the first of two options that has a value is to map both, and then take the first that has one
map_or : {A B : Type 0} (g : A → B) (o p : Option A) → option_map g (option_or o p) ≡ option_or (option_map g o) (option_map g p)
map_or g None p = refl
map_or g (Some a) p = refl

-- the first of an option and None that has a value is the option
or_none : {A : Type 0} (o : Option A) → option_or o None ≡ o
or_none None = refl
or_none (Some a) = refl

-- the first of two options that has a value is there, if the second has one
or_some : {A : Type 0} (o : Option A) (a : A) → is_some (option_or o (Some a)) ≡ true
or_some None a = refl
or_some (Some b) a = refl

-- mapping an option doesn't change whether it has a value
map_some : {A B : Type 0} (g : A → B) (o : Option A) → is_some (option_map g o) ≡ is_some o
map_some g None = refl
map_some g (Some a) = refl

-- the first element of a list that passes the test `p`, and its place
module _ {A : Type 0} (p : A → Bool) where
  -- with an element `y` more, the place of the first that passes is the one in `xs`, or else that of `y` if it passes;
  -- `i` is the place of the first of `xs`
  place_next : (i : ℕ) (xs : List A) (y : A)
      → position_from p i (xs ++ y ∷ []) ≡ option_or (position_from p i xs) (cond (p y) (Some (i + length xs)) None)
  place_next i [] y = let same : i ≡ i + 0 = omega arith in ap (λ n. cond (p y) (Some n) None) same
  place_next i (x ∷ xs) y = by (p x) (place_next (i + 1) xs y)
    where
      same : i + 1 + length xs ≡ i + length (x ∷ xs)
      same = omega arith

      by : (b : Bool) → position_from p (i + 1) (xs ++ y ∷ [])
          ≡ option_or (position_from p (i + 1) xs) (cond (p y) (Some (i + 1 + length xs)) None)
          → cond b (Some i) (position_from p (i + 1) (xs ++ y ∷ []))
          ≡ option_or (cond b (Some i) (position_from p (i + 1) xs)) (cond (p y) (Some (i + length (x ∷ xs))) None)
      by true rest = refl
      by false rest = rest ∙ ap (λ n. option_or (position_from p (i + 1) xs) (cond (p y) (Some n) None)) same

  -- one more element that fails doesn't change the place of the first that passes
  pub place_same : (xs : List A) (y : A) → p y ≡ false → position_from p 0 xs ≡ position_from p 0 (xs ++ y ∷ [])
  place_same xs y h = sym (place_next 0 xs y
      ∙ ap (λ b. option_or (position_from p 0 xs) (cond b (Some (0 + length xs)) None)) h
      ∙ or_none (position_from p 0 xs))

  -- with an element more that passes, at the place `n`, the place of the first that passes is the one in `xs`, or else
  -- `n`
  pub place_more : (xs : List A) (y : A) (n : ℕ) → length xs ≡ n → p y ≡ true
      → option_or (position_from p 0 xs) (Some n) ≡ position_from p 0 (xs ++ y ∷ [])
  place_more xs y n l h =
      let at : n ≡ 0 + length xs = omega (arith, l) in
      sym (place_next 0 xs y ∙ ap (λ b. option_or (position_from p 0 xs) (cond b (Some (0 + length xs)) None)) h
      ∙ ap (λ z. option_or (position_from p 0 xs) (Some z)) (sym at))

  -- at the place of the first that passes is the element that `find` gives; `i` is the place of the first of `xs`
  there : (i : ℕ) (xs : List A) (k : ℕ) → position_from p i xs ≡ Some k → (i ≤ k) × (find p xs ≡ slice_get xs (k - i))
  there i [] k h = cc
  there i (x ∷ xs) k h = by (p x) (there (i + 1) xs k) h
    where
      by : (b : Bool) → (position_from p (i + 1) xs ≡ Some k → (i + 1 ≤ k) × (find p xs ≡ slice_get xs (k - (i + 1))))
          → cond b (Some i) (position_from p (i + 1) xs) ≡ Some k → (i ≤ k)
          × (cond b (Some x) (find p xs) ≡ slice_get (x ∷ xs) (k - i))
      by true later h =
          let same : i ≡ k = cc h in
          let none : 0 ≡ k - i = omega (arith, same) in
          (omega (arith, same), ap (slice_get (x ∷ xs)) none)
      by false later h =
          let rest = later h in
          let next : suc (k - (i + 1)) ≡ k - i = omega (arith, rest.0) in
          (omega (arith, rest.0), rest.1 ∙ ap (slice_get (x ∷ xs)) next)

  -- if no place is found, no element is
  nowhere : (i : ℕ) (xs : List A) → position_from p i xs ≡ None → find p xs ≡ None
  nowhere i [] h = refl
  nowhere i (x ∷ xs) h = by (p x) (nowhere (i + 1) xs) h
    where
      by : (b : Bool) → (position_from p (i + 1) xs ≡ None → find p xs ≡ None)
          → cond b (Some i) (position_from p (i + 1) xs) ≡ None → cond b (Some x) (find p xs) ≡ None
      by true later h = cc
      by false later h = later h

  -- a place is found exactly if an element is
  some_place : (i : ℕ) (xs : List A) → is_some (position_from p i xs) ≡ is_some (find p xs)
  some_place i [] = refl
  some_place i (x ∷ xs) = by (p x) (some_place (i + 1) xs)
    where
      by : (b : Bool) → is_some (position_from p (i + 1) xs) ≡ is_some (find p xs)
          → is_some (cond b (Some i) (position_from p (i + 1) xs)) ≡ is_some (cond b (Some x) (find p xs))
      by true rest = refl
      by false rest = rest

  -- a place is found exactly if the count of the elements that pass is not 0
  some_counted : (i : ℕ) (xs : List A) → is_some (position_from p i xs) ≡ nat_lt 0 (count_by p xs)
  some_counted i [] = refl
  some_counted i (x ∷ xs) = by (p x) (some_counted (i + 1) xs) ∙ ap (nat_lt 0) (sym (sum_by-cons (λ y. cond (p y) 1 0) x xs))
    where
      by : (b : Bool) → is_some (position_from p (i + 1) xs) ≡ nat_lt 0 (count_by p xs)
          → is_some (cond b (Some i) (position_from p (i + 1) xs)) ≡ nat_lt 0 (cond b 1 0 + count_by p xs)
      by true rest = grind (arith, nat_tests)
      by false rest = rest ∙ ap (nat_lt 0) (omega arith)

  -- an element more is counted if it passes
  counted_next : (xs : List A) (y : A) → count_by p (xs ++ y ∷ []) ≡ count_by p xs + cond (p y) 1 0
  counted_next xs y =
      let g : A → ℕ = λ x. cond (p x) 1 0 in
      omega (arith, sum_by-append g xs (y ∷ []), sum_by-cons g y [])

module _ (name : List ℕ) (r : List Field) where
  -- the body of the field at the first place of a name is the body of the name
  pub body_there : (place : Option ℕ) → IsPlace name r place
      → option_map (λ (f : Field). f.1) (option_and_then (slice_get r) place) ≡ body name r
  body_there None h = ap (option_map (λ (f : Field). f.1)) (sym (nowhere (is_called name) 0 r (sym h)))
  body_there (Some k) h =
      let is = there (is_called name) 0 r k (sym h) in
      let same : k ≡ k - 0 = omega arith in
      ap (option_map (λ (f : Field). f.1)) (ap (slice_get r) same ∙ sym is.1)

  -- a name has a place exactly if it has a body
  pub found_or_none : (place : Option ℕ) → IsPlace name r place → is_some place ≡ is_some (body name r)
  found_or_none place h = ap is_some h ∙ some_place (is_called name) 0 r ∙ sym (map_some (λ (f : Field). f.1) (find (is_called name) r))

  module _ (f : Field) where
    -- with the field `f` more, the body of a name is the one in `r`, or else that of `f` if it has the name
    body_next : body name (r ++ f ∷ []) ≡ option_or (body name r) (option_map (λ (g : Field). g.1) (cond (is_called name f) (Some f) None))
    body_next =
        ap (option_map (λ (g : Field). g.1)) (find-append (is_called name) r (f ∷ []))
        ∙ map_or (λ (g : Field). g.1) (find (is_called name) r) (cond (is_called name f) (Some f) None)

    -- one more field of another name doesn't change whether the name has a body
    pub some_same : is_called name f ≡ false → is_some (body name (r ++ f ∷ [])) ≡ is_some (body name r)
    some_same h = ap is_some
        (body_next ∙ ap (λ b. option_or (body name r) (option_map (λ (g : Field). g.1) (cond b (Some f) None))) h
        ∙ or_none (body name r))

    -- after one more field of the name, the name has a body
    pub some_more : is_called name f ≡ true → is_some (body name (r ++ f ∷ [])) ≡ true
    some_more h = ap is_some (body_next
        ∙ ap (λ b. option_or (body name r) (option_map (λ (g : Field). g.1) (cond b (Some f) None))) h)
        ∙ or_some (body name r) f.1

    -- one more field of another name doesn't change whether the name is repeated
    pub repeated_same : is_called name f ≡ false → is_repeated name (r ++ f ∷ []) ≡ is_repeated name r
    repeated_same h = ap (nat_lt 1) (counted_next (is_called name) r f ∙ ap (λ b. count_by (is_called name) r + cond b 1 0) h ∙ omega arith)

    -- after one more field of the name, the name is repeated if it was, or if it had a place
    pub repeated_more : (place : Option ℕ) → IsPlace name r place → is_called name f ≡ true
        → is_repeated name (r ++ f ∷ []) ≡ (is_repeated name r || is_some place)
    repeated_more place l h =
        let some : is_some place ≡ nat_lt 0 (count_by (is_called name) r) = ap is_some l ∙ some_counted (is_called name) 0 r in
        let more : count_by (is_called name) (r ++ f ∷ []) ≡ count_by (is_called name) r + 1 =
        counted_next (is_called name) r f ∙ ap (λ b. count_by (is_called name) r + cond b 1 0) h in
        rw (some, more) (grind (arith, nat_tests))
