-- Steps of any kind that lead to one normal form, which a function `form` gives of each value (`IsFormOf`), and what
-- any number of steps keep if each step keeps it. The word `many` stands here for any number of steps (`Star`).
use Rattle.std.proofs.Common.{◌≡◌, ℕ, ◌≤◌, ◌⊎◌, inl, inr, refl, sym, ◌∙◌, arith}
use Rattle.lt_rewrite.specs.Rewriting.{Star, done, then, Rests, IsNormalForm}
use Rattle.lt_rewrite.proofs.Stars.{star_trans}

-- `form` gives the normal form: each step keeps it, steps reach it, and none leads from it
pub record IsFormOf {A : Type 0} (Step : A → A → Type 0) (form : A → A) : Type 0 where
  pub kept : (a b : A) → Step a b → form a ≡ form b
  pub reached : (a : A) → Star Step a (form a)
  pub rests : (a : A) → Rests Step (form a)

-- `form` gives the normal form, if each step keeps it and it is a normal form of each value
pub formed_by : {A : Type 0} {Step : A → A → Type 0} {form : A → A} → ((a b : A) → Step a b → form a ≡ form b)
    → ((a : A) → IsNormalForm Step a (form a)) → IsFormOf Step form
formed_by k n = record { kept = k; reached = λ a. (n a).reached; rests = λ a. (n a).at_rest }

-- if each step keeps `P`, many steps keep `P`
pub star_keeps : {A : Type 0} {Step : A → A → Type 0} (P : A → Type 0) → ((a b : A) → Step a b → P a → P b) → {a b : A}
    → Star Step a b → P a → P b
star_keeps P h done p = p
star_keeps P h (then {a = a} {b = b} s r) p = star_keeps P h r (h a b s p)

-- if no step leads from `a`, many steps from `a` lead only to `a`
pub star_rests : {A : Type 0} {Step : A → A → Type 0} {a b : A} → Star Step a b → Rests Step a → a ≡ b
star_rests done h = refl
star_rests (then {b = b} s r) h = absurd (h b s)

-- many steps keep the form
pub star_form : {A : Type 0} {Step : A → A → Type 0} {form : A → A} → IsFormOf Step form → {a b : A} → Star Step a b → form a ≡ form b
star_form {form = form} F {a = a} r = star_keeps (λ x. form a ≡ form x) (λ b c s e. e ∙ F.kept b c s) r refl

-- a value from which no step leads is its own form
pub rest_is_form : {A : Type 0} {Step : A → A → Type 0} {form : A → A} → IsFormOf Step form → (a : A) → Rests Step a → form a ≡ a
rest_is_form F a h = sym (star_rests (F.reached a) h)

-- the form of a value is its normal form
pub form_is_normal : {A : Type 0} {Step : A → A → Type 0} {form : A → A} → IsFormOf Step form → (a : A) → IsNormalForm Step a (form a)
form_is_normal F a = record { reached = F.reached a; at_rest = F.rests a }

-- each normal form of a value is its form
pub normal_is_form : {A : Type 0} {Step : A → A → Type 0} {form : A → A} → IsFormOf Step form → (a b : A)
    → IsNormalForm Step a b → form a ≡ b
normal_is_form F a b n = star_form F n.reached ∙ rest_is_form F b n.at_rest

-- the form of a form is itself
pub form_again : {A : Type 0} {Step : A → A → Type 0} {form : A → A} → IsFormOf Step form → (a : A) → form (form a) ≡ form a
form_again {form = form} F a = rest_is_form F (form a) (F.rests a)

-- if `g` makes of each step a step of another kind, it makes many steps of many
pub star_map : {A B : Type 0} {Step : A → A → Type 0} {Other : B → B → Type 0} (g : A → B)
    → ((a b : A) → Step a b → Other (g a) (g b)) → {a b : A} → Star Step a b → Star Other (g a) (g b)
star_map g h done = done
star_map g h (then {a = a} {b = b} s r) = then (h a b s) (star_map g h r)

-- if no step makes the number that `f` gives higher, many steps make it no higher
pub star_no_more : {A : Type 0} {Step : A → A → Type 0} (f : A → ℕ) → ((a b : A) → Step a b → f b ≤ f a) → {a b : A}
    → Star Step a b → f b ≤ f a
star_no_more f h {a = p} r = star_keeps (λ x. f x ≤ f p) (λ a b s l. let m = h a b s in omega (arith, m, l)) r (omega arith)

-- if each step keeps `P`, and `g` makes a step of another kind of each step between values of which `P` holds, it makes
-- many steps of many from such a value
pub star_map_while : {A B : Type 0} {Step : A → A → Type 0} {Other : B → B → Type 0} (P : A → Type 0) (g : A → B)
    → ((a b : A) → Step a b → P a → P b) → ((a b : A) → Step a b → P a → P b → Other (g a) (g b)) → {a b : A}
    → Star Step a b → P a → Star Other (g a) (g b)
star_map_while P g k h done p = done
star_map_while P g k h (then {a = a} {b = b} s r) p = let q = k a b s p in then (h a b s p q) (star_map_while P g k h r q)

-- if `b` and `y` are the normal forms of two parts `a` and `x`, the whole that `make` makes of them is the normal form
-- of the whole, if the steps on the whole are the steps on its parts
pub pair_settles : {A B C : Type 0} {One : A → A → Type 0} {Two : B → B → Type 0} {Step : C → C → Type 0} (make : A → B
    → C) → ((a b : A) (x : B) → One a b → Step (make a x) (make b x))
    → ((a : A) (x y : B) → Two x y → Step (make a x) (make a y))
    → ((a : A) (x : B) (c : C) → Step (make a x) c → ((b : A) × One a b) ⊎ ((y : B) × Two x y)) → {a b : A} {x y : B}
    → IsNormalForm One a b → IsNormalForm Two x y → IsNormalForm Step (make a x) (make b y)
pair_settles make left right parts {b = b} {x = x} {y = y} n m = record {
  reached = star_trans (star_map (λ a. make a x) (λ c d s. left c d x s) n.reached) (star_map (make b) (right b) m.reached);
  at_rest = λ c s. elim (parts b y c s) [ inl t ↦ n.at_rest t.0 t.1 | inr t ↦ m.at_rest t.0 t.1 ];
}
