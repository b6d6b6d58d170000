-- A function `end_form` gives *end forms* if each step leads to something of the same end form, and steps reach the end
-- form. Then steps are confluent, and what is equivalent has one end form. TagForm uses this for steps on tags, where
-- `P` says that a tag is proper.
use Rattle.std.proofs.Common.{◌≡◌, refl, sym, ◌∙◌, subst}
use Rattle.lt_rewrite.specs.Rewriting.{Star, done, then, Equivalent, same, forth, back, IsConfluent, Rests}
use Rattle.lt_rewrite.proofs.NormalForms.{star_keeps, star_rests}

-- each step leads to something of which `P` is true and that has the same `end_form`, and from each `a` of which `P` is
-- true steps reach its `end_form`
pub record IsEndForm {A : Type 0} (P : A → Type 0) (Step : A → A → Type 0) (end_form : A → A) : Type 0 where
  pub to : (a b : A) → Step a b → P b
  pub kept : (a b : A) → Step a b → end_form a ≡ end_form b
  pub reached : (a : A) → P a → Star Step a (end_form a)

-- steps that begin where `P` is true end where `P` is true
pub star_proper : {A : Type 0} {P : A → Type 0} {Step : A → A → Type 0} {f : A → A} → IsEndForm P Step f → {a b : A}
    → Star Step a b → P a → P b
star_proper {P = P} F r p = star_keeps P (λ a b s _. F.to a b s) r p

-- what is equivalent has one end form
pub equivalent_end : {A : Type 0} {P : A → Type 0} {Step : A → A → Type 0} {f : A → A} → IsEndForm P Step f → {a b : A}
    → Equivalent Step a b → f a ≡ f b
equivalent_end F same = refl
equivalent_end F (forth {a = a} {b = b} s r) = F.kept a b s ∙ equivalent_end F r
equivalent_end F (back {a = a} {b = b} s r) = sym (F.kept b a s) ∙ equivalent_end F r

-- equivalence, by steps forth and back, is transitive
pub equivalent_trans : {A : Type 0} {Step : A → A → Type 0} {a b c : A} → Equivalent Step a b → Equivalent Step b c → Equivalent Step a c
equivalent_trans same t = t
equivalent_trans (forth s r) t = forth s (equivalent_trans r t)
equivalent_trans (back s r) t = back s (equivalent_trans r t)

-- equivalence, by steps forth and back, is symmetric
pub equivalent_sym : {A : Type 0} {Step : A → A → Type 0} {a b : A} → Equivalent Step a b → Equivalent Step b a
equivalent_sym same = same
equivalent_sym (forth s r) = equivalent_trans (equivalent_sym r) (back s same)
equivalent_sym (back s r) = equivalent_trans (equivalent_sym r) (forth s same)

-- what steps lead to is equivalent to what they lead from
pub star_equivalent : {A : Type 0} {Step : A → A → Type 0} {a b : A} → Star Step a b → Equivalent Step a b
star_equivalent done = same
star_equivalent (then s r) = forth s (star_equivalent r)

-- what steps lead to has the end form of what they lead from
pub star_end : {A : Type 0} {P : A → Type 0} {Step : A → A → Type 0} {f : A → A} → IsEndForm P Step f → {a b : A}
    → Star Step a b → f a ≡ f b
star_end F r = equivalent_end F (star_equivalent r)

-- steps from one `a` of which `P` is true come together again, since all lead to the end of `a`
pub confluent : {A : Type 0} {P : A → Type 0} {Step : A → A → Type 0} {f : A → A} → IsEndForm P Step f → IsConfluent P Step
confluent {A} {P} {Step} {f} F a b c p r t =
    let e : f b ≡ f c = sym (star_end F r) ∙ star_end F t in
    (f b, F.reached b (star_proper F r p), subst (λ x. Star Step c x) (sym e) (F.reached c (star_proper F t p)))

-- what no step leads from is its own end form
pub rest_is_end : {A : Type 0} {P : A → Type 0} {Step : A → A → Type 0} {f : A → A} → IsEndForm P Step f → (a : A) → P a
    → Rests Step a → f a ≡ a
rest_is_end F a p h = sym (star_rests (F.reached a p) h)

-- what steps from `a` lead to, and no step leads from, is the end form of `a`
pub reached_is_end : {A : Type 0} {P : A → Type 0} {Step : A → A → Type 0} {f : A → A} → IsEndForm P Step f → (a b : A)
    → P a → Star Step a b → Rests Step b → f a ≡ b
reached_is_end F a b p r h = star_end F r ∙ rest_is_end F b (star_proper F r p) h

-- what has equal end forms is equivalent
pub end_equivalent : {A : Type 0} {P : A → Type 0} {Step : A → A → Type 0} {f : A → A} → IsEndForm P Step f → (a b : A)
    → P a → P b → f a ≡ f b → Equivalent Step a b
end_equivalent {A} {P} {Step} {f} F a b p q e =
    equivalent_trans (subst (λ x. Equivalent Step a x) e (star_equivalent (F.reached a p)))
    (equivalent_sym (star_equivalent (F.reached b q)))

-- of what is equivalent, at most one is at rest
pub rest_unique : {A : Type 0} {P : A → Type 0} {Step : A → A → Type 0} {f : A → A} → IsEndForm P Step f → (a b : A)
    → P a → P b → Equivalent Step a b → Rests Step a → Rests Step b → a ≡ b
rest_unique F a b p q e h k = sym (rest_is_end F a p h) ∙ equivalent_end F e ∙ rest_is_end F b q k
