-- Chains of values, where `f` gives the value of each subtag: a walk along a chain (`chase`) stays at the end of the
-- chain, and a chain has only one end. If each subtag passes a property on to its value, the end of a chain has the
-- property if the start has it.
use Rattle.std.proofs.Common.{◌≡◌, ℕ, zero, suc, ◌≤◌, ◌+◌, ◌-◌, inl, inr, List, Option, Some, None, refl, sym, ap, ◌∙◌, subst, arith}
use Rattle.std.proofs.lemmas.Bool.{cases_lt}
use Rattle.lt_rewrite.specs.CoreSteps.{chase, Ends, EndsIn}

-- if no value follows `s`, a walk from `s` stays there
pub chase_rests : (f : List ℕ → Option (List ℕ)) (n : ℕ) (s : List ℕ) → f s ≡ None → chase f n s ≡ s
chase_rests f zero s h = refl
chase_rests f (suc n) s h = rw (h, chase)

-- a walk whose first value is `t` goes on from `t`
pub chase_next : (f : List ℕ → Option (List ℕ)) (n : ℕ) (s t : List ℕ) → f s ≡ Some t → chase f (suc n) s ≡ chase f n t
chase_next f n s t h = rw (h, chase)

-- `P` holds if it follows in both cases, that `o` is None and that `o` is Some
pub by_next : {A P : Type 0} (o : Option A) → (o ≡ None → P) → ((a : A) → o ≡ Some a → P) → P
by_next None none some = none refl
by_next (Some a) none some = some a refl

-- a walk of `m` + `n` values from `s` is one of `m` values from where a walk of `n` values leads
pub chase_plus : (f : List ℕ → Option (List ℕ)) (m n : ℕ) (s : List ℕ) → chase f (m + n) s ≡ chase f m (chase f n s)
chase_plus f m zero s = let none : m + 0 ≡ m = omega arith in ap (λ k. chase f k s) none
chase_plus f m (suc n) s =
    let one : m + suc n ≡ suc (m + n) = omega arith in
    ap (λ k. chase f k s) one
    ∙ by_next (f s) (λ e. rw (e, chase) (sym (chase_rests f m s e))) (λ t e. rw (e, chase) (chase_plus f m n t))

-- if a chain has ended after `n` values, a longer walk of `m` values leads to the same subtag
pub chase_past : (f : List ℕ → Option (List ℕ)) (n m : ℕ) (s : List ℕ) → n ≤ m → f (chase f n s) ≡ None → chase f m s ≡ chase f n s
chase_past f n m s le e =
    ap (λ k. chase f k s) (omega arith) ∙ chase_plus f (m - n) n s ∙ chase_rests f (m - n) (chase f n s) e

-- a chain has one end: if it has ended after `n` values and after `m`, both walks lead to the same subtag
pub same_end : (f : List ℕ → Option (List ℕ)) (n m : ℕ) (s : List ℕ) → f (chase f n s) ≡ None → f (chase f m s) ≡ None
    → chase f n s ≡ chase f m s
same_end f n m s p q = elim (cases_lt n m) [ inl l ↦ sym (chase_past f n m s (omega arith) p) | inr l ↦ chase_past f m n s l q ]

-- the chain from `s` ends, if the chain from the value `t` of `s` does, or `s` has no value
pub ends_first : (f : List ℕ → Option (List ℕ)) (s : List ℕ) → ((t : List ℕ) → f s ≡ Some t → Ends f t) → Ends f s
ends_first f s h = by_next (f s) (λ e. (0, e)) (λ t e. let later = h t e in (suc later.0, ap f (chase_next f later.0 s t e) ∙ later.1))

-- `g` gives the end of each chain, where `f` gives the next value of each subtag
pub record IsEnd (f : List ℕ → Option (List ℕ)) (g : List ℕ → List ℕ) : Type 0 where
  pub ends : (s : List ℕ) → EndsIn f s (g s)

-- a subtag without a next value is the end of its chain
pub end_same : {f : List ℕ → Option (List ℕ)} {g : List ℕ → List ℕ} → IsEnd f g → (s : List ℕ) → f s ≡ None → g s ≡ s
end_same {f} {g} E s h = sym (E.ends s).1 ∙ chase_rests f (E.ends s).0 s h

-- a subtag and the value that follows it have one end
pub end_next : {f : List ℕ → Option (List ℕ)} {g : List ℕ → List ℕ} → IsEnd f g → (s t : List ℕ) → f s ≡ Some t → g s ≡ g t
end_next {f} {g} E s t h =
    let a = (E.ends s).1 in
    let b = chase_next f (E.ends t).0 s t h ∙ (E.ends t).1 in
    sym a ∙ same_end f (E.ends s).0 (suc (E.ends t).0) s (ap f a ∙ (E.ends s).2) (ap f b ∙ (E.ends t).2) ∙ b

-- if `P` of a subtag gives `P` of its value, `P` of the start `s` of a chain gives `P` of each subtag of the chain
pub chase_keeps : (f : List ℕ → Option (List ℕ)) (P : List ℕ → Type 0) → ((s t : List ℕ) → f s ≡ Some t → P s → P t)
    → (n : ℕ) (s : List ℕ) → P s → P (chase f n s)
chase_keeps f P keeps zero s p = p
chase_keeps f P keeps (suc n) s p =
    by_next (f s) (λ e. subst P (sym (chase_rests f (suc n) s e)) p)
    (λ t e. subst P (sym (chase_next f n s t e)) (chase_keeps f P keeps n t (keeps s t e p)))

-- if `P` of a subtag gives `P` of its value, `P` of the start `s` of a chain gives `P` of its end
pub end_keeps : {f : List ℕ → Option (List ℕ)} {g : List ℕ → List ℕ} → IsEnd f g → (P : List ℕ → Type 0)
    → ((s t : List ℕ) → f s ≡ Some t → P s → P t) → (s : List ℕ) → P s → P (g s)
end_keeps {f} {g} E P keeps s p = subst P (E.ends s).1 (chase_keeps f P keeps (E.ends s).0 s p)
