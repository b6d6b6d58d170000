-- Steps of any kind, where `Step a b` says that a step leads from `a` to `b`: what they reach, where they end, what
-- they make equivalent, and when they are confluent.

-- any number of steps lead from one value to another: none (`done`), or one and then any number (`then`) (RFC 5646,
-- 4.5)
pub data Star {A : Type 0} (Step : A → A → Type 0) : A → A → Type 0 where
  done : {a : A} → Star Step a a
  then : {a b c : A} → Step a b → Star Step b c → Star Step a c

-- no step leads from `a` (RFC 5646, 4.5)
abbrev pub Rests : {A : Type 0} → (A → A → Type 0) → A → Type 0
Rests {A} Step a = (b : A) → Step a b → ⊥

-- steps lead from `a` to `b`, and none leads from `b` (RFC 5646, 4.5)
pub record IsNormalForm {A : Type 0} (Step : A → A → Type 0) (a b : A) : Type 0 where
  pub reached : Star Step a b
  pub at_rest : Rests Step b

-- steps, each taken forwards or backwards, lead from one value to another (RFC 5646, 4.5)
pub data Equivalent {A : Type 0} (Step : A → A → Type 0) : A → A → Type 0 where
  same : {a : A} → Equivalent Step a a
  forth : {a b c : A} → Step a b → Equivalent Step b c → Equivalent Step a c
  back : {a b c : A} → Step b a → Equivalent Step b c → Equivalent Step a c

-- if steps lead from a value of which `P` is true to two values, steps lead from both of them to a common third, so
-- that the order of steps does not matter
abbrev pub IsConfluent : {A : Type 0} → (A → Type 0) → (A → A → Type 0) → Type 0
IsConfluent {A} P Step = (a b c : A) → P a → Star Step a b → Star Step a c → (d : A) × Star Step b d × Star Step c d
