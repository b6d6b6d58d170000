-- What the passes of the check need: since numbers rise, the first record that fails a condition has the lowest number
-- of those that fail it.
use Rattle.std.proofs.Common.{◌≡◌, ℕ, zero, suc, ◌+◌, ◌<◌, ◌≤◌, ◌⊎◌, All, inl, inr, Option, Some, None, List, [], ◌∷◌}
use Rattle.std.proofs.Common.{length, refl, sym, ap, ◌∙◌, subst, arith}
use Rattle.std.specs.Prelude.{Contains, slice_index_or}
use Rattle.std.specs.Option.{option_or}
use Rattle.std.proofs.Math.Nat.{eq-or-lt_of_le}
use Rattle.std.proofs.lemmas.Bool.{cases_lt}
use Rattle.std.proofs.lemmas.List.{get_or_default}
use Rattle.std.proofs.lemmas.List.Elements.{All-from_recursion}
use Rattle.lt_registry.specs.Parts.{EntryParts}
use Rattle.lt_registry.specs.Entries.{NumbersRise}
use Rattle.lt_check.specs.Conditions.{Meets}
use Rattle.lt_check.specs.Checking.{IsFirstAtFault, IsLowestFault}
use Rattle.lt_check.specs.declared.conditions.Condition.{Condition}
use Rattle.lt_check.specs.declared.rejections.Finding.{Finding}

-- of two indexes the higher has the record with the higher number; `d` and `c` stand for an index past the end
pub rising_at : (R : List EntryParts) → NumbersRise R → (i k : ℕ) (d c : EntryParts) → i < k → k < length R
    → (slice_index_or R i d).number < (slice_index_or R k c).number
rising_at [] h i k d c n m = absurd (omega (arith, m))
rising_at (e ∷ es) h i zero d c n m = absurd (omega (arith, n))
rising_at (e ∷ es) h zero (suc k) d c n m = All-from_recursion (λ (f : EntryParts). e.number < f.number) es h.0 k c (omega (arith, m))
rising_at (e ∷ es) h (suc i) (suc k) d c n m = rising_at es h.1 i k d c (omega (arith, n)) (omega (arith, m))

-- a number is below another, or it is not
pub below_or_not : (k i : ℕ) → (k < i) ⊎ (i ≤ k)
below_or_not = cases_lt

-- a record that is no earlier has no lower number
pub ordered_at : (R : List EntryParts) → NumbersRise R → (i k : ℕ) (d c : EntryParts) → i ≤ k → k < length R
    → (slice_index_or R i d).number ≤ (slice_index_or R k c).number
ordered_at R h i k d c n m = elim (eq-or-lt_of_le n) [
  | inl e ↦ (let a = get_or_default R k d c m in grind arith)
  | inr l ↦ omega (arith, rising_at R h i k d c l m)
]

-- `e` is the record at index `i`
pub record IsAt (R : List EntryParts) (i : ℕ) (e : EntryParts) : Type 0 where
  pub within : i < length R
  pub there : slice_index_or R i e ≡ e

-- the record at an index is one of the registry
pub contains_at : (R : List EntryParts) (i : ℕ) (e : EntryParts) → IsAt R i e → Contains R e
contains_at R i e a = (i, a.within, a.there)

-- a record of a lower number is at a lower index
pub lower_before : (R : List EntryParts) → NumbersRise R → (i k : ℕ) (e f : EntryParts) → IsAt R i e → IsAt R k f
    → f.number < e.number → k < i
lower_before R h i k e f a b n = elim (below_or_not k i) [ inl l ↦ l | inr m ↦ (let o = ordered_at R h i k e f m b.within in grind arith) ]

-- a record at a lower index has a lower number
pub before_lower : (R : List EntryParts) → NumbersRise R → (i k : ℕ) (e f : EntryParts) → IsAt R i e → IsAt R k f
    → k < i → f.number < e.number
before_lower R h i k e f a b n = let o = rising_at R h k i f e n a.within in grind arith

-- each record before index `i` meets a condition
abbrev pub AllBefore : List EntryParts → Condition → ℕ → Type 0
AllBefore R condition i = (k : ℕ) (d : EntryParts) → k < i → Meets condition R (slice_index_or R k d)

-- the item that a loop over the entries has at index `i` is the record at this index
pub item_at : (xs R : List EntryParts) (i : ℕ) (e : EntryParts) → xs ≡ R → i < length xs → e ≡ slice_index_or xs i e → IsAt R i e
item_at xs R i e same n is = subst (λ ys. IsAt ys i e) same (record { within = n; there = sym is })

-- where each record before index `i` meets a condition, and the one there does, each before the next index does
pub before_more : (R : List EntryParts) (condition : Condition) (i : ℕ) (e : EntryParts) → IsAt R i e
    → AllBefore R condition i → Meets condition R e → AllBefore R condition (i + 1)
before_more R condition i e a before meets k d n = elim (below_or_not k i) [
  | inl l ↦ before k d l
  | inr m ↦ (let s : i ≡ k = omega (arith, n, m) in
      subst (Meets condition R) (sym a.there ∙ get_or_default R i e d a.within ∙ ap (λ j. slice_index_or R j d) s)
      meets)
]

-- where each record before the end meets a condition, all records do
pub all_met : (xs R : List EntryParts) (condition : Condition) (i : ℕ) → xs ≡ R → length xs ≤ i
    → AllBefore R condition i → All (Meets condition R) R
all_met xs R condition i same n before k d m = let l : length xs ≡ length R = ap length same in before k d (omega (arith, n, m, l))

-- where each record before the index `i` meets the condition and the record `e` there does not, `e` is the lowest at
-- fault
pub found_fault : (R : List EntryParts) → NumbersRise R → (condition : Condition) (i : ℕ) (e : EntryParts) (number : ℕ)
    → IsAt R i e → number ≡ e.number → AllBefore R condition i → (Meets condition R e → ⊥)
    → IsLowestFault R condition (Some (record { condition = condition; number = number }))
found_fault R h condition i e number a same before fails = (
  refl,
  record {
    fault = record { entry = e; there = contains_at R i e a; numbered = sym same; fails = fails };
    first = λ other f. elim (below_or_not f.there.0 i) [
      | inl l ↦ absurd (f.fails (subst (Meets condition R) f.there.2 (before f.there.0 f.entry l)))
      | inr m ↦ (let o = ordered_at R h i f.there.0 e f.entry m f.there.1 in let x = a.there in let y = f.there.2 in
          let z = f.numbered in grind arith)
    ];
  },
)

-- what a loop has found before index `i`: each record meets a condition, or this is the lowest at fault
abbrev pub IsSoFar : List EntryParts → Condition → ℕ → Option Finding → Type 0
IsSoFar R condition i None = AllBefore R condition i
IsSoFar R condition i (Some finding) = (finding.condition ≡ condition) × IsFirstAtFault R condition finding.number

-- a record that meets the condition changes nothing of what a loop has found
pub so_far_met : (R : List EntryParts) (condition : Condition) (i : ℕ) (e : EntryParts) → IsAt R i e
    → (o : Option Finding) → IsSoFar R condition i o → Meets condition R e → IsSoFar R condition (i + 1) o
so_far_met R condition i e a None s m = before_more R condition i e a s m
so_far_met R condition i e a (Some f) s m = s

-- a record that does not meet the condition is what a loop has found, unless it found one before
pub so_far_fault : (R : List EntryParts) → NumbersRise R → (condition : Condition) (i : ℕ) (e : EntryParts) (number : ℕ)
    → IsAt R i e → number ≡ e.number → (o : Option Finding) → IsSoFar R condition i o → (Meets condition R e → ⊥)
    → IsSoFar R condition (i + 1) (option_or o (Some (record { condition = condition; number = number })))
so_far_fault R h condition i e number a n None s fails = found_fault R h condition i e number a n s fails
so_far_fault R h condition i e number a n (Some f) s fails = s

-- what a loop has found at the end of the entries is the lowest fault of the registry
pub so_far_all : (xs R : List EntryParts) (condition : Condition) (i : ℕ) → xs ≡ R → length xs ≤ i
    → (o : Option Finding) → IsSoFar R condition i o → IsLowestFault R condition o
so_far_all xs R condition i same n None s = all_met xs R condition i same n s
so_far_all xs R condition i same n (Some f) s = s

-- records with one number are one record
pub one_numbered : (R : List EntryParts) → NumbersRise R → (e f : EntryParts) → Contains R e → Contains R f → e.number ≡ f.number → e ≡ f
one_numbered R rising e f a b h =
    let low = before_lower R rising a.0 b.0 e f (record { within = a.1; there = a.2 }) (record { within = b.1; there = b.2 }) in
    let high = before_lower R rising b.0 a.0 f e (record { within = b.1; there = b.2 }) (record { within = a.1; there = a.2 }) in
    let same : a.0 ≡ b.0 = grind (arith, low, high, h) in
    sym a.2 ∙ get_or_default R a.0 e f a.1 ∙ ap (λ i. slice_index_or R i f) same ∙ b.2
