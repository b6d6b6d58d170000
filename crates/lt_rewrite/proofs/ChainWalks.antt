-- Lemmas for `chain_end` and `first_cycle`, which walk along a chain of values, value by value. A chain that ends does
-- so within as many values as there are records, since it uses no record twice. The walk of `first_cycle` may also stop
-- at a record that is before its own in an order, since the chain of that record is followed too.
use Rattle.std.proofs.Common.{◌≡◌, ◌≢◌, ℕ, zero, suc, ◌≤◌, ◌<◌, inl, inr, Bool, true, false, cond, eqb, List, [], ◌∷◌}
use Rattle.std.proofs.Common.{Option, Some, None, refl, sym, ap, ◌∙◌, subst, length, slice_get, arith, ◌+◌, Result}
use Rattle.std.proofs.Common.{IfOk, OnErr, not, get_or, All, MatchBool, Bor, is_some, Contains}
use Rattle.std.specs.List.{AllByRecursion, list_any, IsDistinct}
use Rattle.std.proofs.lemmas.Map.Steps.{length-le_from_distinct_below}
use Rattle.std.proofs.lemmas.Bool.{or_cases, eqb-true, ne_eqb}
use Rattle.std.specs.Option.{option_and_then, option_copied}
use Rattle.lt_registry.specs.Parts.{EntryParts}
use Rattle.lt_registry.specs.Entries.{one_of, entry, has_form, IsRegistry, is_short}
use Rattle.lt_registry.specs.declared.entries.Kind.{Kind}
use Rattle.lt_rewrite.specs.CoreSteps.{chase, Ends, EndsIn}
use Rattle.lt_rewrite.specs.Conditions.{next_value, HasEndingChain}
use Rattle.lt_rewrite.proofs.Chains.{chase_next, chase_keeps, chase_plus, chase_past, by_next, ends_first}
use Rattle.lt_rewrite.proofs.Entries.{ValuedEntry, valued, next_is_value, entry_has}
use Rattle.lt_rewrite.specs.ChainEnds.{ChainEnds, ChainEndsIn, following}
use Rattle.lt_rewrite.specs.declared.chain_ends.Cycle.{Cycle}
use Rattle.lt_rewrite.proofs.Forms.{value_form, variant_value_form}
use Rattle.std.proofs.lemmas.List.Elements.{All-contains_itself}
use Rattle.lt_rewrite.specs.Cycles.{place, EarlierEnd, EndsAfterEarlier}
use Rattle.lt_rewrite.specs.declared.cycles.Order.{Order}
use Rattle.std.proofs.lemmas.Option.{slice_get_within, slice_get-get_or, same_Some}
use Rattle.lt_registry.specs.declared.entries.Kind.TheVariants as kinds
use Rattle.lt_rewrite.specs.declared.cycles.Order.TheVariants as orders

-- A chain that ends takes at most as many values as there are records.

-- the entry of a subtag is one of the entries
pub entry_there : (R : List EntryParts) (k : Kind) (s : List ℕ) (e : EntryParts) → entry R k s ≡ Some e → Contains R e
entry_there R k s e h = (entry_has R k s (Contains R) (All-contains_itself R) e h).0

-- `Some` of entries as a function, which lemmas can be given
abbrev pub some : EntryParts → Option EntryParts
some e = Some e

-- the record `entry` of `R`, at the index `at`, has the subtag `v` as its preferred value
record Rule (R : List EntryParts) (v : List ℕ) : Type 0 where
  at : ℕ
  entry : EntryParts
  there : slice_get R at ≡ Some entry
  gives : one_of entry.value ≡ Some v

-- a value that follows in a chain is given by a record
rule : (R : List EntryParts) (k : Kind) (s v : List ℕ) → next_value R k s ≡ Some v → Rule R v
rule R k s v e =
    let en : ValuedEntry R k s v = valued R k s v (next_is_value R k s v e) in
    let c = entry_there R k s en.at en.found in
    record { at = c.0; entry = en.at; there = slice_get-get_or R c.0 en.at c.1 ∙ ap some c.2; gives = en.gives }

-- two values that the record at one index gives are equal
one_value : (R : List EntryParts) (v w : List ℕ) (a : Rule R v) (b : Rule R w) → a.at ≡ b.at → v ≡ w
one_value R v w a b e =
    let same : a.entry ≡ b.entry = same_Some a.entry b.entry (sym a.there ∙ ap (slice_get R) e ∙ b.there) in
    same_Some v w (sym a.gives ∙ ap (λ (x : EntryParts). one_of x.value) same ∙ b.gives)

-- exactly `n` values follow `s` on its chain, where `f` gives the next value of each
abbrev pub Takes : (List ℕ → Option (List ℕ)) → ℕ → List ℕ → Type 0
Takes f zero s = f s ≡ None
Takes f (suc n) s = (t : List ℕ) × (f s ≡ Some t) × Takes f n t

-- the number of values that follow `s` on its chain is unique
pub takes_unique : (f : List ℕ → Option (List ℕ)) (n m : ℕ) (s : List ℕ) → Takes f n s → Takes f m s → n ≡ m
takes_unique f zero zero s a b = refl
takes_unique f zero (suc m) s a b = let c = b.1 in cc
takes_unique f (suc n) zero s a b = let c = a.1 in cc
takes_unique f (suc n) (suc m) s a b =
    let same : a.0 ≡ b.0 = let x = a.1 in let y = b.1 in cc in
    ap suc (takes_unique f n m b.0 (subst (Takes f n) same a.2) b.2)

-- on a chain that has ended after `n` values, exactly some number `m` of values follow `s`
takes : (f : List ℕ → Option (List ℕ)) (n : ℕ) (s : List ℕ) → f (chase f n s) ≡ None → (m : ℕ) × Takes f m s
takes f zero s h = (0, h)
takes f (suc n) s h =
    by_next (f s) (λ e. (0, e)) (λ t e. let r = takes f n t (ap f (sym (chase_next f n s t e)) ∙ h) in (suc r.0, (t, e, r.1)))

-- if exactly `n` values follow `s`, the chain has ended after `n` values
takes_ends : (f : List ℕ → Option (List ℕ)) (n : ℕ) (s : List ℕ) → Takes f n s → f (chase f n s) ≡ None
takes_ends f zero s a = a
takes_ends f (suc n) s a = ap f (chase_next f n s a.0 a.1) ∙ takes_ends f n a.0 a.2

module _ (R : List EntryParts) (k : Kind) where
  -- the value that follows a subtag on the chain of its kind
  abbrev pub next : List ℕ → Option (List ℕ)
  next = next_value R k

  -- the index of the record that gives the value `t` after `s`
  abbrev key : (s t : List ℕ) → next s ≡ Some t → ℕ
  key s t e = (rule R k s t e).at

  -- the indices of the records that give the `n` values after `s`
  abbrev keys : (n : ℕ) (s : List ℕ) → Takes next n s → List ℕ
  keys zero s a = []
  keys (suc n) s a = key s a.0 a.1 ∷ keys n a.0 a.2

  -- `keys` has one index for each of the `n` values after `s`
  keys_length : (n : ℕ) (s : List ℕ) (a : Takes next n s) → length (keys n s a) ≡ n
  keys_length zero s a = refl
  keys_length (suc n) s a = ap suc (keys_length n a.0 a.2)

  -- each index in `keys` is one in the registry
  keys_below : (n : ℕ) (s : List ℕ) (a : Takes next n s) (q : ℕ) → list_any (eqb q) (keys n s a) ≡ true → q < length R
  keys_below zero s a q h = cc
  keys_below (suc n) s a q h =
      let r : Rule R a.0 = rule R k s a.0 a.1 in
      elim (or_cases (eqb q r.at) (list_any (eqb q) (keys n a.0 a.2)) h) [
        | inl e ↦ omega (arith, eqb-true q r.at e, slice_get_within R r.at r.entry r.there)
        | inr e ↦ keys_below n a.0 a.2 q e
      ]

  -- the record that gives the first of the `n` + 1 values after `s` gives none of the values after `t`, if at most `n`
  -- values follow `t`
  keys_differ : (n : ℕ) (s : List ℕ) (a : Takes next (suc n) s) (m : ℕ) (t : List ℕ) (b : Takes next m t) → m ≤ n
      → AllByRecursion (λ y. eqb (key s a.0 a.1) y ≡ false) (keys m t b)
  keys_differ n s a zero t b h = tt
  keys_differ n s a (suc m) t b h =
      let ne : key s a.0 a.1 ≢ key t b.0 b.1 = λ e.
      let same = one_value R a.0 b.0 (rule R k s a.0 a.1) (rule R k t b.0 b.1) e in
      let k : n ≡ m = takes_unique next n m b.0 (subst (Takes next n) same a.2) b.2 in
      omega arith in
      (ne_eqb (key s a.0 a.1) (key t b.0 b.1) ne, keys_differ n s a m b.0 b.2 (omega arith))

  -- no record gives two of the `n` values after `s`, if exactly `n` values follow `s`
  keys_distinct : (n : ℕ) (s : List ℕ) (a : Takes next n s) → IsDistinct eqb (keys n s a)
  unfolding IsDistinct
  keys_distinct zero s a = tt
  keys_distinct (suc n) s a = (keys_differ n s a n a.0 a.2 (omega arith), keys_distinct n a.0 a.2)

  -- if the chain from `s` ends, exactly some number of values follow `s`, at most as many as there are records
  pub takes_within : (s : List ℕ) → Ends next s → (n : ℕ) × (n ≤ length R) × Takes next n s
  takes_within s h =
      let r = takes next h.0 s h.1 in (
        r.0,
        omega (
          arith,
          keys_length r.0 s r.1,
          length-le_from_distinct_below (keys r.0 s r.1) (length R)
              (keys_distinct r.0 s r.1) (keys_below r.0 s r.1),
        ),
        r.1,
      )

-- a chain that ends has ended after as many values as there are records
pub chain_ends_within : (R : List EntryParts) (k : Kind) (s : List ℕ) → Ends (next_value R k) s
    → next_value R k (chase (next_value R k) (length R) s) ≡ None
chain_ends_within R k s h =
    let f : List ℕ → Option (List ℕ) = next_value R k in
    let t = takes_within R k s h in
    let end : f (chase f t.0 s) ≡ None = takes_ends f t.0 s t.2 in
    ap f (chase_past f t.0 (length R) s t.1 end) ∙ end

-- if a walk of `n` values from `s` leads to `u`, and `t` follows `u`, a walk of `n` + 1 values leads to `t`
pub chase_more : (f : List ℕ → Option (List ℕ)) (n : ℕ) (s u t : List ℕ) → u ≡ chase f n s → f u ≡ Some t → t ≡ chase f (n + 1) s
chase_more f n s u t e h =
    sym (ap (λ k. chase f k s) (omega arith) ∙ chase_plus f 1 n s ∙ ap (chase f 1) (sym e) ∙ chase_next f 0 u t h)

-- if a walk of `n` values from `s` leads to `d`, and no value follows `d`, the chain from `s` ends in `d`
pub walk_ends : (f : List ℕ → Option (List ℕ)) (n : ℕ) (s d : List ℕ) → d ≡ chase f n s → f d ≡ None → EndsIn f s d
walk_ends f n s d e h = (n, sym e, h)

-- if a value follows even after as many values as there are records, the chain has no end
pub walk_cycles : (R : List EntryParts) (k : Kind) (s d t : List ℕ) → d ≡ chase (next_value R k) (length R) s
    → next_value R k d ≡ Some t → Ends (next_value R k) s → ⊥
walk_cycles R k s d t e h ends =
    let a : next_value R k d ≡ None = ap (next_value R k) e ∙ chain_ends_within R k s ends in cc

-- a value that follows in a chain has the form of its kind
pub next_form : (R : List EntryParts) → IsRegistry R → (k : Kind) (s t : List ℕ) → next_value R k s ≡ Some t → has_form k t ≡ true
next_form R G kinds.Language s t e = value_form R G kinds.Language s t e
next_form R G kinds.Script s t e = value_form R G kinds.Script s t e
next_form R G kinds.Region s t e = value_form R G kinds.Region s t e
next_form R G kinds.Variant s t e = variant_value_form R G s t e
next_form u v w s t e = cc

-- each value of a chain has the form of its kind, if the start has it
pub walk_form : (R : List EntryParts) → IsRegistry R → (k : Kind) (n : ℕ) (s t : List ℕ)
    → chase (next_value R k) n s ≡ t → has_form k s ≡ true → has_form k t ≡ true
walk_form R G k n s t e h =
    subst (λ x. has_form k x ≡ true) e (chase_keeps (next_value R k) (λ x. has_form k x ≡ true) (λ a b f p. next_form R G k a b f) n s h)

-- the end of a chain has the form of its kind, if the start has it
pub end_form : (R : List EntryParts) → IsRegistry R → (k : Kind) (s d : List ℕ) → EndsIn (next_value R k) s d
    → has_form k s ≡ true → has_form k d ≡ true
end_form R G k s d e h = walk_form R G k e.0 s d e.1 h

-- unless the kind is Extlang, a result `r` that is the end of the kind's own chain is the end that `ChainEndsIn` asks
-- for
pub own_end : (R : List EntryParts) (k : Kind) (s : List ℕ) → (k ≡ kinds.Extlang → ⊥) → (r : Result (List ℕ) Cycle)
    → IfOk r (EndsIn (next_value R k) s) → IfOk r (ChainEndsIn R k s)
own_end R kinds.Extlang s n r h = absurd (n refl)
own_end t u s n r h = h

-- unless the kind is Extlang, a result `r` that refuses the kind's own chain since it has no end is right by
-- `ChainEnds`
pub own_cycle : (R : List EntryParts) (k : Kind) (s : List ℕ) → (k ≡ kinds.Extlang → ⊥) → (r : Result (List ℕ) Cycle)
    → OnErr r (Ends (next_value R k) s → ⊥) → OnErr r (ChainEnds R k s → ⊥)
own_cycle R kinds.Extlang s n r h = absurd (n refl)
own_cycle t u s n r h = h

-- A walk from a record's value to the end of its chain, or to a record that is before the first one in an order.

-- in a kind without chains no value follows, whether there is an entry `o` or not
nothing_follows : (o : Option EntryParts) → None ≡ option_and_then {U = List ℕ} (λ (e : EntryParts). None) o
nothing_follows None = refl
nothing_follows (Some e) = refl

-- the value that follows a variant with the entry `o` is the entry's value, if that is not short
variant_follows : (o : Option EntryParts)
    → option_and_then (λ w. cond (is_short w) None (Some w)) (option_and_then (λ (e : EntryParts). one_of e.value) o)
    ≡ option_and_then (following kinds.Variant) o
variant_follows None = refl
variant_follows (Some e) = refl

-- the value after `s` on its chain is the one that follows by the entry of `s`
pub next_follows : (R : List EntryParts) (k : Kind) (s : List ℕ) → next_value R k s ≡ option_and_then (following k) (entry R k s)
next_follows R kinds.Extlang s = nothing_follows (entry R kinds.Extlang s)
next_follows R kinds.Variant s = variant_follows (entry R kinds.Variant s)
next_follows R kinds.Grandfathered s = nothing_follows (entry R kinds.Grandfathered s)
next_follows R kinds.Redundant s = nothing_follows (entry R kinds.Redundant s)
next_follows t u s = refl

-- the value after `s` on its chain is the one that follows by its entry `o`
pub next_by : (R : List EntryParts) (k : Kind) (s : List ℕ) (o : Option EntryParts) → o ≡ entry R k s
    → next_value R k s ≡ option_and_then (following k) o
next_by R k s o e = next_follows R k s ∙ ap (option_and_then (following k)) (sym e)

-- `e` is a record of the kind `k` with the value `v`, and a walk of `n` values from `v` leads to `s`
pub record IsWalk (R : List EntryParts) (e : EntryParts) (k : Kind) (v s : List ℕ) (n : ℕ) : Type 0 where
  pub of_kind : k ≡ e.kind
  pub from : one_of e.value ≡ Some v
  pub walked : s ≡ chase (next_value R k) n v

-- if the chain from `s`, to which the walk has come, ends, the record's chain ends
chain_from : (R : List EntryParts) (e : EntryParts) (k : Kind) (v s : List ℕ) (n : ℕ) → IsWalk R e k v s n
    → Ends (next_value R k) s → HasEndingChain R e
chain_from R e k v s n W ends w h =
    let f : List ℕ → Option (List ℕ) = next_value R k in
    let same : v ≡ w = same_Some v w (sym W.from ∙ h) in
    let rest : Ends f (chase f n v) = subst (Ends f) W.walked ends in
    subst (λ (d : Kind). Ends (next_value R d) w) W.of_kind (subst (Ends f) same (rest.0 + n, ap f (chase_plus f rest.0 n v) ∙ rest.1))

-- a walk comes to a subtag without a next value: the record's chain ends
pub ends_there : (R : List EntryParts) (e : EntryParts) (k : Kind) (v s : List ℕ) (n : ℕ) → IsWalk R e k v s n
    → next_value R k s ≡ None → HasEndingChain R e
ends_there R e k v s n W end = chain_from R e k v s n W (0, end)

-- a walk comes to a subtag whose record `met` is before `e` in an order: the chain of `e` ends if the chains of the
-- records before it do
pub ends_after : (R : List EntryParts) (order : Order) (e met : EntryParts) (k : Kind) (v s : List ℕ) (n : ℕ)
    → IsWalk R e k v s n → entry R k s ≡ Some met → place order met.number < place order e.number
    → EndsAfterEarlier R order e
ends_after R order e met k v s n W found below earlier =
    let each = entry_has R k s (λ (f : EntryParts). place order f.number < place order e.number → HasEndingChain R f) earlier met found in
    chain_from R e k v s n W
    (ends_first (next_value R k) s
    (λ t g.
    let gives : one_of met.value ≡ Some t = sym (ap (option_and_then (λ (x : EntryParts). one_of x.value)) found)
    ∙ next_is_value R k s t g in
    subst (λ (d : Kind). Ends (next_value R d) t) each.1.of_kind (each.0 below t gives)))

-- after as many values as there are records, the record's chain ends if no value `next` follows (`none` is true), and
-- else has no end
pub at_limit : (R : List EntryParts) (order : Order) (e : EntryParts) (k : Kind) (v s : List ℕ) (n : ℕ)
    → IsWalk R e k v s n → n ≡ length R → (next : Option (Bor (List ℕ))) → option_copied next ≡ next_value R k s
    → (none : Bool) → is_some next ≡ not none → MatchBool none (EndsAfterEarlier R order e) (HasEndingChain R e → ⊥)
at_limit R order e k v s n W all None h true i = λ earlier. ends_there R e k v s n W (sym h)
at_limit R order e k v s n W all (Some t) h false i =
    λ ends. walk_cycles R k v s t.now (W.walked ∙ ap (λ m. chase (next_value R k) m v) all) (sym h)
    (subst (λ (d : Kind). Ends (next_value R d) v) (sym W.of_kind) (ends v W.from))
at_limit t order e k v s n u all w h x i = cc

-- if each record's chain ends when those of the records before it in an order do, the chains of all records before any
-- place `n` end
earlier_end : (R : List EntryParts) (order : Order) → All (EndsAfterEarlier R order) R → (n : ℕ) → EarlierEnd R order n
earlier_end R order h zero = λ k d i below. absurd (omega (arith, below))
earlier_end R order h (suc n) = λ k d i below. h k d i (λ j c l less. earlier_end R order h n j c l (omega (arith, below, less)))

-- if each record's chain ends when those of the records before it in an order do, every record's chain ends
pub all_end_in_order : (R : List EntryParts) (order : Order) → All (EndsAfterEarlier R order) R → All (HasEndingChain R) R
all_end_in_order R order h = λ k d i. h k d i (earlier_end R order h (place order (get_or R k d).number))

-- if the chains of all records with lower numbers than `e` end, those of all records before `e` in the order of the
-- file do
pub file_order : (R : List EntryParts) (e : EntryParts)
    → All (λ (f : EntryParts). f.number < e.number → HasEndingChain R f) R
    → EarlierEnd R orders.File (place orders.File e.number)
unfolding place
file_order R e h = h
