-- What `find_fault` needs: the conditions are judged in the order of `IN_ORDER`, and if each is met, the registry
-- passes. A condition is decided *by record* if a look at one record after another decides it.
use Rattle.std.proofs.Common.{◌≡◌, ℕ, zero, suc, ◌≤◌, ◌<◌, ◌+◌, eqb, true, List, Option, Some, None, Result, Ok, Err}
use Rattle.std.proofs.Common.{IfOk, All, ap, inl, inr, refl, sym, subst, ◌∙◌, false, arith, rules}
use Rattle.std.specs.Prelude.{slice_index_or}
use Rattle.std.proofs.lemmas.Bool.{eqb-true, agree_below_at}
use Rattle.std.proofs.lemmas.List.Elements.{All-contains}
use Rattle.lt_registry.specs.Parts.{EntryParts}
use Rattle.lt_registry.specs.Entries.{one_of}
use Rattle.lt_registry.specs.declared.entries.Kind.TheVariants as kinds
use Rattle.lt_check.specs.Conditions.{Meets, rank_of, Passes, IsAtFault, IsFinding}
use Rattle.lt_check.specs.Checking.{is_by_record, next_of, IsBare, IsLowestFault, IsVerdictBelow, MeetsByRecord}
use Rattle.lt_check.specs.WholeChecks.{MeetsBelow}
use Rattle.lt_check.specs.declared.conditions.Condition.{Condition}
use Rattle.lt_check.specs.declared.conditions.Condition.TheVariants as conditions
use Rattle.lt_check.specs.declared.rejections.Finding.{Finding}
use Rattle.lt_check.specs.declared.checking.TheConstants.{IN_ORDER}

-- each condition but C1, C8, C10 and C11 is decided by record
pub by_record : (k : Condition) → (k ≡ conditions.OwnName → ⊥) → (k ≡ conditions.FittingGrandfathered → ⊥)
    → (k ≡ conditions.RestingWhole → ⊥) → (k ≡ conditions.AgreeingWhole → ⊥) → is_by_record k ≡ true
by_record _ a b c d = grind arith

-- the rank below which all conditions are judged, when the first `i` in order are
abbrev pub rank_at : ℕ → ℕ
rank_at zero = 1
rank_at (suc i) = next_of (slice_index_or IN_ORDER i conditions.OwnName)

-- when the first `i` conditions in order are judged, the next one has the rank `rank_at i`
ranked : (i : ℕ) → i < 11 → rank_of (slice_index_or IN_ORDER i conditions.OwnName) ≡ rank_at i
ranked i h = eqb-true _ _
    (agree_below_at (λ i. eqb (rank_of (slice_index_or IN_ORDER i conditions.OwnName)) (rank_at i)) (λ _. true) 11 i
    refl h)

-- when all eleven in order are judged and met, the registry passes the check
pub all_below : (R : List EntryParts) (i : ℕ) → 11 ≤ i → i ≤ 11 → MeetsBelow (rank_at i) R → Passes R
all_below R i m l h =
    let last : i ≡ 11 = omega (arith, m, l) in
    let each : (k : Condition) → All (Meets k R) R = λ k. subst (λ j. MeetsBelow (rank_at j) R) last h k (grind arith) in
    record {
      core_conditions = record {
        names = each conditions.OwnName;
        values = each conditions.RegisteredValue;
        chains = each conditions.EndingChain;
        extlangs = each conditions.FittingExtlang;
        variants = each conditions.FittingVariantValue;
        variant_languages = each conditions.FinalPrefixes;
      };
      langtag_prefixes = each conditions.LangtagPrefixes;
      fitting_grandfathered = each conditions.FittingGrandfathered;
      valid_whole = each conditions.ValidWhole;
      resting_whole = each conditions.RestingWhole;
      agreeing_whole = each conditions.AgreeingWhole;
      no_range_value = each conditions.NoRangeValue;
    }

-- where the conditions with ranks below that of `k` are met, and `k` is too, those with ranks below `n`, the next rank,
-- are met
pub below_more : (R : List EntryParts) (k : Condition) (n : ℕ) → n ≡ rank_of k + 1 → MeetsBelow (rank_of k) R
    → All (Meets k R) R → MeetsBelow n R
below_more R _ n e M a _ l = search (rules, arith)

-- if the conditions before `k` are met, and `r` is the lowest record that fails `k`, if there is one, then `r` is the
-- verdict on all conditions up to `k`; C10 is judged along with C11
pub judged : {E : Type 0} (R : List EntryParts) (k : Condition) → MeetsBelow (rank_of k) R
    → (k ≡ conditions.RestingWhole → ⊥) → (r : Result (Option Finding) E) → IfOk r (IsLowestFault R k)
    → IfOk r (IsVerdictBelow (next_of k) R)
judged R k M n (Err x) a = tt
judged R k M n (Ok None) a = below_more R k (next_of k) (grind arith) M a
judged R k M n (Ok (Some f)) (e, a) =
    subst (λ (x : Condition). IsFinding R x f.number) (sym e) (record { fault = a.fault; lower = M; first = a.first })

-- if all records meet C10 and the conditions before it, and `o` is the lowest record that fails C11, if there is one,
-- then `o` is the verdict on all conditions up to C11
pub judged_whole : (R : List EntryParts) → MeetsBelow 10 R → All (Meets conditions.RestingWhole R) R
    → (o : Option Finding) → IsLowestFault R conditions.AgreeingWhole o → IsVerdictBelow 12 R o
judged_whole R M a o = judged {E = Unit {0}} R conditions.AgreeingWhole (below_more R conditions.RestingWhole 11 refl M a) (λ e. cc) (Ok o)

-- a registry that passes the check meets each condition
meets : (R : List EntryParts) → Passes R → (k : Condition) → All (Meets k R) R
meets R P conditions.OwnName = P.core_conditions.names
meets R P conditions.RegisteredValue = P.core_conditions.values
meets R P conditions.EndingChain = P.core_conditions.chains
meets R P conditions.FittingExtlang = P.core_conditions.extlangs
meets R P conditions.FittingVariantValue = P.core_conditions.variants
meets R P conditions.FinalPrefixes = P.core_conditions.variant_languages
meets R P _ = search rules

-- where a record is at fault, the registry does not pass
pub none_that_passes : (R : List EntryParts) (k : Condition) (n : ℕ) → IsAtFault R k n → Passes R → ⊥
none_that_passes R k n f P = f.fails (All-contains (Meets k R) R f.entry (meets R P k) f.there)

-- a condition that is decided by record is one of C2 to C7, C9 and C12
pub not_by_record : (k : Condition) → is_by_record k ≡ true → (k ≡ conditions.RegisteredValue → ⊥)
    → (k ≡ conditions.EndingChain → ⊥) → (k ≡ conditions.FittingExtlang → ⊥) → (k ≡ conditions.FittingVariantValue → ⊥)
    → (k ≡ conditions.FinalPrefixes → ⊥) → (k ≡ conditions.LangtagPrefixes → ⊥) → (k ≡ conditions.ValidWhole → ⊥)
    → (k ≡ conditions.NoRangeValue → ⊥) → ⊥
not_by_record _ h a z b c d p e f = grind arith

-- where the first `i` conditions in order are judged and met, those with ranks below that of the next are met
pub lower_at : (R : List EntryParts) (i : ℕ) → i < 11 → MeetsBelow (rank_at i) R
    → MeetsBelow (rank_of (slice_index_or IN_ORDER i conditions.OwnName)) R
lower_at R i n h other l = h other (omega (arith, ranked i n, l))

-- a bare record, of a language, script or region without a value, meets each condition that is decided by record
pub bare_meets : (R : List EntryParts) (e : EntryParts) → IsBare e → MeetsByRecord R e
bare_meets R e b =
    let none : one_of e.value ≡ None = ap one_of b.none in
    record {
      fitting_value = record {
        registered_value = λ own v some. absurd (none_some (sym none ∙ some));
        ending_chain = λ v some. absurd (none_some (sym none ∙ some));
        fitting_extlang = λ kind. absurd (no_extlang kind);
        fitting_variant_value = λ kind. absurd (no_variant kind);
      };
      fitting_prefixes = record { final_prefixes = λ kind. absurd (no_variant kind); langtag_prefixes = λ kind. absurd (no_variant kind) };
      valid_whole = λ t u whole value. let single = b.single in cc;
      no_range_value = λ first last range. b.none;
    }
  where
    none_some : {A : Type 0} {x : A} → None ≡ Some x → ⊥
    none_some h = cc

    no_extlang : e.kind ≡ kinds.Extlang → ⊥
    no_extlang kind = elim b.kind [ inl l ↦ cc (l, kind) | inr o ↦ elim o [ inl l ↦ cc (l, kind) | inr l ↦ cc (l, kind) ] ]

    no_variant : e.kind ≡ kinds.Variant → ⊥
    no_variant kind = elim b.kind [ inl l ↦ cc (l, kind) | inr o ↦ elim o [ inl l ↦ cc (l, kind) | inr l ↦ cc (l, kind) ] ]

-- a record that meets each condition which is decided by record meets the one that is asked for
pub meets_by_record : (R : List EntryParts) (e : EntryParts) → MeetsByRecord R e → (condition : Condition)
    → is_by_record condition ≡ true → Meets condition R e
meets_by_record R e m conditions.RegisteredValue is = m.fitting_value.registered_value
meets_by_record R e m conditions.EndingChain is = m.fitting_value.ending_chain
meets_by_record R e m conditions.FittingExtlang is = m.fitting_value.fitting_extlang
meets_by_record R e m conditions.FittingVariantValue is = m.fitting_value.fitting_variant_value
meets_by_record R e m conditions.FinalPrefixes is = m.fitting_prefixes.final_prefixes
meets_by_record R e m conditions.LangtagPrefixes is = m.fitting_prefixes.langtag_prefixes
meets_by_record R e m conditions.ValidWhole is = m.valid_whole
meets_by_record R e m conditions.NoRangeValue is = m.no_range_value
meets_by_record R e m _ is = let bad : false ≡ true = is in cc
