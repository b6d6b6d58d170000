-- Lemmas for `apply_to_core` and `explain_core`: when a step, given by its kind, its place and the number of its
-- record, leads on from a core, and which step that leads on is the first. A spot is where in a core a step is taken
-- (`Spot`); a rank is the number of a kind of step in the order of steps (`rank_of`).
use Rattle.std.proofs.Common.{◌≡◌, ℕ, ◌+◌, ◌<◌, ◌≤◌, List, ◌++◌, Some, refl, sym, ap, ◌∙◌, length, length-append}
use Rattle.std.proofs.Common.{slice_get, arith, zero, suc, false, [], ◌∷◌, Option, None, All, subst, take, drop}
use Rattle.std.proofs.Common.{is_none, inl, inr, MatchOption, Bool, true}
use Rattle.std.specs.Prelude.{option_to_list}
use Rattle.std.proofs.lemmas.Option.{same_Some, slice_get_within, none-some, get_or_from_slice_get}
use Rattle.lt_tag.specs.Parts.{CoreParts}
use Rattle.lt_tag.specs.Spelling.{spell_core}
use Rattle.lt_registry.specs.Parts.{EntryParts}
use Rattle.lt_registry.specs.Entries.{entry, number_of, preferred_value, variant_value, is_short}
use Rattle.lt_registry.specs.Faults.{before_variants}
use Rattle.lt_rewrite.specs.CoreSteps.{language_beside, Spot, at_extlang, at_language, at_script, at_region, at_variant}
use Rattle.lt_rewrite.specs.CoreSteps.{at_variant_language, subtag_at, value_at, replaced, CoreStep}
use Rattle.lt_rewrite.specs.Labels.{step_at, kind_at, subtag_kind_at, place_at, core_label}
use Rattle.lt_rewrite.specs.Runs.{rank_of, kind_rank, extension_rank, IsFirst, NoneLeads, NoneOnCore, IsLeftmostOnCore, IsFirstOnCore}
use Rattle.lt_rewrite.specs.declared.steps.Step.{Step}
use Rattle.lt_rewrite.proofs.CoreSteps.{alone, one_extlang, get_at, none_before, there_alone, has_leftmost}
use Rattle.lt_rewrite.proofs.Entries.{some_if}
use Rattle.std.specs.List.{AllByRecursion, list_all}
use Rattle.std.proofs.lemmas.List.{length-take-le}
use Rattle.lt_rewrite.specs.CoreSettling.{IsFirstVariantLanguage, HasNoVariantLanguage}
use Rattle.lt_rewrite.specs.Applying.{IsValueBy, CoreLeads, Answers}
use Rattle.lt_rewrite.specs.declared.steps.StepKind.{StepKind}
use Rattle.lt_rewrite.proofs.Entries.{variant_value_is}
use Rattle.std.proofs.lemmas.List.Elements.{recursion_from_All}
use Rattle.lt_rewrite.proofs.FirstSteps.{is_first}
use Rattle.std.proofs.lemmas.Bool.{cases_eq}
use Rattle.lt_registry.specs.declared.entries.Kind.TheVariants as kinds
use Rattle.lt_rewrite.specs.declared.steps.StepKind.TheVariants as steps

-- The spot of a core step determines its kind and its place, and these determine the spot.

-- the rank of the step is from 1 to 6, and 13 more if the core is the source of a `t` extension
pub record OnSource (step : Step) : Type 0 where
  pub some : 0 < kind_rank step
  pub most : kind_rank step ≤ 6
  pub raised : extension_rank step ≡ kind_rank step + 13

-- the step at a spot has a rank from 1 to 6, at any place and by any record
spot_rank : (spot : Spot) (place number : ℕ) → OnSource (step_at (kind_at spot) place number)
spot_rank at_extlang p n = record { some = omega arith; most = omega arith; raised = refl }
spot_rank s p n = record { some = omega arith; most = omega arith; raised = refl }

-- each core step has a rank from 1 to 6
pub core_rank : (R : List EntryParts) (start : ℕ) (c d : CoreParts) (s : CoreStep R c d) → OnSource (core_label R start s)
core_rank R start c d s = spot_rank s.spot (start + place_at c s.spot) (number_of (entry R (subtag_kind_at s.spot) s.subtag))

-- the place of a spot is at least 1
place_low : (c : CoreParts) (spot : Spot) → 0 < place_at c spot
place_low c at_extlang = omega arith
place_low c s = omega arith

-- the place of a core step is after the `start` subtags before the core
pub core_low : (R : List EntryParts) (start : ℕ) (c d : CoreParts) (s : CoreStep R c d) → start < (core_label R start s).place
core_low R start c d s = omega (arith, place_low c s.spot)

-- the number of subtags of a core is that of those before its variants, and of its variants
core_length : (c : CoreParts) → length (spell_core c) ≡ before_variants c + length c.variants
core_length c = omega (
  arith,
  length-append c.extlangs (option_to_list c.script ++ (option_to_list c.region ++ c.variants)),
  length-append (option_to_list c.script) (option_to_list c.region ++ c.variants),
  length-append (option_to_list c.region) c.variants,
)

-- the place of a spot that has a subtag is within the core
place_high : (c : CoreParts) (spot : Spot) (x : List ℕ) → subtag_at c spot ≡ Some x → place_at c spot ≤ length (spell_core c)
place_high c at_extlang x t = omega (arith, core_length c, ap length (one_extlang c x t))
place_high c at_language x t = omega (arith, core_length c)
place_high c (at_variant i) x t = omega (arith, core_length c, slice_get_within c.variants i x t)
place_high c (at_variant_language i) x t =
    omega (arith, core_length c, slice_get_within c.variants i x (alone c (slice_get c.variants i) x t).1)
place_high c s x t = omega (arith, core_length c, ap (λ o. length (option_to_list o)) t)

-- the place of a core step is no further right than the last subtag of the core
pub core_high : (R : List EntryParts) (start : ℕ) (c d : CoreParts) (s : CoreStep R c d)
    → (core_label R start s).place ≤ start + length (spell_core c)
core_high R start c d s = omega (arith, place_high c s.spot s.subtag s.there)

-- two spots of a core with the same kind of step and the same place are equal
pub one_spot : (c : CoreParts) (s t : Spot) → kind_at s ≡ kind_at t → place_at c s ≡ place_at c t → s ≡ t
one_spot c at_extlang at_extlang k p = refl
one_spot c at_language at_language k p = refl
one_spot c at_script at_script k p = refl
one_spot c at_region at_region k p = refl
one_spot c (at_variant i) (at_variant j) k p = ap at_variant (omega (arith, p))
one_spot c (at_variant_language i) (at_variant_language j) k p = ap at_variant_language (omega (arith, p))
one_spot c s t k p = cc

-- the spot is of a kind of which a core has at most one, so it is not that of a variant
abbrev pub IsPart : Spot → Type 0
IsPart (at_variant i) = ⊥
IsPart (at_variant_language i) = ⊥
IsPart spot = Unit {0}

-- a spot `s` of the same rank as a spot `t` that is not a variant's has the same place as `t`
part_place : (c : CoreParts) (s t : Spot) → IsPart t → rank_of (kind_at s) ≡ rank_of (kind_at t) → place_at c s ≡ place_at c t
part_place c at_extlang at_extlang p r = refl
part_place c s at_extlang p r = omega arith
part_place c s t p r = omega arith

-- a spot of rank 5, that of Variant steps, is that of a variant at some index
pub variant_spot : (s : Spot) → rank_of (kind_at s) ≡ 5 → (i : ℕ) × (s ≡ at_variant i)
variant_spot (at_variant i) r = (i, refl)
variant_spot s r = absurd (omega (arith, r))

-- a spot of rank 6, that of VariantLanguage steps, is that of a variant at some index whose value becomes the language
pub variant_language_spot : (s : Spot) → rank_of (kind_at s) ≡ 6 → (i : ℕ) × (s ≡ at_variant_language i)
variant_language_spot (at_variant_language i) r = (i, refl)
variant_language_spot s r = absurd (omega (arith, r))

-- a step with this kind, this place and this number of a record is the one that `step_at` makes of them
pub same_step : (kind : StepKind) (place number : ℕ) (step : Step) → step.kind ≡ kind → step.place ≡ place
    → step.number ≡ number → step_at kind place number ≡ step
same_step kind place number step k p n = λ i. record { kind = (sym k) i; place = (sym p) i; number = (sym n) i }

module _ (R : List EntryParts) (start : ℕ) (c : CoreParts) (step : Step) where
  -- the step leads on if it has the kind and the place of a spot, and the number of the record of the subtag `x` there,
  -- whose value is `v`
  pub leads_at : (spot : Spot) (x v : List ℕ) → step.kind ≡ kind_at spot → step.place ≡ start + place_at c spot
      → step.number ≡ number_of (entry R (subtag_kind_at spot) x) → subtag_at c spot ≡ Some x
      → value_at R c spot x ≡ Some v → CoreLeads R start c step (replaced c spot v)
  leads_at spot x v k p n there has =
      (record { spot = spot; subtag = x; there = there; value = v; has = has; result = refl }, same_step _ _ _ step k p n)

  -- what a core has at the spot of a step that leads on: a subtag, and a value of it by the record that the step uses
  pub record Needs (spot : Spot) : Type 0 where
    pub subtag : List ℕ
    pub there : subtag_at c spot ≡ Some subtag
    pub value : List ℕ
    pub has : value_at R c spot subtag ≡ Some value
    pub number : number_of (entry R (subtag_kind_at spot) subtag) ≡ step.number

  -- `Needs` holds of the spot of a step that leads on
  pub needs : (d : CoreParts) → (l : CoreLeads R start c step d) → Needs l.0.spot
  needs d l = record { subtag = l.0.subtag; there = l.0.there; value = l.0.value; has = l.0.has; number = ap (λ (x : Step). x.number) l.1 }

  -- what a core has for a Variant or VariantLanguage step that leads on: a variant at an index, from which `spot` gives
  -- the step's spot
  pub record NeedsVariant (spot : ℕ → Spot) : Type 0 where
    pub index : ℕ
    pub needs : Needs (spot index)
    pub place : step.place ≡ start + before_variants c + index + 1

  -- a step of rank 5 that leads on is the Variant step of a variant at an index
  pub needs_variant : kind_rank step ≡ 5 → (d : CoreParts) → CoreLeads R start c step d → NeedsVariant at_variant
  needs_variant k d l =
      let s = variant_spot l.0.spot (ap kind_rank l.1 ∙ k) in
      record {
        index = s.0;
        needs = subst Needs s.1 (needs d l);
        place = omega (arith, ap (λ (x : Step). x.place) l.1, ap (place_at c) s.1);
      }

  -- a step of rank 6 that leads on is the VariantLanguage step of a variant at an index
  pub needs_variant_language : kind_rank step ≡ 6 → (d : CoreParts) → CoreLeads R start c step d → NeedsVariant at_variant_language
  needs_variant_language k d l =
      let s = variant_language_spot l.0.spot (ap kind_rank l.1 ∙ k) in
      record {
        index = s.0;
        needs = subst Needs s.1 (needs d l);
        place = omega (arith, ap (λ (x : Step). x.place) l.1, ap (place_at c) s.1);
      }

  -- the value of the variant of a VariantLanguage step may replace the core's language, and that of no variant before
  -- it may
  pub has_language : (n : NeedsVariant at_variant_language)
      → AllByRecursion (λ u. language_beside R c.language u ≡ None) (take n.index c.variants)
      × (language_beside R c.language n.needs.subtag ≡ Some n.needs.value)
  has_language n =
      let f : List ℕ → Option (List ℕ) = language_beside R c.language in
      let l = some_if (list_all (λ u. is_none (f u)) (take n.index c.variants)) (f n.needs.subtag) n.needs.value n.needs.has in
      (none_before f (take n.index c.variants) l.0, l.1)

  -- the variant of a VariantLanguage step is in the core, at its index
  pub variant_there : (n : NeedsVariant at_variant_language) → slice_get c.variants n.index ≡ Some n.needs.subtag
  variant_there n = (alone c (slice_get c.variants n.index) n.needs.subtag n.needs.there).1

-- if no element before the index `i` has a value by `f`, an element `x` at `j` that has one is not before `i`
pub not_before : (f : List ℕ → Option (List ℕ)) (xs : List (List ℕ)) (i j : ℕ) (x y : List ℕ)
    → AllByRecursion (λ u. f u ≡ None) (take i xs) → slice_get xs j ≡ Some x → f x ≡ Some y → i ≤ j
not_before f [] i j x y h t e = cc
not_before f (u ∷ us) zero j x y h t e = omega arith
not_before f (u ∷ us) (suc i) zero x y h t e = absurd (none-some y (sym h.0 ∙ ap f (same_Some u x t) ∙ e))
not_before f (u ∷ us) (suc i) (suc j) x y h t e = omega (arith, not_before f us i j x y h.1 t e)

-- if no element has a value by `f`, the element `x` at `j` has none
pub no_value : (f : List ℕ → Option (List ℕ)) (xs : List (List ℕ)) (j : ℕ) (x y : List ℕ) → All (λ u. f u ≡ None) xs
    → slice_get xs j ≡ Some x → f x ≡ Some y → ⊥
no_value f xs j x y h t e =
    none-some y (sym (ap f (sym (get_or_from_slice_get xs j x x t)) ∙ h j x (slice_get_within xs j x t)) ∙ e)

-- a preferred value of a variant that is not short, and so is a variant, is its `variant_value`
pub variant_value_from : (R : List EntryParts) (v w : List ℕ) → preferred_value R kinds.Variant v ≡ Some w
    → is_short w ≡ false → variant_value R v ≡ Some w
variant_value_from R v w h s = rw h (rw s refl)

module _ (R : List EntryParts) (start : ℕ) (c : CoreParts) (step : Step) where
  -- a Variant step leads nowhere if the variant `v` at its place has no value that is a variant by the record with the
  -- step's number
  pub variant_without : step.kind ≡ steps.Variant → (i : ℕ) (v : List ℕ) → slice_get c.variants i ≡ Some v
      → step.place ≡ start + before_variants c + i + 1 → ((w : List ℕ) → IsValueBy R kinds.Variant v step.number w
      → is_short w ≡ false → ⊥) → (d : CoreParts) → CoreLeads R start c step d → ⊥
  variant_without k i v there p none d l =
      let n = subst (Needs R start c step) (one_spot c l.0.spot (at_variant i) (ap (λ (x : Step). x.kind) l.1 ∙ k)
      (omega (arith, p, ap (λ (x : Step). x.place) l.1))) (needs R start c step d l) in
      let has = variant_value_is R n.subtag n.value n.has in
      none n.value (subst (λ u. IsValueBy R kinds.Variant u step.number n.value)
      (same_Some n.subtag v (sym n.there ∙ there)) (record { has = has.0; by = n.number })) has.1

  -- the leftmost variant with a VariantLanguage step is the one that the core has at the index `i`
  first_there : (i : ℕ) (m : List ℕ) → (t : IsFirstVariantLanguage R c i m) → slice_get c.variants i ≡ Some t.variant
  first_there i m t =
      ap (slice_get c.variants) (sym (length-take-le i c.variants (omega (arith, t.within))))
      ∙ get_at (take i c.variants) t.variant (drop (suc i) c.variants) c.variants t.there

  -- if the variant at `i` is the leftmost with a VariantLanguage step, and `m` the language that the step puts, this is
  -- the value of the variant `v` at `i`
  pub variant_language_there : (i : ℕ) (m v : List ℕ) → slice_get c.variants i ≡ Some v → IsFirstVariantLanguage R c i m
      → language_beside R c.language v ≡ Some m
  variant_language_there i m v there t =
      ap (language_beside R c.language) (same_Some v t.variant (sym there ∙ first_there i m t)) ∙ t.has

  -- a VariantLanguage step leads nowhere if its place is not that of the leftmost variant with such a step
  pub variant_language_elsewhere : step.kind ≡ steps.VariantLanguage → (i : ℕ) (m : List ℕ)
      → IsFirstVariantLanguage R c i m → (step.place ≡ start + before_variants c + i + 1 → ⊥) → (d : CoreParts)
      → CoreLeads R start c step d → ⊥
  variant_language_elsewhere k i m t n d l =
      let f : List ℕ → Option (List ℕ) = language_beside R c.language in
      let o = needs_variant_language R start c step (ap rank_of k) d l in
      let h = has_language R start c step o in
      n (omega (
        arith,
        o.place,
        not_before f c.variants i o.index o.needs.subtag o.needs.value t.leftmost
            (variant_there R start c step o) h.1,
        not_before f c.variants o.index i t.variant m h.0 (first_there i m t)
            t.has,
      ))

-- The leftmost step of each kind on a core, and the first of them.

module _ (R : List EntryParts) (start : ℕ) (c : CoreParts) (step : Step) where
  -- the step at a spot is the leftmost of its rank, if it leads on, and no step of its rank that leads on is further
  -- left
  first_at : (spot : Spot) (x v : List ℕ) → step.kind ≡ kind_at spot → step.place ≡ start + place_at c spot
      → step.number ≡ number_of (entry R (subtag_kind_at spot) x) → subtag_at c spot ≡ Some x
      → value_at R c spot x ≡ Some v → ((other : Step) (b : CoreParts) → CoreLeads R start c other b
      → rank_of other.kind ≡ rank_of (kind_at spot) → start + place_at c spot ≤ other.place)
      → IsLeftmostOnCore R start c (rank_of (kind_at spot)) step
  first_at spot x v k p n there has least = record {
    of_rank = ap rank_of k;
    to = replaced c spot v;
    leads = leads_at R start c step spot x v k p n there has;
    leftmost = λ other b l r. omega (arith, p, least other b l r);
  }

  -- the step at a spot that is not a variant's is the leftmost of its rank, if it leads on
  pub first_part : (spot : Spot) (x v : List ℕ) → IsPart spot → step.kind ≡ kind_at spot
      → step.place ≡ start + place_at c spot → step.number ≡ number_of (entry R (subtag_kind_at spot) x)
      → subtag_at c spot ≡ Some x → value_at R c spot x ≡ Some v
      → IsLeftmostOnCore R start c (rank_of (kind_at spot)) step
  first_part spot x v part k p n there has =
      first_at spot x v k p n there has (λ other b l r.
      omega (arith, ap (λ (x : Step). x.place) l.1, part_place c l.0.spot spot part (ap rank_of (ap (λ (x : Step). x.kind) l.1) ∙ r)))

  -- the Variant step of the leftmost variant whose value is a variant is the leftmost step of rank 5
  pub first_variant : (i : ℕ) (v w : List ℕ) → step.kind ≡ steps.Variant
      → step.place ≡ start + (before_variants c + i + 1) → step.number ≡ number_of (entry R kinds.Variant v)
      → slice_get c.variants i ≡ Some v → variant_value R v ≡ Some w
      → All (λ u. variant_value R u ≡ None) (take i c.variants) → IsLeftmostOnCore R start c 5 step
  first_variant i v w k p n there has none =
      first_at (at_variant i) v w k p n there has (λ other b l r.
      let m = needs_variant R start c other r b l in
      let q = not_before (variant_value R) c.variants i m.index m.needs.subtag m.needs.value
      (recursion_from_All (λ u. variant_value R u ≡ None) (take i c.variants) none) m.needs.there m.needs.has in
      omega (arith, m.place, q))

  -- the VariantLanguage step of the leftmost variant that has such a step is the leftmost step of rank 6
  pub first_variant_language : (i : ℕ) (m v : List ℕ) → step.kind ≡ steps.VariantLanguage
      → step.place ≡ start + (before_variants c + i + 1) → step.number ≡ number_of (entry R kinds.Variant v)
      → c.extlangs ≡ [] → slice_get c.variants i ≡ Some v → IsFirstVariantLanguage R c i m
      → IsLeftmostOnCore R start c 6 step
  first_variant_language i m v k p n none there t =
      first_at (at_variant_language i) v m k p n (there_alone c (slice_get c.variants i) v none there)
      (has_leftmost R c i v m (variant_language_there R start c step i m v there t) t.leftmost) (λ other b l r.
      let o = needs_variant_language R start c other r b l in
      omega (
        arith,
        o.place,
        not_before (language_beside R c.language) c.variants i o.index o.needs.subtag o.needs.value
            t.leftmost (variant_there R start c other o) (has_language R start c other o).1,
      ))

-- if no variant has a variant as its value, no step of rank 5, that of Variant steps, leads on
pub none_varies : (R : List EntryParts) (start : ℕ) (c : CoreParts) → All (λ u. variant_value R u ≡ None) c.variants
    → NoneOnCore R start c 5
none_varies R start c none step b l r =
    let m = needs_variant R start c step r b l in
    no_value (variant_value R) c.variants m.index m.needs.subtag m.needs.value none m.needs.there m.needs.has

-- if no variant has a VariantLanguage step, no step of rank 6 leads on
pub none_variant_language : (R : List EntryParts) (start : ℕ) (c : CoreParts) → HasNoVariantLanguage R c → NoneOnCore R start c 6
none_variant_language R start c none step b l r =
    let o = needs_variant_language R start c step r b l in
    no_value (language_beside R c.language) c.variants o.index o.needs.subtag o.needs.value none
    (variant_there R start c step o) (has_language R start c step o).1

module _ (R : List EntryParts) (start : ℕ) (c : CoreParts) where
  -- no step of a rank from 1 to the given one leads on
  abbrev pub NoneUpTo : ℕ → Type 0
  NoneUpTo zero = Unit {0}
  NoneUpTo (suc n) = NoneUpTo n × NoneOnCore R start c (suc n)

  -- if no step of the ranks 1 to `n` leads on, none of a rank `m` up to `n` does; no step has the rank 0
  none_of : (n : ℕ) → NoneUpTo n → (m : ℕ) → m < suc n → NoneOnCore R start c m
  none_of zero h m l step b k r = omega (arith, (core_rank R start c b k.0).some, ap kind_rank k.1, r, l)
  none_of (suc n) h m l step b k r =
      elim (cases_eq m (suc n)) [ inl same ↦ h.1 step b k (r ∙ same) | inr other ↦ none_of n h.0 m (omega (arith, l, other)) step b k r ]

  -- if no step of the ranks up to `n` leads on, the leftmost step of rank `n` + 1 is the first of all
  pub first_after : (n : ℕ) (step : Step) → NoneUpTo n → IsLeftmostOnCore R start c (suc n) step → IsFirstOnCore R start c step
  first_after n step none h = record { to = h.to; is_first = is_first (CoreLeads R start c) kind_rank (suc n) step (none_of n none) h }

  -- if no step of the ranks 1 to 6 leads on, no core step does
  none_leads : NoneUpTo 6 → NoneLeads (CoreLeads R start c)
  none_leads none step b l =
      none_of 6 none (kind_rank step) (omega (arith, (core_rank R start c b l.0).most, ap kind_rank l.1)) step b l refl

  -- if no step of the ranks 1 to 5 leads on, the leftmost step of rank 6 is the first of all; if there is none, no core
  -- step leads on
  pub last : NoneUpTo 5 → (found : Option Step)
      → MatchOption found (NoneOnCore R start c 6) (IsLeftmostOnCore R start c 6)
      → MatchOption found (NoneLeads (CoreLeads R start c)) (IsFirstOnCore R start c)
  last none (Some step) h = first_after 5 step none h
  last none None h = none_leads (none, h)

-- if the first step on the core `c` is applied by a call that answers `done`, and after which the core is `d`, it leads
-- to `d`, as the first step
pub applied : (R : List EntryParts) (start : ℕ) (c d : CoreParts) (step : Step) (done : Bool)
    → IsFirstOnCore R start c step → Answers (CoreLeads R start c step) d done
    → IsFirst (CoreLeads R start c) kind_rank step d
applied R start c d step true f a = record { leads = a; first = f.is_first.first }
applied R start c d step false f a = absurd (a f.to f.is_first.leads)
