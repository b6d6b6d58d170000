-- A tag is valid exactly if it has no fault, and proper exactly if it has none but that variants repeat, which means
-- that a variant occurs twice. And a tag has at most one first fault.
use Rattle.std.proofs.Common.{◌≡◌, ℕ, ◌+◌, ◌≤◌, true, if◌then◌else◌, eqb, inl, inr, List, [], ◌∷◌, ◌++◌, length, Option}
use Rattle.std.proofs.Common.{Some, None, refl, sym, ap, ◌∙◌, subst, arith}
use Rattle.std.specs.Prelude.{◌↔◌, IfSome}
use Rattle.std.proofs.lemmas.Bool.{true_from_ne_false}
use Rattle.lt_tag.specs.Parts.{CoreParts, ExtensionParts, TForm, TagForm, LangTag}
use Rattle.lt_tag.specs.Spelling.{spell_core, spell_extensions}
use Rattle.lt_tag.specs.Extensions.{transform, IsTransform}
use Rattle.lt_tag.specs.Splitting.{transform_of}
use Rattle.lt_tag.specs.Values.{IsTagValue}
use Rattle.lt_tag.proofs.PartsLaws.{t_unique, t_decided}
use Rattle.lt_registry.specs.Parts.{EntryParts}
use Rattle.lt_registry.specs.Entries.{is_registered, prefixes, has_prefix}
use Rattle.lt_registry.specs.Validity.{ExtlangsFit, IsProperCore, Distinct, IsProperExtension, HasProperParts, IsProper}
use Rattle.lt_registry.specs.Validity.{HasDistinctSource, RepeatsNoVariant, IsValid}
use Rattle.lt_registry.specs.Faults.{before_script, before_region, before_variants, HasCoreFault, HasExtensionFault}
use Rattle.lt_registry.specs.Faults.{HasFault, HasNoFault, RepeatsAtMost, rank_of, IsFirstFault}
use Rattle.lt_registry.specs.declared.entries.Kind.TheVariants as kinds
use Rattle.lt_registry.specs.declared.faults.ValidFaultKind.{ValidFaultKind}
use Rattle.lt_registry.specs.declared.faults.ValidFaultKind.TheVariants as faults
use Rattle.lt_registry.proofs.SplitListLemmas.{all_from, all_at, distinct_from, distinct_at, distinct_map_from, distinct_map_at}

-- if `P` is true of each value that an option can have, it is true of its value, if there is one
if_some : {A : Type 0} (P : A → Type 0) (o : Option A) → ((s : A) → o ≡ Some s → P s) → IfSome o P
if_some P None f = tt
if_some P (Some s) f = f s refl

-- cores

-- the core `c`, which begins after `start` subtags
module _ (R : List EntryParts) (start : ℕ) (c : CoreParts) where
  -- the core has no fault but that variants repeat
  abbrev Repeats : Type 0
  Repeats = (k : ValidFaultKind) (p : ℕ) → HasCoreFault R start c k p → k ≡ faults.DuplicateVariant

  -- if a core has no fault but that variants repeat, its extlangs fit the language
  extlangs_from : Repeats → (xs : List (List ℕ)) → c.extlangs ≡ xs → ExtlangsFit R c.language xs
  extlangs_from f [] e = tt
  extlangs_from f (x ∷ []) e = (
    true_from_ne_false (is_registered R kinds.Extlang x) (λ h. let bad = f faults.UnknownExtlang (start + 2) (x, [], e, refl, h) in cc),
    true_from_ne_false (has_prefix (prefixes R kinds.Extlang x) c.language)
        (λ h. let bad = f faults.ExtlangPrefix (start + 2) (x, [], e, refl, h) in cc),
  )
  extlangs_from f (x ∷ y ∷ rest) e = let bad = f faults.TooManyExtlangs (start + 3) (x, y, rest, e, refl) in cc

  -- a core without a fault but that variants repeat is proper
  proper_core_from : Repeats → IsProperCore R c
  proper_core_from f = record {
    language = true_from_ne_false (is_registered R kinds.Language c.language)
        (λ h. let bad = f faults.UnknownLanguage (start + 1) (refl, h) in cc);
    extlangs = extlangs_from f c.extlangs refl;
    script = if_some (λ s. is_registered R kinds.Script s ≡ true) c.script
        (λ s e. true_from_ne_false (is_registered R kinds.Script s)
        (λ h. let bad = f faults.UnknownScript (start + before_script c + 1) (s, e, refl, h) in cc));
    region = if_some (λ s. is_registered R kinds.Region s ≡ true) c.region
        (λ s e. true_from_ne_false (is_registered R kinds.Region s)
        (λ h. let bad = f faults.UnknownRegion (start + before_region c + 1) (s, e, refl, h) in cc));
    variants = all_from (λ v. is_registered R kinds.Variant v ≡ true) c.variants
        (λ b v a e. true_from_ne_false (is_registered R kinds.Variant v)
        (λ h. let bad = f faults.UnknownVariant (start + before_variants c + length b + 1) (b, v, a, e, refl, h) in
        cc));
  }

  -- extlangs that fit, if there are any, are only one, which is registered and has the language as one of its Prefixes
  one_extlang : (x : List ℕ) (rest : List (List ℕ)) → ExtlangsFit R c.language (x ∷ rest) → (rest ≡ [])
      × (is_registered R kinds.Extlang x ≡ true) × (has_prefix (prefixes R kinds.Extlang x) c.language ≡ true)
  one_extlang x [] h = (refl, h.0, h.1)
  one_extlang x (y ∷ rest) h = absurd h

  -- a proper core has no fault but that variants repeat
  proper_core_has : IsProperCore R c → Repeats
  proper_core_has h faults.UnknownLanguage p f = cc (h.language, f.1)
  proper_core_has h faults.UnknownExtlang p f = cc ((one_extlang f.0 f.1 (subst (ExtlangsFit R c.language) f.2 h.extlangs)).1, f.4)
  proper_core_has h faults.ExtlangPrefix p f = cc ((one_extlang f.0 f.1 (subst (ExtlangsFit R c.language) f.2 h.extlangs)).2, f.4)
  proper_core_has h faults.TooManyExtlangs p f = let bad =
      (one_extlang f.0 (f.1 ∷ f.2) (subst (ExtlangsFit R c.language) f.3 h.extlangs)).0 in cc
  proper_core_has h faults.UnknownScript p f = cc (subst (λ o. IfSome o (λ s. is_registered R kinds.Script s ≡ true)) f.1 h.script, f.3)
  proper_core_has h faults.UnknownRegion p f = cc (subst (λ o. IfSome o (λ s. is_registered R kinds.Region s ≡ true)) f.1 h.region, f.3)
  proper_core_has h faults.UnknownVariant p f = cc (
    all_at (λ v. is_registered R kinds.Variant v ≡ true) c.variants f.0
        f.1 f.2 f.3 h.variants,
    f.5,
  )
  proper_core_has h faults.DuplicateVariant p f = refl
  proper_core_has h faults.DuplicateSingleton p f = absurd f
  proper_core_has h faults.BadTransform p f = absurd f

  -- if the core doesn't have DuplicateVariant, its variants are distinct
  distinct_core_from : ((p : ℕ) → HasCoreFault R start c faults.DuplicateVariant p → ⊥) → Distinct c.variants
  distinct_core_from f = distinct_from c.variants
      (λ b v x d e. f (start + before_variants c + length b + 1 + length x + 1) (b, v, x, d, e, refl))

  -- if the variants of a core are distinct, it doesn't have DuplicateVariant
  distinct_core_has : Distinct c.variants → (p : ℕ) → HasCoreFault R start c faults.DuplicateVariant p → ⊥
  distinct_core_has h p f = distinct_at c.variants f.0 f.1 f.2 f.3 f.4 h

-- extensions

-- the extension `e`, whose singleton is at the place `here`
module _ (R : List EntryParts) (here : ℕ) (e : ExtensionParts) where
  -- the extension has no fault but that variants repeat
  abbrev ExtensionRepeats : Type 0
  ExtensionRepeats = (k : ValidFaultKind) (p : ℕ) → HasExtensionFault R here e k p → k ≡ faults.DuplicateVariant

  -- a `t` extension without a fault but that variants repeat has parts, of which the source is proper; `o` is what its
  -- subtags split into
  transform_from : ExtensionRepeats → e.singleton ≡ transform → (o : Option TForm) → transform_of e.subtags ≡ o
      → (p : TForm) × IsTransform e.subtags p × IfSome p.source (IsProperCore R)
  transform_from f t None none =
      let formless : (p : TForm) → IsTransform e.subtags p → ⊥ = λ p h. let bad : None ≡ Some p = sym none
      ∙ (t_decided e.subtags p).1 h in cc in
      let bad = f faults.BadTransform here (inl (refl, refl, record { transforms = t; formless = formless })) in cc
  transform_from f t (Some parts) there =
      let formed = (t_decided e.subtags parts).0 there in (
        parts,
        formed,
        if_some (IsProperCore R) parts.source
            (λ c there. proper_core_from R here c
            (λ k p h. f k p (inr (c, record { transforms = t; parts = parts; formed = formed; there = there }, h)))),
      )

  -- an extension without a fault but that variants repeat is proper
  proper_extension_from : ExtensionRepeats → IsProperExtension R e
  proper_extension_from f t = transform_from f t (transform_of e.subtags) refl

  -- a proper extension has no fault but that variants repeat
  proper_extension_has : IsProperExtension R e → ExtensionRepeats
  proper_extension_has h k p (inl bad) = let parts = h bad.2.transforms in absurd (bad.2.formless parts.0 parts.1)
  proper_extension_has h k p (inr f) =
      let parts = h f.1.transforms in
      let same : parts.0 ≡ f.1.parts = t_unique e.subtags parts.0 f.1.parts parts.1 f.1.formed in
      let there : parts.0.source ≡ Some f.0 = ap (λ (z : TForm). z.source) same ∙ f.1.there in
      proper_core_has R here f.0 (subst (λ o. IfSome o (IsProperCore R)) there parts.2) k p f.2

  -- if an extension has no fault, the variants of its source are distinct
  distinct_source_from : ((k : ValidFaultKind) (p : ℕ) → HasExtensionFault R here e k p → ⊥) → HasDistinctSource e
  distinct_source_from f t parts formed =
      if_some (λ (c : CoreParts). Distinct c.variants) parts.source
      (λ c there. distinct_core_from R here c
      (λ p h. f faults.DuplicateVariant p
      (inr (c, record { transforms = t; parts = parts; formed = formed; there = there }, h))))

  -- if the variants of an extension's source are distinct, the extension doesn't have DuplicateVariant
  distinct_source_has : HasDistinctSource e → (k : ValidFaultKind) (p : ℕ) → k ≡ faults.DuplicateVariant
      → HasExtensionFault R here e k p → ⊥
  distinct_source_has h k p dup (inl bad) = let no : faults.DuplicateVariant ≡ faults.BadTransform = sym dup ∙ bad.0 in cc
  distinct_source_has h k p dup (inr f) =
      let d = subst (λ o. IfSome o (λ (c : CoreParts). Distinct c.variants)) f.1.there (h f.1.transforms f.1.parts f.1.formed) in
      distinct_core_has R here f.0 d p (subst (λ z. HasCoreFault R here f.0 z p) dup f.2)

-- tags

-- the place of the singleton that comes after the core `c` and the extensions `before`
abbrev place_after : CoreParts → List ExtensionParts → ℕ
place_after c before = length (spell_core c) + length (spell_extensions before) + 1

-- a tag without a fault but that variants repeat has proper parts
proper_parts_from : (R : List EntryParts) (t : TagForm) → RepeatsAtMost R t → HasProperParts R t
proper_parts_from R (LangTag c es ps) f = record {
  core = proper_core_from R 0 c (λ k p h. f k p (inl h));
  extensions = all_from (IsProperExtension R) es
      (λ b e a there. proper_extension_from R (place_after c b) e
      (λ k p h. f k p (inr (inl (record { before = b; extension = e; after = a; there = there; fault = h })))));
  singletons = distinct_map_from (λ (e : ExtensionParts). e.singleton) es
      (λ b x m y d there alike. let bad = f faults.DuplicateSingleton
      (length (spell_core c) + length (spell_extensions (b ++ x ∷ m)) + 1)
      (inr (inr (
        refl,
        record {
          before = b;
          first = x;
          between = m;
          second = y;
          after = d;
          there = there;
          alike = alike;
          here = refl;
        },
      ))) in cc);
}
proper_parts_from R _ f = tt

-- a tag with proper parts has no fault but that variants repeat
proper_parts_has : (R : List EntryParts) (t : TagForm) → HasProperParts R t → RepeatsAtMost R t
proper_parts_has R (LangTag c es ps) h k p (inl f) = proper_core_has R 0 c h.core k p f
proper_parts_has R (LangTag c es ps) h k p (inr (inl f)) =
    proper_extension_has R (place_after c f.before) f.extension
    (all_at (IsProperExtension R) es f.before f.extension f.after f.there h.extensions) k p f.fault
proper_parts_has R (LangTag c es ps) h k p (inr (inr f)) =
    absurd (distinct_map_at (λ (e : ExtensionParts). e.singleton) es f.1.before f.1.first f.1.between f.1.second
    f.1.after f.1.there h.singletons f.1.alike)
proper_parts_has R _ h k p f = absurd f

-- a tag is proper exactly if it has no fault but that variants repeat
pub proper_law : (R : List EntryParts) (t : TagForm) → IsTagValue t → IsProper R t ↔ RepeatsAtMost R t
proper_law R t v = (λ h. proper_parts_has R t h.parts, λ f. record { tag = v; parts = proper_parts_from R t f })

-- a tag without a fault repeats no variant
no_repeat_from : (R : List EntryParts) (t : TagForm) → HasNoFault R t → RepeatsNoVariant t
no_repeat_from R (LangTag c es ps) f = (
  distinct_core_from R 0 c (λ p h. f faults.DuplicateVariant p (inl h)),
  all_from HasDistinctSource es (λ b e a there. distinct_source_from R (place_after c b) e
      (λ k p h. f k p (inr (inl (record { before = b; extension = e; after = a; there = there; fault = h }))))),
)
no_repeat_from R _ f = tt

-- a tag that repeats no variant doesn't have DuplicateVariant
no_repeat_has : (R : List EntryParts) (t : TagForm) → RepeatsNoVariant t → (k : ValidFaultKind) (p : ℕ)
    → k ≡ faults.DuplicateVariant → HasFault R t k p → ⊥
no_repeat_has R (LangTag c es ps) h k p dup (inl f) = distinct_core_has R 0 c h.0 p (subst (λ z. HasCoreFault R 0 c z p) dup f)
no_repeat_has R (LangTag c es ps) h k p dup (inr (inl f)) =
    distinct_source_has R (place_after c f.before) f.extension (all_at HasDistinctSource es f.before f.extension f.after
    f.there h.1) k p dup f.fault
no_repeat_has R (LangTag c es ps) h k p dup (inr (inr f)) = let no : faults.DuplicateVariant
    ≡ faults.DuplicateSingleton = sym dup ∙ f.0 in cc
no_repeat_has R _ h k p dup f = f

-- a tag is valid exactly if it has no fault
pub valid_law : (R : List EntryParts) (t : TagForm) → IsTagValue t → IsValid R t ↔ HasNoFault R t
valid_law R t v = (
  λ h k p f. no_repeat_has R t h.distinct k p (proper_parts_has R t h.proper.parts k p f) f,
  λ f. record {
    proper = record { tag = v; parts = proper_parts_from R t (λ k p h. absurd (f k p h)) };
    distinct = no_repeat_from R t f;
  },
)

-- the kind of fault that has the rank `n`
abbrev ranked : ℕ → ValidFaultKind
ranked n =
    if eqb n 0 then faults.UnknownLanguage else
    (if eqb n 1 then faults.UnknownExtlang else
    (if eqb n 2 then faults.ExtlangPrefix else
    (if eqb n 3 then faults.TooManyExtlangs else
    (if eqb n 4 then faults.UnknownScript else
    (if eqb n 5 then faults.UnknownRegion else
    (if eqb n 6 then faults.UnknownVariant else
    (if eqb n 7 then faults.DuplicateVariant else
    (if eqb n 8 then faults.DuplicateSingleton else faults.BadTransform))))))))

-- the kind of fault that has the rank of `k` is `k`
ranked_again : (k : ValidFaultKind) → ranked (rank_of k) ≡ k
ranked_again faults.UnknownLanguage = refl
ranked_again _ = refl

-- a tag has at most one first fault
pub one_fault_law : (R : List EntryParts) (t : TagForm) (k l : ValidFaultKind) (p q : ℕ) → IsFirstFault R t k p
    → IsFirstFault R t l q → (k ≡ l) × (p ≡ q)
one_fault_law R t k l p q a b =
    let le = a.leftmost l q b.there in
    let ge = b.leftmost k p a.there in
    let same : p ≡ q = omega arith in
    let up : rank_of k ≤ rank_of l = a.earliest l (subst (HasFault R t l) (sym same) b.there) in
    let down : rank_of l ≤ rank_of k = b.earliest k (subst (HasFault R t k) same a.there) in
    let rank : rank_of k ≡ rank_of l = omega arith in
    (sym (ranked_again k) ∙ ap ranked rank ∙ ranked_again l, same)
