-- `core_check` answers the first fault of a core, and `source_check` the first of a `t` extension, as `validate` needs.
-- Each part of a core has its own places, so the first part with a fault decides. A check *tells* the first of some
-- faults if it answers it, or Ok if there is none (`Tells`). A fault *counts* unless it is DuplicateVariant and
-- variants may repeat (`Counted`).
use Rattle.std.proofs.Common.{◌≡◌, ◌≢◌, ℕ, ◌+◌, ◌<◌, ◌≤◌, Bool, true, false, ◌⊎◌, inl, inr, List, [], ◌∷◌, ◌++◌, length}
use Rattle.std.proofs.Common.{Option, Some, None, is_some, refl, sym, ap, ◌∙◌, subst, arith, length-append}
use Rattle.std.proofs.Common.{append_assoc}
use Rattle.std.specs.Prelude.{Ok, flat_map}
use Rattle.std.specs.Option.{option_to_list, option_map_or}
use Rattle.std.proofs.lemmas.Bool.{false_from_ne_true}
use Rattle.std.proofs.lemmas.Option.{same_Some}
use Rattle.lt_tag.specs.Parts.{CoreParts, ExtensionParts, TForm}
use Rattle.lt_tag.specs.Spelling.{spell_core}
use Rattle.lt_tag.specs.Extensions.{spell_t, spell_field, transform, IsTransform}
use Rattle.lt_tag.proofs.PartsLaws.{t_unique}
use Rattle.lt_tag.specs.Splitting.{spell_source}
use Rattle.lt_registry.specs.Parts.{EntryParts}
use Rattle.lt_registry.specs.Entries.{entry, is_registered, has_prefix}
use Rattle.lt_registry.specs.Faults.{HasCoreFault, before_script, before_region, before_variants, HasExtensionFault}
use Rattle.lt_registry.specs.Checking.{unless, Tells, Counted, prefix_check, second_check, extlangs_check, part_check}
use Rattle.lt_registry.specs.Checking.{core_check, source_check, stands_in}
use Rattle.lt_registry.specs.declared.entries.Kind.{Kind}
use Rattle.lt_registry.specs.declared.faults.ValidFaultKind.{ValidFaultKind}
use Rattle.lt_registry.specs.declared.entries.Kind.TheVariants as kinds
use Rattle.lt_registry.specs.declared.faults.ValidFaultKind.TheVariants as faults
use Rattle.lt_registry.proofs.VariantFaultLemmas.{Or, SameFaults, Precede, Upto, Past, Part, part_then, part_none}
use Rattle.lt_registry.proofs.VariantFaultLemmas.{Single, tells_and, tells_same, tells_unless, first_left, single_first}
use Rattle.lt_registry.proofs.VariantFaultLemmas.{single_precede, single_same, VariantFault, variants_part}
use Rattle.lt_registry.proofs.VariantFaultLemmas.{variants_shown, IsVariantAt, VariantHead, variants_hidden, repeats}
use Rattle.lt_registry.proofs.VariantFaultLemmas.{repeated, stands_at, stands_there}

-- The check of a core tells the first of its faults.

-- the fault that the language `l` may have, where the core begins after `start` subtags
abbrev pub LanguagePart : List EntryParts → ℕ → List ℕ → ValidFaultKind → ℕ → Type 0
LanguagePart R start l = Single faults.UnknownLanguage (start + 1) (is_registered R kinds.Language l ≡ false)

-- the faults that the first extlang may have, by its entry `o`: it has none, or the language `l` is none of its
-- Prefixes
abbrev pub FirstPart : ℕ → List ℕ → Option EntryParts → ValidFaultKind → ℕ → Type 0
FirstPart start l o =
    Or (Single faults.UnknownExtlang (start + 2) (is_some o ≡ false))
    (Single faults.ExtlangPrefix (start + 2) (has_prefix (option_map_or (λ (e : EntryParts). e.prefixes) o []) l
    ≡ false))

-- the fault that the first extlang has no entry is reported before the fault that the language `l` is none of its
-- Prefixes; `o` is its entry
first_precede : (start : ℕ) (l : List ℕ) (o : Option EntryParts)
    → Precede (Single faults.UnknownExtlang (start + 2) (is_some o ≡ false)) (Single faults.ExtlangPrefix (start + 2)
    (has_prefix (option_map_or (λ (e : EntryParts). e.prefixes) o []) l ≡ false))
first_precede start l o = single_precede faults.UnknownExtlang faults.ExtlangPrefix (start + 2) (start + 2)
    (is_some o ≡ false) (has_prefix (option_map_or (λ (e : EntryParts). e.prefixes) o []) l ≡ false) (omega arith)
    (λ e. omega arith)

-- the check of the first extlang tells the first of its faults
first_tells : (start : ℕ) (l : List ℕ) (o : Option EntryParts) → Tells (FirstPart start l o) (prefix_check start l o)
first_tells start l None =
    first_left (Single faults.UnknownExtlang (start + 2) (false ≡ false))
    (Single faults.ExtlangPrefix (start + 2) (has_prefix [] l ≡ false)) faults.UnknownExtlang (start + 2)
    (first_precede start l None)
    (single_first faults.UnknownExtlang (start + 2) (false ≡ false) refl)
first_tells start l (Some e) =
    tells_and (Single faults.UnknownExtlang (start + 2) (true ≡ false))
    (Single faults.ExtlangPrefix (start + 2) (has_prefix e.prefixes l ≡ false)) (Ok tt)
    (unless (has_prefix e.prefixes l) faults.ExtlangPrefix (start + 2)) (first_precede start l (Some e))
    (λ k p f. let bad : true ≡ false = f.cause in cc)
    (tells_unless (has_prefix e.prefixes l) faults.ExtlangPrefix (start + 2))

-- the list has a subtag: there is a further extlang
abbrev pub HasMore : List (List ℕ) → Type 0
HasMore rest = (y : List ℕ) × (ys : List (List ℕ)) × (rest ≡ y ∷ ys)

-- the fault of a core that has a second extlang; `rest` are the extlangs after the first
abbrev pub SecondPart : ℕ → List (List ℕ) → ValidFaultKind → ℕ → Type 0
SecondPart start rest = Single faults.TooManyExtlangs (start + 3) (HasMore rest)

-- the check that there is no second extlang tells the fault that there is one
second_tells : (start : ℕ) (rest : List (List ℕ)) → Tells (SecondPart start rest) (second_check start rest)
second_tells start [] = λ k p f. let bad : [] ≡ f.cause.0 ∷ f.cause.1 = f.cause.2 in cc
second_tells start (y ∷ ys) = single_first faults.TooManyExtlangs (start + 3) (HasMore (y ∷ ys)) (y, ys, refl)

-- the faults that the extlangs of a core may have, where the core begins after `start` subtags
abbrev pub ExtlangsPart : List EntryParts → ℕ → List ℕ → List (List ℕ) → ValidFaultKind → ℕ → Type 0
ExtlangsPart R start l [] k p = ⊥
ExtlangsPart R start l (x ∷ rest) k p = FirstPart start l (entry R kinds.Extlang x) k p ⊎ SecondPart start rest k p

-- the check of the extlangs tells the first of their faults, each of which is at the place of an extlang
extlangs_part : (R : List EntryParts) (start : ℕ) (l : List ℕ) (xs : List (List ℕ))
    → Part (start + 1) (start + 1 + length xs) (ExtlangsPart R start l xs) (extlangs_check R start l xs)
extlangs_part R start l [] = part_none (start + 1) (start + 1 + 0) (ExtlangsPart R start l []) (λ k p f. f)
extlangs_part R start l (x ∷ rest) =
    part_then {m = start + 2} {i = start + 2}
    (record {
      past = λ k p f. elim f [ inl g ↦ omega (arith, g.placed) | inr g ↦ omega (arith, g.placed) ];
      upto = λ k p f. elim f [ inl g ↦ omega (arith, g.placed) | inr g ↦ omega (arith, g.placed) ];
      tells = first_tells start l (entry R kinds.Extlang x);
    })
    (record {
      past = λ k p f. omega (arith, f.placed);
      upto = λ k p f. omega (arith, f.placed, ap length f.cause.2);
      tells = second_tells start rest;
    })
    (omega arith) (omega arith) (omega arith)

-- the core has a script or a region (`o`), and it isn't registered
abbrev pub IsUnknownPart : List EntryParts → Kind → Option (List ℕ) → Type 0
IsUnknownPart R kind o = (s : List ℕ) × (o ≡ Some s) × (is_registered R kind s ≡ false)

-- the check of a script or a region tells its fault
part_tells : (R : List EntryParts) (kind : Kind) (fault : ValidFaultKind) (at : ℕ) (o : Option (List ℕ))
    → Tells (Single fault at (IsUnknownPart R kind o)) (part_check R kind fault at o)
part_tells R kind fault at None = λ k p f. let bad : None ≡ Some f.cause.0 = f.cause.1 in cc
part_tells R kind fault at (Some s) =
    tells_same (Single fault at (is_registered R kind s ≡ false)) (Single fault at (IsUnknownPart R kind (Some s)))
    (unless (is_registered R kind s) fault at)
    (single_same fault at (is_registered R kind s ≡ false) (IsUnknownPart R kind (Some s)) (λ h. (s, refl, h))
    (λ h. let e : s ≡ h.0 = cc in ap (is_registered R kind) e ∙ h.2))
    (tells_unless (is_registered R kind s) fault at)

-- the check of a script or a region that may be at the place after `m` tells its fault, which is at that place
registered_part : (R : List EntryParts) (kind : Kind) (fault : ValidFaultKind) (m : ℕ) (o : Option (List ℕ))
    → Part m (m + length (option_to_list o)) (Single fault (m + 1) (IsUnknownPart R kind o)) (part_check R kind fault
    (m + 1) o)
registered_part R kind fault m o = record {
  past = λ k p f. omega (arith, f.placed);
  upto = λ k p f. omega (arith, ap (λ z. length (option_to_list z)) f.cause.1, f.placed);
  tells = part_tells R kind fault (m + 1) o;
}

-- all the faults of the core `c`, which begins after `start` subtags, part by part; `r` is whether variants may repeat
module _ (R : List EntryParts) (r : Bool) (start : ℕ) (c : CoreParts) where
  -- the fault that the script may have
  abbrev pub ScriptPart : ValidFaultKind → ℕ → Type 0
  ScriptPart = Single faults.UnknownScript (start + before_script c + 1) (IsUnknownPart R kinds.Script c.script)

  -- the fault that the region may have
  abbrev pub RegionPart : ValidFaultKind → ℕ → Type 0
  RegionPart = Single faults.UnknownRegion (start + before_region c + 1) (IsUnknownPart R kinds.Region c.region)

  -- the faults that the variants may have
  abbrev pub VariantsPart : ValidFaultKind → ℕ → Type 0
  VariantsPart = VariantFault R r (start + before_variants c + 1) [] c.variants

  -- the faults that the parts of the core have
  abbrev pub CorePart : ValidFaultKind → ℕ → Type 0
  CorePart = Or (LanguagePart R start c.language)
      (Or (ExtlangsPart R start c.language c.extlangs) (Or ScriptPart (Or RegionPart VariantsPart)))

  -- the check of a core tells the first fault of its parts, and each of these is at the place of one of the core's
  -- subtags
  parts : Part start (start + before_variants c + length c.variants) CorePart (core_check R r start c)
  unfolding core_check
  parts =
      part_then {m = start + 1}
      (record {
        past = λ k p f. omega (arith, f.placed);
        upto = λ k p f. omega (arith, f.placed);
        tells = tells_unless (is_registered R kinds.Language c.language) faults.UnknownLanguage (start + 1);
      })
      (part_then (extlangs_part R start c.language c.extlangs)
      (part_then (registered_part R kinds.Script faults.UnknownScript (start + before_script c) c.script)
      (part_then (registered_part R kinds.Region faults.UnknownRegion (start + before_region c) c.region)
      (variants_part R r (start + before_variants c) [] c.variants)
      (omega arith) (omega arith) (omega arith)) (omega arith) (omega arith) (omega arith)) (omega arith) (omega arith)
      (omega arith)) (omega arith) (omega arith) (omega arith)

  -- the faults of the core that count, as `HasCoreFault` states them; DuplicateVariant does only if variants may not
  -- repeat
  abbrev pub CoreFault : ValidFaultKind → ℕ → Type 0
  CoreFault = Counted r (HasCoreFault R start c)

  -- a fault that is not DuplicateVariant counts
  of_kind : (k l : ValidFaultKind) (p : ℕ) → k ≡ l → l ≢ faults.DuplicateVariant → HasCoreFault R start c l p → CoreFault k p
  of_kind k l p e ne h = (subst (λ z. HasCoreFault R start c z p) (sym e) h, λ t f. ne (sym e ∙ f))

  -- a fault of the extlangs, as their check tells it, is one of the core that counts
  extlang_shown : (xs : List (List ℕ)) → c.extlangs ≡ xs → (k : ValidFaultKind) (p : ℕ)
      → ExtlangsPart R start c.language xs k p → CoreFault k p
  extlang_shown [] e k p f = absurd f
  extlang_shown (x ∷ rest) e k p (inl (inl f)) = of_kind k faults.UnknownExtlang p f.kinded (λ w. cc) (x, rest, e, f.placed, f.cause)
  extlang_shown (x ∷ rest) e k p (inl (inr f)) = of_kind k faults.ExtlangPrefix p f.kinded (λ w. cc) (x, rest, e, f.placed, f.cause)
  extlang_shown (x ∷ rest) e k p (inr f) = of_kind k faults.TooManyExtlangs p f.kinded (λ w. cc)
      (x, f.cause.0, f.cause.1, e ∙ ap (λ ys. x ∷ ys) f.cause.2, f.placed)

  -- a fault of a variant, as its check tells it, is one of the core that counts
  variant_shown : (k : ValidFaultKind) (p : ℕ) → IsVariantAt R r (start + before_variants c + 1) [] c.variants k p → CoreFault k p
  variant_shown k p at = by at.fault
    where
      by : VariantHead R r (start + before_variants c + 1 + length at.front) at.front at.variant k p → CoreFault k p
      by (inl u) =
          of_kind k faults.UnknownVariant p u.kinded (λ w. cc) (at.front, at.variant, at.after, at.there, omega (arith, u.placed), u.cause)
      by (inr u) =
          let again = repeats r (stands_in at.front at.variant) u.cause in
          let two = stands_at at.front at.variant again.1 in
          let split : c.variants ≡ two.0 ++ at.variant ∷ (two.1 ++ at.variant ∷ at.after) = at.there
          ∙ ap (λ ws. ws ++ at.variant ∷ at.after) two.2
          ∙ append_assoc two.0 (at.variant ∷ two.1) (at.variant ∷ at.after) in
          let long : length at.front ≡ length two.0 + length (at.variant ∷ two.1) = ap length two.2
          ∙ length-append two.0 (at.variant ∷ two.1) in
          let fault : HasCoreFault R start c faults.DuplicateVariant p = (
            two.0,
            at.variant,
            two.1,
            at.after,
            split,
            omega (arith, u.placed, long),
          ) in
          (subst (λ z. HasCoreFault R start c z p) (sym u.kinded) fault, λ t f. let bad : true ≡ false = sym t ∙ again.0 in cc)

  -- a fault of a part, as the check tells it, is one of the core that counts
  part_shown : (k : ValidFaultKind) (p : ℕ) → CorePart k p → CoreFault k p
  part_shown k p (inl f) = of_kind k faults.UnknownLanguage p f.kinded (λ w. cc) (f.placed, f.cause)
  part_shown k p (inr (inl f)) = extlang_shown c.extlangs refl k p f
  part_shown k p (inr (inr (inl f))) = of_kind k faults.UnknownScript p f.kinded (λ w. cc) (f.cause.0, f.cause.1, f.placed, f.cause.2)
  part_shown k p (inr (inr (inr (inl f)))) = of_kind k faults.UnknownRegion p f.kinded (λ w. cc) (f.cause.0, f.cause.1, f.placed, f.cause.2)
  part_shown k p (inr (inr (inr (inr f)))) = variant_shown k p (variants_shown R r (start + before_variants c + 1) [] c.variants k p f)

  -- a fault of the extlangs is one of the core's parts
  in_extlangs : (xs : List (List ℕ)) (k : ValidFaultKind) (p : ℕ) → c.extlangs ≡ xs → ExtlangsPart R start c.language xs k p → CorePart k p
  in_extlangs xs k p e f = inr (inl (subst (λ z. ExtlangsPart R start c.language z k p) (sym e) f))

  -- a fault of the variants is one of the core's parts
  in_variants : (vs : List (List ℕ)) (k : ValidFaultKind) (p : ℕ) → c.variants ≡ vs
      → VariantFault R r (start + before_variants c + 1) [] vs k p → CorePart k p
  in_variants vs k p e f = inr (inr (inr (inr (subst (λ z. VariantFault R r (start + before_variants c + 1) [] z k p) (sym e) f))))

  -- a fault of the core that counts is one of its parts, as the check tells it
  part_hidden : (k : ValidFaultKind) (p : ℕ) → CoreFault k p → CorePart k p
  part_hidden faults.UnknownLanguage p (h, n) = inl (record { kinded = refl; placed = h.0; cause = h.1 })
  part_hidden faults.UnknownExtlang p (h, n) = in_extlangs (h.0 ∷ h.1) faults.UnknownExtlang p h.2
      (inl (inl (record { kinded = refl; placed = h.3; cause = h.4 })))
  part_hidden faults.ExtlangPrefix p (h, n) = in_extlangs (h.0 ∷ h.1) faults.ExtlangPrefix p h.2
      (inl (inr (record { kinded = refl; placed = h.3; cause = h.4 })))
  part_hidden faults.TooManyExtlangs p (h, n) = in_extlangs (h.0 ∷ h.1 ∷ h.2) faults.TooManyExtlangs p h.3
      (inr (record { kinded = refl; placed = h.4; cause = (h.1, h.2, refl) }))
  part_hidden faults.UnknownScript p (h, n) = inr (inr (inl (record { kinded = refl; placed = h.2; cause = (h.0, h.1, h.3) })))
  part_hidden faults.UnknownRegion p (h, n) = inr (inr (inr (inl (record { kinded = refl; placed = h.2; cause = (h.0, h.1, h.3) }))))
  part_hidden faults.UnknownVariant p (h, n) =
      in_variants (h.0 ++ h.1 ∷ h.2) faults.UnknownVariant p h.3
      (variants_hidden R r (start + before_variants c + 1) [] h.0 h.1 h.2 faults.UnknownVariant p
      (inl (record { kinded = refl; placed = omega (arith, h.4); cause = h.5 })))
  part_hidden faults.DuplicateVariant p (h, n) =
      let split : c.variants ≡ (h.0 ++ h.1 ∷ h.2) ++ h.1 ∷ h.3 = h.4 ∙ sym (append_assoc h.0 (h.1 ∷ h.2) (h.1 ∷ h.3)) in
      let long : length (h.0 ++ h.1 ∷ h.2) ≡ length h.0 + length (h.1 ∷ h.2) = length-append h.0 (h.1 ∷ h.2) in
      let cause = repeated r (stands_in (h.0 ++ h.1 ∷ h.2) h.1) (false_from_ne_true r (λ t. n t refl)) (stands_there h.0 h.2 h.1) in
      in_variants ((h.0 ++ h.1 ∷ h.2) ++ h.1 ∷ h.3) faults.DuplicateVariant p split
      (variants_hidden R r (start + before_variants c + 1) [] (h.0 ++ h.1 ∷ h.2) h.1 h.3 faults.DuplicateVariant p
      (inr (record { kinded = refl; placed = omega (arith, h.5, long); cause = cause })))
  part_hidden _ p (h, n) = absurd h

  -- the check of the core tells the first of its faults that count
  pub core_tells : Tells CoreFault (core_check R r start c)
  core_tells = tells_same CorePart CoreFault (core_check R r start c) (record { there = part_shown; back = part_hidden }) parts.tells

  -- each fault of the core is at a place after `start`
  pub core_past : Past start CoreFault
  core_past k p f = parts.past k p (part_hidden k p f)

  -- no fault of the core is past its last subtag
  pub core_upto : Upto (start + before_variants c + length c.variants) CoreFault
  core_upto k p f = parts.upto k p (part_hidden k p f)

-- The faults of one extension.

-- how many subtags a core has: those before its variants, and these
pub length_core : (c : CoreParts) → length (spell_core c) ≡ before_variants c + length c.variants
length_core c =
    let a = length-append c.extlangs (option_to_list c.script ++ (option_to_list c.region ++ c.variants)) in
    let b = length-append (option_to_list c.script) (option_to_list c.region ++ c.variants) in
    let d = length-append (option_to_list c.region) c.variants in
    omega (arith, a, b, d)

-- the extension `e`, whose singleton is at the place `here`; `r` is whether variants may repeat
module _ (R : List EntryParts) (r : Bool) (here : ℕ) (e : ExtensionParts) where
  -- the faults of the extension that count; DuplicateVariant does only if variants may not repeat
  abbrev pub ExtensionFault : ValidFaultKind → ℕ → Type 0
  ExtensionFault = Counted r (HasExtensionFault R here e)

  -- the faults of a `t` extension with a source are those of the source
  same_source : (parts : TForm) (source : CoreParts) → e.singleton ≡ transform → IsTransform e.subtags parts
      → parts.source ≡ Some source → SameFaults (CoreFault R r here source) ExtensionFault
  same_source parts source t formed there = record {
    there = λ k p f. (inr (source, record { transforms = t; parts = parts; formed = formed; there = there }, f.0), f.1);
    back = λ k p f. (by k p f.0, f.1);
  }
    where
      by : (k : ValidFaultKind) (p : ℕ) → HasExtensionFault R here e k p → HasCoreFault R here source k p
      by k p (inl bad) = absurd (bad.2.formless parts formed)
      by k p (inr other) =
          let same : parts ≡ other.1.parts = t_unique e.subtags parts other.1.parts formed other.1.formed in
          let one : Some source ≡ Some other.0 = sym there ∙ ap (λ (z : TForm). z.source) same ∙ other.1.there in
          subst (λ (z : CoreParts). HasCoreFault R here z k p) (sym (same_Some source other.0 one)) other.2

  -- a `t` extension that has parts, and among them no source, has no fault
  no_source : (parts : TForm) → IsTransform e.subtags parts → parts.source ≡ None → (k : ValidFaultKind) (p : ℕ) → ExtensionFault k p → ⊥
  no_source parts formed there k p (inl bad, n) = bad.2.formless parts formed
  no_source parts formed there k p (inr other, n) =
      let same : parts ≡ other.1.parts = t_unique e.subtags parts other.1.parts formed other.1.formed in
      let bad : None ≡ Some other.0 = sym there ∙ ap (λ (z : TForm). z.source) same ∙ other.1.there in cc

  -- the check of the source of a `t` extension, if there is one (`o`), tells the first fault of the extension
  pub source_tells : (parts : TForm) (o : Option CoreParts) → e.singleton ≡ transform → IsTransform e.subtags parts
      → parts.source ≡ o → Tells ExtensionFault (source_check R r here o)
  source_tells parts None t formed there = no_source parts formed there
  source_tells parts (Some source) t formed there =
      tells_same (CoreFault R r here source) ExtensionFault (core_check R r here source)
      (same_source parts source t formed there) (core_tells R r here source)

-- a fault of an extension whose singleton is at `here` is BadTransform at this place, or is at the place of one of its
-- subtags
pub fault_at : (R : List EntryParts) (here : ℕ) (e : ExtensionParts) (k : ValidFaultKind) (p : ℕ)
    → HasExtensionFault R here e k p → ((k ≡ faults.BadTransform) × (p ≡ here))
    ⊎ ((here < p) × (p ≤ here + length e.subtags))
fault_at R here e k p (inl bad) = inl (bad.0, bad.1)
fault_at R here e k p (inr other) =
    let h : CoreFault R false here other.0 k p = (other.2, λ t z. cc) in
    let past = core_past R false here other.0 k p h in
    let upto = core_upto R false here other.0 k p h in
    let long = length_core other.0 in
    let spelling = length-append (spell_source other.1.parts.source) (flat_map spell_field other.1.parts.fields) in
    let short : length (spell_source other.1.parts.source) ≡ length (spell_core other.0) =
    ap (λ o. length (spell_source o)) other.1.there in
    let spelled : length (spell_t other.1.parts) ≡ length e.subtags = ap length other.1.formed.spelled in
    inr (past, omega (arith, upto, long, spelling, short, spelled))
