-- After an upgrade from a registry `A` to a newer one `B`, valid tags stay valid and equivalent tags equivalent, and an
-- older canonical form comes to what its tag comes to (`upgrade_keeps`). For this, each step by the older registry is
-- shown to keep the *end form* by the newer, which is where steps lead when no more can be made. A VariantLanguage step
-- drops a variant and puts its value, a language, in place of the tag's language.
use Rattle.std.proofs.Common.{◌≡◌, ℕ, Bool, true, false, ◌&&◌, cond, List, [], ◌∷◌, length, Option, Some, None, refl}
use Rattle.std.proofs.Common.{sym, ap, ◌∙◌, subst, ◌==◌, is_some, inl, inr, ◌+◌, All, arith, ◌⊎◌, find, ◌++◌, map, zero}
use Rattle.std.proofs.Common.{suc, take, drop, Contains, option_map}
use Rattle.std.specs.List.{AllByRecursion}
use Rattle.std.specs.Option.{option_or, unwrap_or}
use Rattle.std.proofs.lemmas.Bool.{and_parts, and_from, eqb-true, eq-eqb}
use Rattle.std.proofs.lemmas.Slice.Eq.{bytes_eq-Decides}
use Rattle.lt_registry.specs.Parts.{EntryParts}
use Rattle.lt_registry.specs.Entries.{preferred_value, one_of, is_registered, language_value, has_prefix, letters_le}
use Rattle.lt_registry.specs.Entries.{whole_value, NumbersRise, is_named, holds, prefixes, variant_value, replacement}
use Rattle.lt_registry.specs.Same.{same_kind}
use Rattle.lt_registry.specs.declared.entries.Kind.{Kind}
use Rattle.lt_registry.specs.declared.entries.EntryName.{EntryName}
use Rattle.lt_rewrite.specs.CoreSteps.{language_beside, CoreStep, IsCoreNormalForm}
use Rattle.lt_rewrite.specs.Conditions.{next_value, HasNoRangeValue}
use Rattle.lt_upgrade.specs.Upgrade.{SameEnd, IsCovered, StaysRegistered, KeepsKind, KeepsEnds, IsSameExtlang}
use Rattle.lt_upgrade.specs.Upgrade.{IsSameVariantLanguage, HadVariantLanguage, MeetInCanonical, KeepsExtlang, Upgrades}
use Rattle.lt_upgrade.specs.Upgrade.{KeepsVariantLanguage, KeepsWhole}
use Rattle.lt_rewrite.proofs.Entries.{same_kind_itself, IsEntryOf, entry_has, prefixes_at, entry_of, ValuedEntry}
use Rattle.lt_rewrite.proofs.Entries.{valued, valued_has, variant_value_is, language_value_is, variant_language_is}
use Rattle.std.proofs.lemmas.List.Elements.{All-contains, All-contains_itself, Contains-append_left}
use Rattle.std.proofs.lemmas.List.Elements.{Contains-append_right, Contains-append_cases, All-from_recursion}
use Rattle.std.proofs.lemmas.List.Elements.{recursion_from_All}
use Rattle.lt_tag.specs.Parts.{TagForm, CoreParts, ExtensionParts, LangTag, TForm}
use Rattle.lt_tag.specs.Values.{core_alone}
use Rattle.lt_registry.specs.Validity.{IsProper, IsValid, RepeatsNoVariant, ExtlangsFit, IsProperCore}
use Rattle.lt_registry.specs.Validity.{IsProperExtension, HasProperParts, Distinct}
use Rattle.lt_rewrite.specs.TagSteps.{CanBeReplacedWhole, IsReached, TagStep, on_core, on_extensions, on_whole, AreEquivalent}
use Rattle.lt_check.specs.Conditions.{IsChecked}
use Rattle.lt_check.proofs.CheckedRegistry.{valued_whole, whole_has, tag_plain}
use Rattle.lt_canon.proofs.EndForms.{star_end, end_equivalent, equivalent_sym, star_equivalent}
use Rattle.lt_canon.proofs.TagForm.{core_end, tag_end, end_form, extension_end, extensions_end, extensions_end_formed}
use Rattle.lt_canon.proofs.TagForm.{extensions_step_from, extensions_step_to, lang_end_some, or_value, cores_formed}
use Rattle.lt_canon.proofs.TagForm.{value_end, tag_reached}
use Rattle.lt_canon.proofs.TagRepeats.{repeats_at_end, form_is_end, repeat_together}
use Rattle.lt_rewrite.specs.Rewriting.{Equivalent, same as no_steps, forth, back}
use Rattle.std.proofs.lemmas.Option.{IfSome_then}
use Rattle.std.proofs.lemmas.Cmp.{nat_list_cmp_total}
use Rattle.lt_subtag.specs.Shapes.{is_alphabetic}
use Rattle.lt_tag.proofs.TagLemmas.{AllByRecursion-weaker}
use Rattle.lt_rewrite.proofs.Forms.{registered_entry, ExtlangEntry, extlang_entry, replacement_at}
use Rattle.lt_rewrite.proofs.CoreSteps.{each_step, by_extlang, by_language, by_script, by_region, by_variant, by_variant_language}
use Rattle.lt_rewrite.proofs.CoreForms.{one_end_one_form}
use Rattle.std.proofs.lemmas.List.{map-append}
use Rattle.lt_rewrite.specs.Extensions.{on_source, on_fields, ExtensionStep, in_unicode, in_transform, ExtensionsStep}
use Rattle.lt_rewrite.specs.Extensions.{inside, among, singleton_cmp}
use Rattle.lt_rewrite.proofs.PartLists.{all_middle, empty_middle, all_swapped}
use Rattle.lt_rewrite.proofs.ExtensionForms.{extension_formed, one_by_one, same_source}
use Rattle.lt_tag.proofs.PartsLaws.{t_unique as one_transform}
use Rattle.lt_rewrite.proofs.ProperTags.{source_proper}
use Rattle.lt_registry.proofs.ListLemmas.{whole_turn}
use Rattle.lt_registry.specs.Faults.{HasSource}
use Rattle.lt_rewrite.specs.Orderings.{ListStep, by_swap, by_drop}
use Rattle.lt_rewrite.proofs.NormalForms.{form_is_normal, normal_is_form, star_keeps}
use Rattle.lt_canon.specs.Answers.{IsRepeatOfCore, IsRepeatOfSource, IsNamedRepeat, IsCanonicalFormOf}
use Rattle.lt_canon.proofs.Distinctness.{second_repeats}
use Rattle.lt_upgrade.specs.Laws.{UpgradeKeepsTags}
use Rattle.lt_check.proofs.OwnNames.{least}
use Rattle.lt_registry.specs.declared.entries.Kind.TheVariants as kinds
use Rattle.lt_registry.specs.declared.entries.EntryName.TheVariants as names
use Rattle.lt_upgrade.specs.declared.conditions.UpgradeCondition.TheVariants as upgrades
use Rattle.lt_upgrade.proofs.RangeCoverage.{further, letters_compared}
use Rattle.lt_upgrade.proofs.UpgradeChecks.{canonical_end}

-- the order of letters is transitive
letters_trans : (a b c : List ℕ) → letters_le a b ≡ true → letters_le b c ≡ true → letters_le a c ≡ true
letters_trans a b c h k = sym (letters_compared a c)
    ∙ further nat_list_cmp_total a b c (letters_compared a b ∙ h) (letters_compared b c ∙ k)

-- a range of the registry that holds a subtag registers it
by_range : (B : List EntryParts) → NumbersRise B → (k : Kind) (s : List ℕ) (f : EntryParts) → Contains B f → f.kind ≡ k
    → holds s f.name ≡ true → is_registered B k s ≡ true
by_range B rising k s f g e h =
    let test : EntryParts → Bool = λ x. same_kind x.kind k && holds s x.name in
    elim (find (λ (x : EntryParts). same_kind x.kind k && is_named s x.name) B) as (λ o.
    is_some (option_or o (find test B)) ≡ true) [
      | None ↦ ap is_some
          (least test B rising f g.0 g.1 g.2 (and_from (same_kind f.kind k) (holds s f.name) (ap (λ x. same_kind x k) e
          ∙ same_kind_itself k) h)).1
      | Some _ ↦ refl
    ]

module _ (A B : List EntryParts) (CA : IsChecked A) (CB : IsChecked B) (U : Upgrades A B) where
  -- a subtag that the older record `e` names, by itself or in a range, is registered in the newer registry
  stays_at : (k : Kind) (s : List ℕ) (e : EntryParts) → StaysRegistered B e → e.kind ≡ k → (n : EntryName) → e.name ≡ n
      → (is_named s n ≡ true) ⊎ (holds s n ≡ true) → is_registered B k s ≡ true
  stays_at k s e has ek (names.Single t) eq (inl h) =
      ap (λ x. is_registered B x s) (sym ek) ∙ ap (is_registered B e.kind) (sym ((bytes_eq-Decides t s).0 h)) ∙ has.single t eq
  stays_at k s e has ek (names.Range a b) eq (inr h) =
      let r : IsCovered B e.kind a b = has.range a b eq in
      let p = and_parts (length s == length a) (is_alphabetic s && (letters_le a s && letters_le s b)) h in
      let q = and_parts (is_alphabetic s) (letters_le a s && letters_le s b) p.1 in
      let m = and_parts (letters_le a s) (letters_le s b) q.1 in
      by_range B CB.registry.rising k s r.entry r.there (r.of_kind ∙ ek)
      (rw (
        r.range,
        eq-eqb (length s) (length r.low) (eqb-true (length s) (length a) p.0 ∙ sym r.one_length),
        q.0,
        letters_trans r.low a s r.from m.0,
        letters_trans s b r.high m.1 r.to,
      ) refl)
  stays_at k s e has ek _ eq (inl h) = cc
  stays_at k s e has ek _ eq (inr h) = cc

  -- a subtag that is registered in the older registry is registered in the newer one (U1)
  stays : (k : Kind) (s : List ℕ) → is_registered A k s ≡ true → is_registered B k s ≡ true
  stays k s h =
      let en = registered_entry A k s h in
      let has : StaysRegistered B en.0 × IsEntryOf k s en.0 = entry_has A k s (StaysRegistered B) (U upgrades.StaysRegistered) en.0 en.1 in
      stays_at k s en.0 has.0 has.1.of_kind en.0.name refl has.1.names

  -- an extlang of the older registry is the same in the newer one (U3)
  same_extlang : (x : List ℕ) (en : ExtlangEntry A x) → IsSameExtlang B en.at x
  same_extlang x en =
      let has : KeepsExtlang B en.at × IsEntryOf kinds.Extlang x en.at = entry_has A kinds.Extlang x (KeepsExtlang B)
      (U upgrades.SameExtlang) en.at en.found in
      has.0 x has.1.of_kind (en.fits.single ∙ ap names.Single en.same)

  -- extlangs that fit a language by the older registry fit it by the newer
  fit_stays : (l : List ℕ) (xs : List (List ℕ)) → ExtlangsFit A l xs → ExtlangsFit B l xs
  fit_stays l [] h = tt
  fit_stays l (x ∷ []) h =
      let en : ExtlangEntry A x = extlang_entry A CA.passes.core_conditions x h.0 in
      let k : IsSameExtlang B en.at x = same_extlang x en in (
        stays kinds.Extlang x h.0,
        ap (λ ps. has_prefix ps l) (prefixes_at B kinds.Extlang x k.newer k.there ∙ k.prefixes
            ∙ sym (prefixes_at A kinds.Extlang x en.at en.found)) ∙ h.1,
      )
  fit_stays l (x ∷ y ∷ r) h = h

  -- a core that is proper by the older registry is proper by the newer
  core_stays : (c : CoreParts) → IsProperCore A c → IsProperCore B c
  core_stays c P = record {
    language = stays kinds.Language c.language P.language;
    extlangs = fit_stays c.language c.extlangs P.extlangs;
    script = IfSome_then c.script P.script (stays kinds.Script);
    region = IfSome_then c.region P.region (stays kinds.Region);
    variants = AllByRecursion-weaker (λ s. is_registered A kinds.Variant s ≡ true)
        (λ s. is_registered B kinds.Variant s ≡ true) (stays kinds.Variant) c.variants P.variants;
  }

  -- an extension that is proper by the older registry is proper by the newer
  extension_stays : (e : ExtensionParts) → IsProperExtension A e → IsProperExtension B e
  extension_stays e P h = let m = P h in (m.0, m.1, IfSome_then m.0.source m.2 core_stays)

  -- a tag with proper parts by the older registry has them by the newer
  parts_stay : (t : TagForm) → HasProperParts A t → HasProperParts B t
  parts_stay (LangTag c es ps) P = record {
    core = core_stays c P.core;
    extensions = AllByRecursion-weaker (IsProperExtension A) (IsProperExtension B) extension_stays es P.extensions;
    singletons = P.singletons;
  }
  parts_stay _ P = tt

  -- a tag that is proper by the older registry is proper by the newer
  proper_stays : (t : TagForm) → IsProper A t → IsProper B t
  proper_stays t P = record { tag = P.tag; parts = parts_stay t P.parts }

  -- a tag that is valid by the older registry is valid by the newer
  valid_stays : (t : TagForm) → IsValid A t → IsValid B t
  valid_stays t V = record { proper = proper_stays t V.proper; distinct = V.distinct }

  -- ---- an old core step keeps the new core normal form

  -- an entry with a value names one subtag

  -- an entry of the subtag `s` that names no range names just `s`
  has_name : (s : List ℕ) (n : EntryName) → ((a b : List ℕ) → n ≡ names.Range a b → ⊥) → (is_named s n ≡ true)
      ⊎ (holds s n ≡ true) → n ≡ names.Single s
  has_name s (names.Single t) h (inl e) = ap names.Single ((bytes_eq-Decides t s).0 e)
  has_name s (names.Range a b) h k = absurd (h a b refl)
  has_name s _ h (inl e) = cc
  has_name s _ h (inr e) = cc

  -- an entry with a value names a single subtag, since a range has none (C12)
  valued_single : (R : List EntryParts) → IsChecked R → (k : Kind) (s v : List ℕ) (n : ValuedEntry R k s v) → n.at.name ≡ names.Single s
  valued_single R C k s v n =
      has_name s n.at.name (λ a b e.
      cc (ap one_of (valued_has R k s v HasNoRangeValue (C.passes.no_range_value) n a b e), n.gives))
      (entry_of R k s n.at n.found).names

  -- where the chains from `s` and `t` end in one subtag, the cores that differ in that subtag, `at s` and `at t`, have
  -- one core normal form; a step `f` on the subtag must be a step on the core
  one_form : (f : List ℕ → Option (List ℕ)) (at : List ℕ → CoreParts)
      → ((s t : List ℕ) → f s ≡ Some t → CoreStep B (at s) (at t)) → (s t : List ℕ) → SameEnd f s t
      → core_end B CB (at s) ≡ core_end B CB (at t)
  one_form f at step s t h = one_end_one_form B CB.passes.core_conditions f at step s t h.end h.left h.right

  -- where the chains from the languages `a` and `b` end in one, cores that differ in them have one core normal form
  language_same : (c : CoreParts) (a b : List ℕ) → SameEnd (preferred_value B kinds.Language) a b → c.extlangs ≡ []
      → core_end B CB (record c { language = a }) ≡ core_end B CB (record c { language = b })
  language_same c a b h alone = one_form (preferred_value B kinds.Language) (λ u. record c { language = u })
      (λ s t e. by_language B (record c { language = s }) t alone e) a b h

  -- a variant with the language value `m` in the older registry keeps it in the newer one (U4)
  same_variant_language : (v m : List ℕ) → language_value A v ≡ Some m → (n : ValuedEntry A kinds.Variant v m)
      → IsSameVariantLanguage B n.at v m
  same_variant_language v m h n =
      valued_has A kinds.Variant v m (KeepsVariantLanguage B) (U upgrades.SameVariantLanguage) n v m n.of_kind
      (valued_single A CA kinds.Variant v m n) n.gives (language_value_is A v m h).1

  -- where a variant beside the language `l` has a VariantLanguage step to `m` by the older registry, it has one by the
  -- newer, to a language with the same end
  variant_language_both : (l v m : List ℕ) → language_beside A l v ≡ Some m → (w : List ℕ)
      × (language_beside B l v ≡ Some w) × SameEnd (preferred_value B kinds.Language) m w
  variant_language_both l v m h =
      let t = variant_language_is A l v m h in
      let n : ValuedEntry A kinds.Variant v m = valued A kinds.Variant v m (language_value_is A v m t.1).0 in
      let k : IsSameVariantLanguage B n.at v m = same_variant_language v m t.1 n in
      let listed : has_prefix (prefixes B kinds.Variant v) l ≡ true = k.prefixes l
      ∙ ap (λ ps. has_prefix ps l) (sym (prefixes_at A kinds.Variant v n.at n.found)) ∙ t.0 in
      (k.newer, ap (λ b. cond b (language_value B v) None) listed ∙ k.has, k.ends)

  -- where a registered variant `u` beside the language `l` has no VariantLanguage step by the older registry, it has
  -- none by the newer (U5)
  variant_language_back : (l u : List ℕ) → is_registered A kinds.Variant u ≡ true → language_beside A l u ≡ None
      → language_beside B l u ≡ None
  variant_language_back l u r h = (elim (language_beside B l u) as (λ o. language_beside B l u ≡ o → o ≡ None) [
    | None ↦ λ found. refl
    | Some w ↦ λ found.
        let t = variant_language_is B l u w found in
        let p = language_value_is B u w t.1 in
        let m : ValuedEntry B kinds.Variant u w = valued B kinds.Variant u w p.0 in
        let x = valued_has B kinds.Variant u w (HadVariantLanguage A) (U upgrades.NoNewVariantLanguage) m u w m.of_kind
        (valued_single B CB kinds.Variant u w m) m.gives p.1 r in
        let n : ValuedEntry A kinds.Variant u x.0 = valued A kinds.Variant u x.0 (language_value_is A u x.0 x.1).0 in
        let listed : has_prefix (prefixes A kinds.Variant u) l ≡ true =
        ap (λ ps. has_prefix ps l) (prefixes_at A kinds.Variant u n.at n.found)
        ∙ sym ((same_variant_language u x.0 x.1 n).prefixes l) ∙ t.0 in
        let some : language_beside A l u ≡ Some x.0 = ap (λ b. cond b (language_value A u) None) listed ∙ x.1 in
        cc
  ]) refl

  -- where none of the variants `before` others has a VariantLanguage step by the older registry, none has one by the
  -- newer
  variant_languages_back : (l : List ℕ) (before after : List (List ℕ))
      → AllByRecursion (λ v. is_registered A kinds.Variant v ≡ true) (before ++ after)
      → AllByRecursion (λ u. language_beside A l u ≡ None) before
      → AllByRecursion (λ u. language_beside B l u ≡ None) before
  variant_languages_back l [] after r h = tt
  variant_languages_back l (u ∷ us) after r h = (variant_language_back l u r.0 h.0, variant_languages_back l us after r.1 h.1)

  -- the chains from a subtag and from its older value of the same kind end in one (U2)
  value_same : (k : Kind) (s v : List ℕ) → KeepsKind k v → preferred_value A k s ≡ Some v → SameEnd (next_value B k) s v
  value_same k s v keeps h =
      let n : ValuedEntry A k s v = valued A k s v h in
      subst (λ k. SameEnd (next_value B k) s v) n.of_kind
      (valued_has A k s v (KeepsEnds B) (U upgrades.SameEnds) n s v (valued_single A CA k s v n) n.gives
      (subst (λ k. KeepsKind k v) (sym n.of_kind) keeps))

  -- a core step by the older registry keeps the core normal form by the newer
  old_core_step : (c d : CoreParts) → IsProperCore A c → CoreStep A c d → core_end B CB c ≡ core_end B CB d
  old_core_step c d P = each_step A c (λ d. core_end B CB c ≡ core_end B CB d) (record {
    extlang = λ x one.
        let en : ExtlangEntry A x = extlang_entry A CA.passes.core_conditions x (subst (ExtlangsFit A c.language) one P.extlangs).0 in
        let k : IsSameExtlang B en.at x = same_extlang x en in
        (cores_formed B CB).kept c (record c { language = replacement B x; extlangs = [] }) (by_extlang B c x one)
        ∙ ap (λ u. core_end B CB (record c { language = u; extlangs = [] })) (replacement_at B x k.newer k.there)
        ∙ sym (language_same (record c { extlangs = [] }) (unwrap_or (one_of en.at.value) x)
        (unwrap_or (one_of k.newer.value) x) k.ends refl)
        ∙ ap (λ u. core_end B CB (record c { language = u; extlangs = [] })) (sym (replacement_at A x en.at en.found));
    language = λ v none has. language_same c c.language v (value_same kinds.Language c.language v tt has) none;
    script = λ a v there has.
        ap (λ o. core_end B CB (record c { script = o })) there
        ∙ one_form (preferred_value B kinds.Script) (λ u. record c { script = Some u }) (λ s t e. by_script B
        (record c { script = Some s }) s t refl e) a v (value_same kinds.Script a v tt has);
    region = λ a v there has.
        ap (λ o. core_end B CB (record c { region = o })) there
        ∙ one_form (preferred_value B kinds.Region) (λ u. record c { region = Some u }) (λ s t e. by_region B
        (record c { region = Some s }) s t refl e) a v (value_same kinds.Region a v tt has);
    variant = λ before v w after there has.
        let p = variant_value_is A v w has in
        ap (λ vs. core_end B CB (record c { variants = vs })) there
        ∙ one_form (variant_value B) (λ u. record c { variants = before ++ u ∷ after }) (λ s t e. by_variant B
        (record c { variants = before ++ s ∷ after }) before s t after refl e) v w
        (value_same kinds.Variant v w p.1 p.0);
    variant_language = λ before v m after none there has leftmost.
        let k = variant_language_both c.language v m has in
        let r : AllByRecursion (λ v. is_registered A kinds.Variant v ≡ true) (before ++ v ∷ after) = subst
        (AllByRecursion (λ v. is_registered A kinds.Variant v ≡ true)) there P.variants in
        let left : CoreParts = record c { variants = before ++ after } in
        (cores_formed B CB).kept c (record left { language = k.0 })
        (by_variant_language B c before v k.0 after none there k.1
        (variant_languages_back c.language before (v ∷ after) r leftmost))
        ∙ sym (language_same left m k.0 k.2 none);
  }) d

  -- ---- an old step keeps the new end form

  -- a step on an extension by the older registry keeps the normal form of the extension by the newer
  old_extension_step : (e f : ExtensionParts) → IsProperExtension A e → ExtensionStep A e f → extension_end B CB e ≡ extension_end B CB f
  old_extension_step e f P (in_unicode p q is_u kept from to s) =
      (extension_formed B CB.registry CB.passes.core_conditions).kept e f (in_unicode p q is_u kept from to s)
  old_extension_step e f P (in_transform p q is_t kept from to (on_source c d begins ends k same_fields)) =
      let source : option_map (core_end B CB) p.source ≡ option_map (core_end B CB) q.source =
      rw (begins, ends, old_core_step c d (source_proper A e p c P is_t from begins) k) refl in
      same_source B CB.registry CB.passes.core_conditions e f p q is_t (kept ∙ is_t) from to source (sym same_fields)
  old_extension_step e f P (in_transform p q is_t kept from to (on_fields a k)) =
      (extension_formed B CB.registry CB.passes.core_conditions).kept e f
      (in_transform p q is_t kept from to (on_fields a k))

  -- a step on extensions by the older registry keeps their normal form by the newer
  old_extensions_step : (es fs : List ExtensionParts) → AllByRecursion (IsProperExtension A) es → ExtensionsStep A es fs
      → extensions_end B CB es ≡ extensions_end B CB fs
  old_extensions_step es fs P (inside before e f after there result s) =
      let one : extension_end B CB e ≡ extension_end B CB f = old_extension_step e f
      (all_middle (IsProperExtension A) before e after (subst (AllByRecursion (IsProperExtension A)) there P)) s in
      ap (extensions_end B CB) there
      ∙ one_by_one B CB.registry CB.passes.core_conditions (before ++ e ∷ after) (before ++ f ∷ after)
      (map-append (extension_end B CB) before (e ∷ after)
      ∙ ap (λ x. map (extension_end B CB) before ++ x ∷ map (extension_end B CB) after) one
      ∙ sym (map-append (extension_end B CB) before (f ∷ after)))
      ∙ sym (ap (extensions_end B CB) result)
  old_extensions_step es fs P (among s) = (extensions_end_formed B CB).kept es fs (among s)

  -- a step on a tag by the older registry keeps the end form by the newer
  old_step : (t u : TagForm) → TagStep A t u → tag_end B CB t ≡ tag_end B CB u
  old_step t u s = elim s.change [
    | on_core c d es ps from to k ↦
        rw (from, to, old_core_step c d (subst (HasProperParts A) from s.from.parts).core k) refl
    | on_extensions c es fs ps from to k ↦
        let d = core_end B CB c in
        rw (from, to)
        (lang_end_some B CB d es ps (extensions_step_from A es fs k)
        ∙ ap (λ l. LangTag d l ps) (old_extensions_step es fs (subst (HasProperParts A) from s.from.parts).extensions k)
        ∙ sym (lang_end_some B CB d fs ps (extensions_step_to A es fs k)))
    | on_whole _ has ↦
        let w = valued_whole A t u has in
        let m : MeetInCanonical B t u = whole_has A t u (KeepsWhole B) (U upgrades.SameWhole) w t u w.named w.gives in
        star_end (end_form B CB) m.left ∙ sym (star_end (end_form B CB) m.right)
  ]

  -- tags that are equivalent by the older registry have one end form by the newer
  old_equivalent : {t u : TagForm} → Equivalent (TagStep A) t u → tag_end B CB t ≡ tag_end B CB u
  old_equivalent no_steps = refl
  old_equivalent (forth {a = a} {b = b} s r) = old_step a b s ∙ old_equivalent r
  old_equivalent (back {a = a} {b = b} s r) = sym (old_step b a s) ∙ old_equivalent r

  -- ---- the variant that a refusal of a newer registry names is one for a tag and for its old canonical form

  -- after two extensions of a list change places, the list still has each of its extensions
  swap_keeps : (es fs : List ExtensionParts) → ListStep false singleton_cmp es fs → All (Contains fs) es
  swap_keeps es fs (by_swap before a b after s) =
      All-from_recursion (Contains fs) es
      (subst (AllByRecursion (Contains fs)) (sym s.there)
      (all_swapped (Contains fs) before b a after
      (subst (AllByRecursion (Contains fs)) s.result
      (recursion_from_All (Contains fs) fs (All-contains_itself fs)))))
  swap_keeps es fs (by_drop before a between b after o s) = cc

  -- the extension has a source that repeats `v` in its core normal form by the newer registry
  record Carries (v : List ℕ) (e : ExtensionParts) : Type 0 where
    source : CoreParts
    has_source : HasSource e source
    repeat : IsRepeatOfCore B source v

  -- where `c` and `d` have one core normal form, what is that of `c` is that of `d`
  normal_moves : (c d f : CoreParts) → core_end B CB c ≡ core_end B CB d → IsCoreNormalForm B c f → IsCoreNormalForm B d f
  normal_moves c d f e n =
      subst (λ x. IsCoreNormalForm B d x) (sym e ∙ normal_is_form (cores_formed B CB) c f n) (form_is_normal (cores_formed B CB) d)

  -- cores with one core normal form repeat the same variants there
  repeat_moves : (c d : CoreParts) (v : List ℕ) → core_end B CB c ≡ core_end B CB d → IsRepeatOfCore B c v → IsRepeatOfCore B d v
  repeat_moves c d v e r = record { form = r.form; normal = normal_moves c d r.form e r.normal; second = r.second }

  -- a step by the older registry on an extension whose source repeats `v` keeps that
  carried : (v : List ℕ) (e f : ExtensionParts) → IsProperExtension A e → ExtensionStep A e f → Carries v e → Carries v f
  carried v e f P (in_unicode p q is_u _ _ _ _) k = absurd (omega (arith, k.has_source.transforms, is_u))
  carried v e f P (in_transform p q is_t kept from to (on_source c d begins ends j _)) k =
      let same : k.source ≡ c =
      cc (
        ap (λ (z : TForm). z.source) (sym (one_transform e.subtags k.has_source.parts p k.has_source.formed from))
            ∙ k.has_source.there,
        begins,
      ) in
      record {
        source = d;
        has_source = record { transforms = kept ∙ is_t; parts = q; formed = to; there = ends };
        repeat = repeat_moves c d v (old_core_step c d (source_proper A e p c P is_t from begins) j)
            (subst (λ x. IsRepeatOfCore B x v) same k.repeat);
      }
  carried v e f P (in_transform p q is_t kept from to (on_fields a j)) k =
      let there : p.source ≡ Some k.source =
      ap (λ (z : TForm). z.source) (sym (one_transform e.subtags k.has_source.parts p k.has_source.formed from))
      ∙ k.has_source.there in
      record {
        source = k.source;
        has_source = record {
          transforms = kept ∙ is_t;
          parts = q;
          formed = to;
          there = a
              ∙ there;
        };
        repeat = k.repeat;
      }

  -- a step by the older registry on extensions of which a source repeats `v` keeps that
  source_moves : (v : List ℕ) (es fs : List ExtensionParts) → AllByRecursion (IsProperExtension A) es
      → ExtensionsStep A es fs → IsRepeatOfSource B es v → IsRepeatOfSource B fs v
  source_moves v es fs P s r =
      by s (rw r.there (Contains-append_right r.before (r.extension ∷ r.after) r.extension (0, omega arith, refl)))
      (record { source = r.source; has_source = r.has_source; repeat = r.repeat })
    where
      at : (x : ExtensionParts) → Contains fs x → Carries v x → IsRepeatOfSource B fs v
      at x m c = record {
        before = take m.0 fs;
        extension = x;
        after = drop (m.0 + 1) fs;
        there = whole_turn fs m.0 x m.1 (sym m.2);
        source = c.source;
        has_source = c.has_source;
        repeat = c.repeat;
      }

      inner : (before : List ExtensionParts) (e f : ExtensionParts) (after : List ExtensionParts)
          → IsProperExtension A e → ExtensionStep A e f → fs ≡ before ++ f ∷ after → (x : ExtensionParts)
          → Contains before x ⊎ Contains (e ∷ after) x → Carries v x → IsRepeatOfSource B fs v
      inner before e f after p t is x (inl n) c = at x (rw is (Contains-append_left before (f ∷ after) x n)) c
      inner before e f after p t is x (inr (zero, n, q)) c =
          at f (rw is (Contains-append_right before (f ∷ after) f (0, omega arith, refl)))
          (carried v e f p t (subst (Carries v) (sym q) c))
      inner before e f after p t is x (inr (suc i, n, q)) c = at x (rw is (Contains-append_right before (f ∷ after) x (suc i, n, q))) c

      by : ExtensionsStep A es fs → Contains es r.extension → Carries v r.extension → IsRepeatOfSource B fs v
      by (among t) m c = at r.extension (All-contains (Contains fs) es r.extension (swap_keeps es fs t) m) c
      by (inside before e f after there result t) m c =
          inner before e f after
          (all_middle (IsProperExtension A) before e after (subst (AllByRecursion (IsProperExtension A)) there P)) t
          result r.extension (Contains-append_cases before (e ∷ after) r.extension (rw there at m)) c

  -- `o` is the value of the core `d` alone, if it has one: if the end form repeats no variant, neither does the core
  end_distinct : (d : CoreParts) → (o : Option TagForm) → whole_value B (core_alone d) ≡ o
      → RepeatsNoVariant (or_value (core_alone d) (value_end B CB) o) → Distinct d.variants
  end_distinct d None e h = h.0
  end_distinct d (Some u) e h = elim (tag_plain B CB (core_alone d) u e) [ inl g ↦ let x = g.is in cc | inr g ↦ g.valid.distinct.0 ]

  -- of a tag that can be replaced whole, whose end form repeats no variant, a refusal names no variant
  plain_unnamed : (t : TagForm) (v : List ℕ) → CanBeReplacedWhole t → RepeatsNoVariant (tag_end B CB t) → IsNamedRepeat B t v → ⊥
  plain_unnamed (LangTag c [] []) v p d (inl r) =
      let distinct : Distinct (core_end B CB c).variants = end_distinct (core_end B CB c)
      (whole_value B (core_alone (core_end B CB c))) refl d in
      second_repeats r.form.variants v r.second
      (subst (λ (x : CoreParts). Distinct x.variants) (normal_is_form (cores_formed B CB) c r.form r.normal)
      distinct)
  plain_unnamed (LangTag c [] []) v p d (inr r) = empty_middle r.1.before r.1.extension r.1.after (sym r.1.there)
  plain_unnamed (LangTag c es ps) v p d r = let a = p.0 in let b = p.1 in cc
  plain_unnamed _ v p d r = r

  -- a step by the older registry keeps the variant that a refusal by the newer names
  step_named : (t u : TagForm) (v : List ℕ) → TagStep A t u → IsNamedRepeat B t v → IsNamedRepeat B u v
  step_named t u v s r = elim s.change [
    | on_core c d es ps from to k ↦
        let e : core_end B CB c ≡ core_end B CB d = old_core_step c d (subst (HasProperParts A) from s.from.parts).core k in
        rw to (elim (rw from at r) [
          | inl x ↦ inl (repeat_moves c d v e x)
          | inr x ↦
              inr (
                record { form = x.0.form; normal = normal_moves c d x.0.form e x.0.normal; distinct = x.0.distinct },
                x.1,
              )
        ])
    | on_extensions c es fs ps from to k ↦
        rw to (elim (rw from at r) [
          | inl x ↦ inl x
          | inr x ↦
              inr (x.0, source_moves v es fs (subst (HasProperParts A) from s.from.parts).extensions k x.1)
        ])
    | on_whole is_plain has ↦
        let w = valued_whole A t u has in
        let m : MeetInCanonical B t u = whole_has A t u (KeepsWhole B) (U upgrades.SameWhole) w t u w.named w.gives in
        absurd (plain_unnamed t v is_plain (subst RepeatsNoVariant (sym (canonical_end B CB t m.tag m.canonical m.left))
        m.canonical.valid.distinct) r)
  ]

  -- ---- what an upgrade keeps of tags

  -- a valid tag `u` with the end form of `t` has the canonical form of `t`
  form_moves : (t u c : TagForm) → IsValid B u → tag_end B CB t ≡ tag_end B CB u → IsCanonicalFormOf B t c → IsCanonicalFormOf B u c
  form_moves t u c V e h =
      let end : tag_end B CB u ≡ c = sym e ∙ form_is_end B CB t c h in
      record {
        valid = V;
        canonical = h.canonical;
        reached = subst (IsReached B u) end (tag_reached B CB u V.proper);
        repeats_none = λ r. repeats_at_end B CB u V r (subst RepeatsNoVariant (sym end) h.canonical.valid.distinct);
      }

  -- a tag and its older canonical form have one end form by the newer registry
  ends_meet : (t c : TagForm) → IsCanonicalFormOf A t c → tag_end B CB t ≡ tag_end B CB c
  ends_meet t c h = old_equivalent (star_equivalent h.reached)

  -- a tag and its older canonical form are equivalent by the newer registry
  class_of_form : (t c : TagForm) → IsCanonicalFormOf A t c → AreEquivalent B t c
  class_of_form t c h = end_equivalent (end_form B CB) t c (valid_stays t h.valid).proper
      (valid_stays c h.canonical.valid).proper (ends_meet t c h)

  -- the law of upgrades: valid tags stay valid, equivalent tags equivalent, and an older canonical form comes to what
  -- its tag comes to
  pub upgrade_keeps : UpgradeKeepsTags A B
  upgrade_keeps = record {
    valid = valid_stays;
    equivalent = λ t u P Q e. end_equivalent (end_form B CB) t u (proper_stays t P) (proper_stays u Q) (old_equivalent e);
    form = λ t c d h k. form_moves t c d (valid_stays c h.canonical.valid) (ends_meet t c h) k;
    form_back = λ t c d h k. form_moves c t d (valid_stays t h.valid) (sym (ends_meet t c h)) k;
    repeats = λ t c h r. repeat_together B CB t c (valid_stays t h.valid) (valid_stays c h.canonical.valid) (class_of_form t c h) r;
    repeats_back = λ t c h r. repeat_together B CB c t (valid_stays c h.canonical.valid) (valid_stays t h.valid)
        (equivalent_sym (class_of_form t c h)) r;
    named = λ t c v h r. star_keeps (λ x. IsNamedRepeat B x v) (λ a b s. step_named a b v s) h.reached r;
  }
