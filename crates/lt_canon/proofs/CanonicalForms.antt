-- The canonical form of a tag is the tag with its parts in their normal forms, and then its value as a whole tag, if it
-- has one: so the answers of `canonical` and of the calls over it are right. The extlang form of a canonical tag is
-- valid, and steps lead back from it.
use Rattle.std.proofs.Common.{◌≡◌, ℕ, ◌+◌, ◌<◌, inl, inr, List, [], ◌∷◌, Option, Some, None, refl, sym, ap, ◌∙◌, subst}
use Rattle.std.proofs.Common.{length, arith, Bool, ◌↔◌, IsTrue, ◌≤◌, Err, IfErr, true}
use Rattle.std.specs.Prelude.{Result, unwrap_or}
use Rattle.std.specs.List.{AllByRecursion}
use Rattle.lt_tag.specs.Parts.{CoreParts, ExtensionParts, TForm, TagForm, LangTag}
use Rattle.lt_tag.specs.Extensions.{transform, IsTransform}
use Rattle.lt_tag.proofs.TagLemmas.{AllByRecursion-weaker}
use Rattle.lt_registry.specs.Parts.{EntryParts}
use Rattle.lt_registry.specs.Validity.{IsProperExtension, HasDistinctSource, IsProper, RepeatsNoVariant, IsValid, ExtlangsFit, IsProperCore}
use Rattle.lt_rewrite.specs.Rewriting.{IsNormalForm, done}
use Rattle.lt_rewrite.specs.Extensions.{ExtensionsStep}
use Rattle.lt_rewrite.proofs.NormalForms.{star_keeps, normal_is_form}
use Rattle.lt_rewrite.proofs.PartLists.{some_long}
use Rattle.lt_check.specs.Conditions.{IsChecked, IsValidCoreAlone}
use Rattle.lt_canon.specs.Answers.{IsCanonicalFormOf, RefusesOnlyRepeats}
use Rattle.lt_canon.specs.Settled.{IsDistinctForm, IsReplacedWhole, IsCanonicalAnswer, IsCoreRefusal, IsSettledTag, IsSettledValue}
use Rattle.lt_canon.proofs.TagForm.{core_end, cores_formed, extensions_end_formed, parts_end, parts_reached, replaced}
use Rattle.lt_canon.proofs.TagForm.{tag_reached, end_form, core_spells_none, cores_proper, extensions_step_to}
use Rattle.lt_canon.proofs.TagForm.{step_of_change, lang_end}
use Rattle.lt_rewrite.specs.TagSteps.{on_core, IsReached, IsCanonical, CanBeReplacedWhole}
use Rattle.lt_rewrite.proofs.CoreSteps.{by_extlang, by_language}
use Rattle.lt_rewrite.proofs.CoreForms.{one_end_one_form}
use Rattle.lt_canon.specs.Laws.{EquivalenceIsEqualText, CanonicalTwiceIsOnce, CanonicalTextTwiceIsOnce}
use Rattle.lt_canon.specs.Corollaries.{EquivalenceIsEquality}
use Rattle.lt_canon.proofs.EndForms.{star_proper, rest_is_end}
use Rattle.lt_rewrite.specs.CoreSteps.{IsCoreNormalForm, CoreStep, EndsIn}
use Rattle.std.specs.Ordering.{eq_by_cmp}
use Rattle.lt_tag.specs.WellFormed.{IsNotGrandfathered}
use Rattle.lt_tag.specs.Order.{tag_cmp}
use Rattle.lt_tag.specs.OrderLaws.{same_exactly, tag_total, tags_apart}
use Rattle.lt_tag.specs.Faults.{HasTag}
use Rattle.lt_tag.proofs.OneTagLemmas.{one_tag_of_text, read_again}
use Rattle.lt_canon.specs.Equivalence.{IsEquivalenceAnswer, IsSecondRefusal}
use Rattle.lt_tag.specs.Spelling.{spell_core, IsCore}
use Rattle.lt_tag.specs.Values.{core_of, extensions_of, private_of, core_alone}
use Rattle.lt_registry.proofs.ValidityLaws.{valid_law}
use Rattle.lt_registry.specs.Entries.{whole_value, one_of, preferred_value, prefixes, replacement, is_registered}
use Rattle.lt_canon.specs.Refusals.{NamesFault, NamesRepeat, IsRefusedWith}
use Rattle.lt_canon.specs.declared.refusals.Refusal.{Refusal}
use Rattle.lt_canon.specs.declared.refusals.Refusal.TheVariants as refusals
use Rattle.lt_rewrite.proofs.ProperTags.{proper_parts, proper_langtag}
use Rattle.lt_tag.specs.Lists.{longest_text}
use Rattle.lt_tag.proofs.FaultLemmas.{fault_excludes_tag}
use Rattle.lt_canon.specs.declared.refusals.TextRefusal.{TextRefusal}
use Rattle.lt_canon.specs.declared.refusals.TextRefusal.TheVariants as text_refusals
use Rattle.std.proofs.lemmas.Slice.Eq.{bytes_eq-Decides}
use Rattle.lt_subtag.specs.Shapes.{is_language, is_extlang}
use Rattle.lt_registry.specs.declared.entries.Kind.TheVariants as kinds
use Rattle.lt_rewrite.specs.Laws.{IsProperValue}
use Rattle.lt_rewrite.proofs.Entries.{prefixes_at}
use Rattle.lt_rewrite.proofs.Forms.{ExtlangEntry, extlang_entry, replacement_at}
use Rattle.lt_rewrite.proofs.NameForms.{language_form, extlang_form as extlang_name_form}
use Rattle.lt_canon.specs.ExtlangForm.{prefix_of, behind, extlang_form, IsExtlangFormOf}
use Rattle.lt_canon.specs.ExtlangLaws.{ExtlangFormsLeadBack}
use Rattle.lt_canon.specs.Texts.{IsTextRefusal, RefusesTextOnlyRepeats}
use Rattle.lt_tag.specs.Texts.{text_of}
use Rattle.lt_canon.proofs.RepeatedVariants.{core_repeats, end_canonical, equivalence_is_equality, form_is_end}
use Rattle.lt_canon.proofs.RepeatedVariants.{reached_canonical, same_form_text}

-- if tags are equivalent exactly if their canonical forms are equal, they are so exactly if the texts of these forms
-- are equal
pub text_equality : (R : List EntryParts) → EquivalenceIsEquality R → EquivalenceIsEqualText R
text_equality R E t u c d h k = (
  (λ e. ap text_of (E.equal t u c d h k e)),
  (λ e. E.equivalent t u c h (subst (IsCanonicalFormOf R u) (sym ((same_form_text R t u c d h k).0 e)) k)),
)

-- by a checked registry, tags are equivalent exactly if the texts of their canonical forms are equal
pub equal_texts_tell : (R : List EntryParts) → IsChecked R → EquivalenceIsEqualText R
equal_texts_tell R C = text_equality R (equivalence_is_equality R C)

-- `answer` is whether the canonical forms `c` of `t` and `d` of `u` compare as equal: it tells whether the tags are
-- equivalent, and whether the texts of the forms are equal
pub equivalence_answer : (R : List EntryParts) → EquivalenceIsEquality R → (t u c d : TagForm) (answer : Bool)
    → IsCanonicalFormOf R t c → IsCanonicalFormOf R u d → answer ≡ eq_by_cmp tag_cmp c d
    → IsEquivalenceAnswer R t u answer
equivalence_answer R E t u c d answer h k e =
    let same : IsTrue answer ↔ (c ≡ d) = same_exactly tag_total tags_apart c d answer e in
    let S = same_form_text R t u c d h k in
    record {
      first = c;
      second = d;
      first_form = h;
      second_form = k;
      equivalent = ((λ x. E.equivalent t u c h (rw (same.0 x) k)), (λ x. same.1 (E.equal t u c d h k x)));
      equal = same;
      equal_texts = ((λ x. S.1 (same.0 x)), (λ x. same.1 (S.0 x)));
    }

module _ (R : List EntryParts) (C : IsChecked R) where
  -- a canonical tag is its own canonical form
  own_form : (c : TagForm) → IsCanonical R c → IsCanonicalFormOf R c c
  own_form c K = reached_canonical R C c c K.valid done K.at_rest K.valid.distinct

  -- a tag has one canonical form at most
  forms_equal : (t c d : TagForm) → IsCanonicalFormOf R t c → IsCanonicalFormOf R t d → c ≡ d
  forms_equal t c d h k = sym (form_is_end R C t c h) ∙ form_is_end R C t d k

  -- a canonical form is its own canonical form, and has no other
  pub twice_is_once : CanonicalTwiceIsOnce R
  twice_is_once t c h = (own_form c h.canonical, λ d k. forms_equal c d c k (own_form c h.canonical))

  -- a canonical text, unless it is too long to be read, is its own canonical text, and has no other
  pub text_twice_is_once : CanonicalTextTwiceIsOnce R
  text_twice_is_once text canonical x short =
      let read : HasTag canonical x.form = rw x.written (read_again x.form x.is_form.canonical.valid.proper.tag.tag
      (rw x.written at short)) in
      let own = own_form x.form x.is_form.canonical in (
        record { tag = x.form; read = read; form = x.form; is_form = own; written = x.written },
        (λ other y.
            let k = rw (one_tag_of_text canonical y.tag x.form y.read read) at y.is_form in
            y.written ∙ ap text_of (forms_equal x.form y.form x.form k own) ∙ sym x.written),
      )

-- a tag with a core is the langtag of its core, its extensions and its private use
pub langtag_of : (t : TagForm) (c : CoreParts) → core_of t ≡ Some c → t ≡ LangTag c (extensions_of t) (private_of t)
langtag_of t c h = grind arith

-- a tag without a core has no parts to put into normal forms, so it stays
pub coreless_settled : (R : List EntryParts) (t s : TagForm) → core_of t ≡ None → s ≡ t → IsSettledTag R t s
coreless_settled R t s h e = grind arith

-- the three clauses on a refusal of `canonical` make one: the refusal names the first fault of an invalid tag, or the
-- variant of a valid one that steps can repeat
pub refused : (R : List EntryParts) (t : TagForm) (refusal : Refusal) → NamesFault R t refusal
    → RefusesOnlyRepeats R t refusal → NamesRepeat R t refusal → IsRefusedWith R t refusal
refused R t refusal h k n = grind arith

-- if the first tag `t` has a canonical form `c`, and the second, `u`, is refused, that is the refusal of the pair
pub second_refused : (R : List EntryParts) (t u c : TagForm) (refusal : Refusal) → IsCanonicalFormOf R t c
    → IsRefusedWith R u refusal → IsSecondRefusal R t u refusal
second_refused R t u c refusal h k = record { first = c; first_form = h; refused = k }

-- a valid tag is refused only if steps can repeat a variant of it
pub repeats_answered : (R : List EntryParts) (t : TagForm) (r : Result TagForm Refusal) → IsCanonicalAnswer R t r
    → IfErr r (RefusesOnlyRepeats R t)
repeats_answered R t (Err (refusals.Invalid fault)) h = λ V. (valid_law R t V.proper.tag).0 V fault.kind fault.place h.there
repeats_answered R t (Err (refusals.ReplacementRepeats v)) h = (h.valid, h.repeats)
repeats_answered R t _ h = tt

-- a text is refused only if it is no tag, or not valid, or steps can repeat a variant of it
pub text_repeats_answered : (R : List EntryParts) (text : List ℕ) (refusal : TextRefusal) → IsTextRefusal R text refusal
    → RefusesTextOnlyRepeats R text refusal
text_repeats_answered R text (text_refusals.NotATag fault) h = λ tag t. fault_excludes_tag text fault.kind fault.place tag h t
text_repeats_answered R text (text_refusals.Invalid fault) h =
    (h.tag, h.read, λ V. (valid_law R h.tag V.proper.tag).0 V fault.kind fault.place h.holds.there)
text_repeats_answered R text (text_refusals.ReplacementRepeats v) h = (h.tag, h.read, h.holds.valid, h.holds.repeats)
text_repeats_answered R text text_refusals.OutOfMemory h = tt

-- each `t` extension of a proper tag has the parts of one, as the call that puts extensions into normal form requires
pub transforms_have_parts : (R : List EntryParts) (es : List ExtensionParts) → AllByRecursion (IsProperExtension R) es
    → AllByRecursion (λ (e : ExtensionParts). e.singleton ≡ transform → (p : TForm) × IsTransform e.subtags p) es
transforms_have_parts R es P =
    AllByRecursion-weaker (IsProperExtension R) (λ (e : ExtensionParts). e.singleton ≡ transform → (p : TForm)
    × IsTransform e.subtags p) (λ e h s. let m = h s in (m.0, m.1)) es P

module _ (R : List EntryParts) (C : IsChecked R) where
  -- the core normal form `d` of the core of a proper langtag spells no grandfathered tag
  pub form_spells_none : (c d : CoreParts) (es : List ExtensionParts) (ps : List (List ℕ))
      → IsProper R (LangTag c es ps) → IsCoreNormalForm R c d → IsNotGrandfathered (spell_core d)
  form_spells_none c d es ps P n = core_spells_none R C d (proper_parts R d es ps (cores_proper R C n.reached es ps P)).core

  -- the core normal form `d` of the core `s` of a whole record's value `t` spells no grandfathered tag
  pub value_spells_none : (t : TagForm) (c s d : CoreParts) → IsValidCoreAlone R t → Some c ≡ core_of t → s ≡ c
      → IsCoreNormalForm R s d → IsNotGrandfathered (spell_core d)
  value_spells_none t c s d v h e n =
      let is : t ≡ core_alone s = grind arith in
      form_spells_none s d [] [] (rw is at v.valid.proper) n

  -- a refusal of the core of a valid langtag, for a repeat or for memory, is the answer for the langtag
  pub core_refused : (c : CoreParts) (es : List ExtensionParts) (ps : List (List ℕ)) (refusal : Refusal)
      → IsValid R (LangTag c es ps) → IsCoreRefusal R c refusal → IsCanonicalAnswer R (LangTag c es ps) (Err refusal)
  core_refused c es ps refusal V h = grind (arith, core_repeats R C)

  -- `fs`, the extensions `es` in normal form, are few enough for a tag, since steps from a proper tag lead to proper
  -- ones
  pub form_count : (c d : CoreParts) (es fs : List ExtensionParts) (ps : List (List ℕ)) → IsProper R (LangTag c es ps)
      → IsCoreNormalForm R c d → IsNormalForm (ExtensionsStep R) es fs → length fs ≤ longest_text
  form_count c d es fs ps P n m = (star_proper (end_form R C) (parts_reached R C n.reached m.reached ps P) P).tag.counts.1

  -- a langtag with extensions or private use still has some once its extensions are in their normal form, `fs`
  pub form_some : (es fs : List ExtensionParts) (ps : List (List ℕ)) → IsNormalForm (ExtensionsStep R) es fs
      → 0 < length es + length ps → 0 < length fs + length ps
  form_some es fs ps m h = star_keeps (λ l. 0 < length l + length ps)
      (λ a b s _. omega (arith, some_long b (extensions_step_to R a b s))) m.reached h

  -- if `u` is the value of a valid tag that can be replaced whole, then `r`, which is `u` with its core in core normal
  -- form, is the canonical form of the tag
  pub value_canonical : (t u r : TagForm) → CanBeReplacedWhole t → IsValid R t → whole_value R t ≡ Some u
      → IsSettledValue R u r → IsCanonicalFormOf R t r
  value_canonical t u r h V e s =
      let w = replaced R C t r (inl (record { value = u; plain = h; has = e; settled = s })) in
      reached_canonical R C t r V (w.reached V.proper) (λ a b. w.at_rest (λ n. let none = n h in cc) a b.change) (w.distinct V.distinct)

  -- if `s` is the tag `t` with its parts in their normal forms, without repeats, it is `parts_end` of `t`, and repeats
  -- no variant
  settled_end : (t s : TagForm) → IsSettledTag R t s → (s ≡ parts_end R C t) × RepeatsNoVariant s
  settled_end (LangTag c es ps) s k = (
    rw (
      normal_is_form (cores_formed R C) c k.core k.form.normal,
      normal_is_form (extensions_end_formed R C) es
          k.extensions k.normal,
    ) k.is,
    rw k.is (k.form.distinct, k.distinct),
  )
  settled_end _ s k = (k, rw k tt)

  -- if `s` is the tag `t` with its parts in their normal forms, and `r` is `s` with its value taken, if it has one,
  -- then `r` is the canonical form of `t`
  pub settled_canonical : (t s r : TagForm) → IsValid R t → IsSettledTag R t s → IsReplacedWhole R s r → IsCanonicalFormOf R t r
  settled_canonical t s r V k w = let e = settled_end t s k in end_canonical R C t r V (rw e.0 at e.1) (rw e.0 at w)

  -- the canonical form of a langtag with extensions or private use is that with its core and its extensions in their
  -- normal forms, `d` and `fs`, if these repeat no variant
  pub langtag_canonical : (c d : CoreParts) (es fs : List ExtensionParts) (ps : List (List ℕ))
      → IsValid R (LangTag c es ps) → IsDistinctForm R c d → IsNormalForm (ExtensionsStep R) es fs
      → AllByRecursion HasDistinctSource fs → 0 < length es + length ps
      → IsCanonicalFormOf R (LangTag c es ps) (LangTag d fs ps)
  langtag_canonical c d es fs ps V n m k h =
      settled_canonical (LangTag c es ps) (LangTag d fs ps) (LangTag d fs ps) V
      (record { core = d; extensions = fs; is = refl; form = n; normal = m; distinct = k })
      (inr (record { none = λ p. absurd (omega (arith, form_some es fs ps m h, ap length p.0, ap length p.1)); same = refl }))

-- a core of these parts: language, extlangs, script, region, variants
abbrev pub core : List ℕ → List (List ℕ) → Option (List ℕ) → Option (List ℕ) → List (List ℕ) → CoreParts
core l xs sc re vs = record { language = l; extlangs = xs; script = sc; region = re; variants = vs }

-- `p` is the one Prefix of the language `l` as an extlang, and short enough for an extlang to follow it
pub record IsFittingPrefix (R : List EntryParts) (l p : List ℕ) : Type 0 where
  pub entry : ExtlangEntry R l
  pub one : prefixes R kinds.Extlang l ≡ (p ∷ []) ∷ []
  pub registered : is_registered R kinds.Language p ≡ true
  pub prefix : is_language p ≡ true
  pub short : length p ≤ 3
  pub extlang : is_extlang l ≡ true
  pub found : prefix_of (prefixes R kinds.Extlang l) ≡ Some p

module _ (R : List EntryParts) (C : IsChecked R) where
  -- where a Prefix `p` is found for the extlang `l`, it is its one Prefix, and short enough for an extlang to follow it
  pub fitting_prefix : (l p : List ℕ) → prefix_of (prefixes R kinds.Extlang l) ≡ Some p → IsFittingPrefix R l p
  fitting_prefix l p e =
      let x : ExtlangEntry R l = extlang_entry R C.passes.core_conditions l (grind arith) in
      let found = prefixes_at R kinds.Extlang l x.at x.found in
      let form = language_form R C.registry x.fits.prefix x.fits.final_prefix.registered in
      let extlang = extlang_name_form R C.registry l x in
      grind arith

  -- a canonical langtag has no extlang
  pub no_extlang : (c : TagForm) (d : CoreParts) → IsCanonical R c → core_of c ≡ Some d → d.extlangs ≡ []
  no_extlang c d K h = by d.extlangs refl
    where
      by : (xs : List (List ℕ)) → d.extlangs ≡ xs → xs ≡ []
      by [] e = refl
      by (x ∷ []) e =
          let d' : CoreParts = core (replacement R x) [] d.script d.region d.variants in
          let s : CoreStep R d d' = by_extlang R d x e in
          absurd (K.at_rest (LangTag d' (extensions_of c) (private_of c))
          (step_of_change R C c (LangTag d' (extensions_of c) (private_of c))
          (on_core d d' (extensions_of c) (private_of c) (langtag_of c d h) refl s) K.valid.proper))
      by (x ∷ y ∷ r) e = absurd
          (subst (ExtlangsFit R d.language) e
          (subst (IsProper R) (langtag_of c d h) K.valid.proper).parts.core.extlangs)

  -- a proper langtag with the Prefix put in front of its language is proper
  front_proper : (d : CoreParts) (es : List ExtensionParts) (ps : List (List ℕ)) (p : List ℕ)
      → IsProper R (LangTag d es ps) → IsFittingPrefix R d.language p → IsProper R (LangTag (behind (Some p) d) es ps)
  front_proper d es ps p P f =
      let parts = proper_parts R d es ps P in
      let shaped : IsCore (behind (Some p) d) = grind arith in
      let proper : IsProperCore R (behind (Some p) d) = grind (arith, bytes_eq-Decides) in
      let value : IsProperValue R (behind (Some p) d) = record
      { value = record { shaped = shaped; variants = parts.core.value.variants }; proper = proper } in
      proper_langtag R (behind (Some p) d) es ps (core_spells_none R C (behind (Some p) d) value) assumption

  -- a core without extlangs has the same core normal form with the Prefix `p` of its language put in front
  front_end : (d : CoreParts) (p : List ℕ) → d.extlangs ≡ [] → IsFittingPrefix R d.language p
      → core_end R C (behind (Some p) d) ≡ core_end R C d
  front_end d p none f =
      let l : List ℕ = d.language in
      let x = f.entry in
      let at : List ℕ → CoreParts = λ u. core u [] d.script d.region d.variants in
      let back : unwrap_or (one_of x.at.value) x.fits.subtag ≡ replacement R l =
      ap (unwrap_or (one_of x.at.value)) x.same ∙ sym (replacement_at R l x.at x.found) in
      let Q : List ℕ → Type 0 = λ u. EndsIn (preferred_value R kinds.Language) u x.fits.end in
      (cores_formed R C).kept (behind (Some p) d) (at (replacement R l)) (by_extlang R (behind (Some p) d) l refl)
      ∙ one_end_one_form R C.passes.core_conditions (preferred_value R kinds.Language) at (λ s t e. by_language R (at s) t refl e)
      (replacement R l) l x.fits.end (subst Q back x.fits.replacement_ends) (subst Q x.same x.fits.ends)
      ∙ ap (λ xs. core_end R C (core l xs d.script d.region d.variants)) (sym none)

  -- a canonical langtag with the Prefix `o` that is found for its language, if one is, in front is valid, and steps
  -- lead back from that
  lead_back_at : (d : CoreParts) (es : List ExtensionParts) (ps : List (List ℕ)) → IsCanonical R (LangTag d es ps)
      → (o : Option (List ℕ)) → prefix_of (prefixes R kinds.Extlang d.language) ≡ o
      → IsValid R (LangTag (behind o d) es ps) × IsReached R (LangTag (behind o d) es ps) (LangTag d es ps)
  lead_back_at d es ps K None h = (K.valid, done)
  lead_back_at d es ps K (Some p) h =
      let f = fitting_prefix d.language p h in
      let Q = front_proper d es ps p K.valid.proper f in
      let ends = ap (λ y. lang_end R C y es ps) (front_end d p (no_extlang (LangTag d es ps) d K refl) f)
      ∙ rest_is_end (end_form R C) (LangTag d es ps) K.valid.proper K.at_rest in
      (record { proper = Q; distinct = K.valid.distinct }, rw ends at (tag_reached R C (LangTag (behind (Some p) d) es ps) Q))

  -- each canonical tag is reached from its extlang form, which is valid
  pub forms_lead_back : ExtlangFormsLeadBack R
  forms_lead_back (LangTag d es ps) K = let r = lead_back_at d es ps K (prefix_of (prefixes R kinds.Extlang d.language))
      refl in record { valid = r.0; reached = r.1 }
  forms_lead_back _ K = record { valid = K.valid; reached = done }

-- a tag without a core is its own extlang form
pub coreless_extlang : (R : List EntryParts) (c : TagForm) → core_of c ≡ None → c ≡ extlang_form R c
coreless_extlang R c h = grind arith

-- the extlang form of a langtag is that with the Prefix `o` that is found for its language, if one is, in front
pub extlang_form_is : (R : List EntryParts) (c : TagForm) (d : CoreParts) (o : Option (List ℕ)) → core_of c ≡ Some d
    → prefix_of (prefixes R kinds.Extlang d.language) ≡ o
    → extlang_form R c ≡ LangTag (behind o d) (extensions_of c) (private_of c)
extlang_form_is R c d o h k = ap (extlang_form R) (langtag_of c d h) ∙ ap (λ x. LangTag (behind x d) (extensions_of c) (private_of c)) k

-- a langtag whose language has no Prefix that can be in front is its own extlang form too
pub prefixless_extlang : (R : List EntryParts) (c : TagForm) (d : CoreParts) → Some d ≡ core_of c
    → None ≡ prefix_of (prefixes R kinds.Extlang d.language) → c ≡ extlang_form R c
prefixless_extlang R c d h k = langtag_of c d (sym h) ∙ sym (extlang_form_is R c d None (sym h) (sym k))

module _ (R : List EntryParts) (C : IsChecked R) where
  -- the extlang form of the canonical form `c` of `t` is the extlang form of `t`
  pub extlang_answer : (t c form : TagForm) → IsCanonicalFormOf R t c → form ≡ extlang_form R c → IsExtlangFormOf R t form
  extlang_answer t c form h e =
      let L = forms_lead_back R C c h.canonical in
      let back : IsCanonicalFormOf R (extlang_form R c) c = reached_canonical R C (extlang_form R c) c L.valid L.reached
      h.canonical.at_rest h.canonical.valid.distinct in
      subst (IsExtlangFormOf R t) (sym e) (record { canonical = c; canonical_form = h; is = refl; valid = L.valid; back = back })

  -- a canonical core with the Prefix in front spells no grandfathered tag
  pub front_spells_none : (c : TagForm) (d : CoreParts) (p : List ℕ) → IsCanonical R c → core_of c ≡ Some d
      → prefix_of (prefixes R kinds.Extlang d.language) ≡ Some p → IsNotGrandfathered (spell_core (behind (Some p) d))
  front_spells_none c d p K h k =
      let P = subst (IsProper R) (extlang_form_is R c d (Some p) h k) (forms_lead_back R C c K).valid.proper in
      core_spells_none R C (behind (Some p) d) (proper_parts R (behind (Some p) d) (extensions_of c) (private_of c) P).core
