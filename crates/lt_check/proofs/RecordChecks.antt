-- What the tests of C4, C6 and C7 on one record compare, and that this decides the condition. A language is *final* if
-- it is registered and has no value.
use Rattle.std.proofs.Common.{◌≡◌, ◌↔◌, ℕ, ◌<◌, ◌==◌, Bool, true, false, List, [], ◌∷◌, length, Option, Some, refl, sym}
use Rattle.std.proofs.Common.{ap, ◌∙◌, subst, arith, IsTrue, All, bytes_eq}
use Rattle.std.specs.Prelude.{slice_index_or}
use Rattle.std.specs.List.{list_all}
use Rattle.std.proofs.lemmas.List.Elements.{All-from_recursion, recursion_from_All}
use Rattle.std.proofs.lemmas.Slice.Eq.{bytes_eq-Decides}
use Rattle.lt_tag.specs.PlainLangTags.{IsPlainLangTag}
use Rattle.lt_registry.specs.Parts.{EntryParts}
use Rattle.lt_registry.specs.Entries.{preferred_value, one_of, is_short}
use Rattle.lt_registry.specs.declared.entries.Kind.TheVariants as kinds
use Rattle.lt_rewrite.specs.CoreSteps.{EndsIn}
use Rattle.lt_rewrite.specs.Conditions.{IsFinalLanguage, HasFinalPrefixes, HasLangtagPrefixes}
use Rattle.lt_rewrite.proofs.Chains.{same_end}
use Rattle.lt_check.specs.RecordChecks.{is_final, is_final_prefix, EndAlike}
use Rattle.lt_check.proofs.Deciding.{Decides-each}
use Rattle.std.specs.Bool.{Decides}
use Rattle.std.proofs.lemmas.Bool.Decides.{Decides-like}
use Rattle.lt_tag.specs.Parts.{CoreParts}
use Rattle.lt_tag.specs.Spelling.{spell_core, IsCore}
use Rattle.lt_tag.specs.WellFormed.{IsNotGrandfathered}

-- a chain of values has one end
pub one_end : (f : List ℕ → Option (List ℕ)) (s d e : List ℕ) → EndsIn f s d → EndsIn f s e → d ≡ e
one_end f s d e h k = sym h.1 ∙ same_end f h.0 k.0 s (ap f h.1 ∙ h.2) (ap f k.1 ∙ k.2) ∙ k.1

-- `d` and `e` are the ends of the chains of the languages `s` and `t`, and `b` is whether they are equal: it tells
-- whether the chains end alike
pub ends_compared : (R : List EntryParts) (s t d e : List ℕ) (b : Bool) → EndsIn (preferred_value R kinds.Language) s d
    → EndsIn (preferred_value R kinds.Language) t e → b ≡ bytes_eq d e → IsTrue b ↔ EndAlike R s t
ends_compared R s t d e b h k same =
    let f = preferred_value R kinds.Language in (
      (λ x. let p : d ≡ e = (bytes_eq-Decides d e).0 (sym same ∙ x) in (d, h, subst (EndsIn f t) (sym p) k)),
      (λ a. same ∙ (bytes_eq-Decides d e).1 (one_end f s d a.0 h a.1 ∙ one_end f t a.0 e a.2 k)),
    )

-- the test decides whether a language is registered and has no value
final_decided : (R : List EntryParts) (l : List ℕ) → Decides (is_final R l) (IsFinalLanguage R l)
final_decided R l = (
  (λ h. record { registered = grind arith; final = grind arith }),
  (λ k. let r = k.registered in
      let n = k.final in grind arith),
)

-- a Prefix is one subtag, a registered language without a value
abbrev OneFinal : List EntryParts → List (List ℕ) → Type 0
OneFinal R p = (l : List ℕ) × (p ≡ l ∷ []) × IsFinalLanguage R l

-- the test of a Prefix decides whether it is one subtag, a registered language without a value
one_final_decided : (R : List EntryParts) (p : List (List ℕ)) → Decides (is_final_prefix R p) (OneFinal R p)
one_final_decided R (l ∷ []) =
    Decides-like (is_final R l) (λ h. (l, refl, h)) (λ k. let a = k.1 in let e : k.0 ≡ l = cc in
    subst (IsFinalLanguage R) e k.2) (final_decided R l)
one_final_decided R _ = ((λ h. cc), (λ k. let a = k.1 in cc))

-- of a variant with a language value and Prefixes: `b`, whether each Prefix is a final language, tells whether it meets
-- C6
pub beside_compared : (R : List EntryParts) (e : EntryParts) (v : List ℕ) (b : Bool) → e.kind ≡ kinds.Variant
    → one_of e.value ≡ Some v → is_short v ≡ true → (length e.prefixes == 0) ≡ false
    → b ≡ list_all (is_final_prefix R) e.prefixes → IsTrue b ↔ HasFinalPrefixes R e
beside_compared R e v b k o s n same =
    let each = Decides-each (OneFinal R) (is_final_prefix R) (one_final_decided R) e.prefixes in (
      (λ x _ _ _ _. (
        (λ none. let z : (length e.prefixes == 0) ≡ true = ap (λ (ps : List (List (List ℕ))). length ps == 0) none in
            cc),
        each.0 (sym same ∙ x),
      )),
      (λ h. same ∙ each.1 (h k v o s).1),
    )

-- the Prefixes of a variant

-- a Prefix is well-formed as a core, and no grandfathered tag
abbrev LangtagPrefix : List (List ℕ) → Type 0
LangtagPrefix p = (c : CoreParts) × IsCore c × (spell_core c ≡ p) × IsNotGrandfathered p

-- of a variant: `b`, whether each Prefix is a langtag and a core alone, tells whether it meets C7
pub langtags_compared : (R : List EntryParts) (e : EntryParts) (b : Bool) → e.kind ≡ kinds.Variant → IsTrue b
    ↔ All IsPlainLangTag e.prefixes → IsTrue b ↔ HasLangtagPrefixes R e
langtags_compared R e b k h = (
  (λ t _. recursion_from_All LangtagPrefix e.prefixes (λ i d n. let l = h.0 t i d n in (l.core, l.shaped, l.spelled, l.other))),
  (λ all. h.1 (λ i d n. let l = All-from_recursion LangtagPrefix e.prefixes (all k) i d n in
      record { core = l.0; shaped = l.1; spelled = l.2; other = l.3 })),
)

-- each Prefix before index `i` is a langtag and a core alone
abbrev pub PlainBefore : List (List (List ℕ)) → ℕ → Type 0
PlainBefore ps i = (k : ℕ) (d : List (List ℕ)) → k < i → IsPlainLangTag (slice_index_or ps k d)
