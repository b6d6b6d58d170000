-- The normal form of an extension (`normal_extension`) and of a list of extensions (`normal_extensions`), under the
-- conditions C1 to C6 (`MeetsCoreConditions`), by which the source of a `t` extension has one. Steps on extensions keep
-- their shapes, and make them no longer.
use Rattle.std.proofs.Common.{◌≡◌, ℕ, ◌≤◌, Bool, true, false, cond, List, refl, sym, ap, ◌∙◌, subst, subst₂, ap₂}
use Rattle.std.proofs.Common.{length, arith, Option, Some, None, ◌==◌}
use Rattle.std.specs.Prelude.{map, option_map}
use Rattle.std.specs.List.{AllByRecursion}
use Rattle.std.specs.Option.{option_map_or}
use Rattle.std.specs.Ordering.{nat_cmp}
use Rattle.std.specs.Cmp.{IsTotalOrder}
use Rattle.std.proofs.lemmas.Cmp.{on_total, nat_cmp_total}
use Rattle.lt_tag.specs.Parts.{UForm, TForm, ExtensionParts}
use Rattle.lt_tag.specs.Extensions.{spell_u, spell_t, IsT, IsTransform, IsUnicode, transform, unicode}
use Rattle.lt_rewrite.specs.Rewriting.{Star, done, IsNormalForm, Rests}
use Rattle.lt_rewrite.specs.Extensions.{UnicodeStep, separator_cmp, TransformStep, singleton_cmp, ExtensionStep}
use Rattle.lt_rewrite.specs.Extensions.{in_unicode, in_transform, ExtensionsStep, inside, among}
use Rattle.lt_rewrite.proofs.NormalForms.{IsFormOf, formed_by, star_map, star_map_while, star_keeps, form_is_normal}
use Rattle.lt_rewrite.proofs.Sorting.{sorted, sorted_reached}
use Rattle.lt_rewrite.proofs.PartSorting.{PartStep, on_part, on_order, parts_are_formed}
use Rattle.lt_rewrite.proofs.PartLists.{all_step, all_middle, all_replaced, length_step, length_replaced}
use Rattle.lt_tag.specs.Spelling.{IsExtension}
use Rattle.lt_registry.specs.Parts.{EntryParts}
use Rattle.lt_rewrite.proofs.CoreForms.{normal_core}
use Rattle.lt_rewrite.proofs.CoreLaws.{step_shaped}
use Rattle.lt_tag.specs.Splitting.{unicode_of, transform_of}
use Rattle.lt_tag.proofs.PartsLaws.{u_decided, t_decided}
use Rattle.lt_tag.proofs.PartsLaws.{u_unique as one_unicode, t_unique as one_transform}
use Rattle.std.proofs.lemmas.Bool.{eqb-true, eqb-false}
use Rattle.lt_tag.specs.Values.{IsExtensionValue}
use Rattle.lt_tag.proofs.PartsLemmas.{u_is_extension, t_is_extension}
use Rattle.lt_registry.specs.Entries.{IsRegistry}
use Rattle.lt_rewrite.specs.Orderings.{ListStep}
use Rattle.lt_rewrite.specs.Conditions.{MeetsCoreConditions}
use Rattle.lt_rewrite.proofs.PartForms.{t_form, t_formed, t_shaped, t_step_length, u_form, u_formed, u_shaped, u_step_length, with_source}

-- the order of extensions by their singletons is total
pub singleton_total : IsTotalOrder singleton_cmp
singleton_total = on_total (λ (e : ExtensionParts). e.singleton) nat_cmp_total

-- the extension of a singleton and the subtags after it
abbrev pub extension : ℕ → List (List ℕ) → ExtensionParts
extension singleton subtags = record { singleton = singleton; subtags = subtags }

-- if `q` is the normal form of the parts `p` of an extension, the extension that `q` spells is the normal form of the
-- extension that `p` spells. `Is` says which parts subtags have, `spell` spells them, and the steps inside the
-- extension are those on its parts.
parts_settled : (R : List EntryParts) (n : ℕ) {F : Type 0} (Step : F → F → Type 0) (spell : F
    → List (List ℕ)) (Is : List (List ℕ) → F → Type 0) → ((s : List (List ℕ)) (p q : F) → Is s p → Is s q → p ≡ q)
    → ((p q : F) → Step p q → Is (spell p) p → Is (spell q) q)
    → ((p q : F) → Step p q → Is (spell p) p → Is (spell q) q → ExtensionStep R (extension n (spell p)) (extension n (spell q)))
    → ((s : List (List ℕ)) (f : ExtensionParts) → ExtensionStep R (extension n s) f → (p q : F) × Is s p × Step p q)
    → (p q : F) → Is (spell p) p → IsNormalForm Step p q → IsNormalForm (ExtensionStep R) (extension n (spell p)) (extension n (spell q))
parts_settled R n Step spell Is one keeps enter parts p q k N = record {
  reached = star_map_while (λ x. Is (spell x) x) (λ x. extension n (spell x)) keeps enter N.reached k;
  at_rest = λ f s.
      let t = parts (spell q) f s in
      N.at_rest t.1 (subst (λ x. Step x t.1) (one (spell q) t.0 q t.2 (star_keeps (λ x. Is (spell x) x) keeps N.reached k)) t.3);
}

-- a step inside a `u` extension is a step on the parts of its subtags
from_unicode : (R : List EntryParts) (s : List (List ℕ)) (f : ExtensionParts) → ExtensionStep R (extension unicode s) f
    → (p q : UForm) × IsUnicode s p × UnicodeStep p q
from_unicode R s f (in_unicode p q _ _ from _ t) = (p, q, from, t)
from_unicode R s f (in_transform p q is_t _ _ _ _) = absurd (omega (arith, is_t))

-- if `q` is the normal form of the parts of a `u` extension, the extension that `q` spells is the normal form of the
-- extension
pub unicode_settled : (R : List EntryParts) (e : ExtensionParts) (p q : UForm) → e.singleton ≡ unicode
    → IsUnicode e.subtags p → IsNormalForm UnicodeStep p q
    → IsNormalForm (ExtensionStep R) e (extension unicode (spell_u q))
unicode_settled R e p q u k n =
    subst (λ x. IsNormalForm (ExtensionStep R) x (extension unicode (spell_u q))) (ap₂ extension (sym u) k.spelled)
    (parts_settled R unicode UnicodeStep spell_u IsUnicode one_unicode
    (λ a b s i. record { shaped = u_shaped a b s i.shaped; spelled = refl })
    (λ a b s i j. in_unicode a b refl refl i j s) (from_unicode R) p q
    (record { shaped = k.shaped; spelled = refl }) n)

-- a step inside a `t` extension is a step on the parts of its subtags
from_transform : (R : List EntryParts) (s : List (List ℕ)) (f : ExtensionParts)
    → ExtensionStep R (extension transform s) f → (p q : TForm) × IsTransform s p × TransformStep R p q
from_transform R s f (in_unicode p q is_u _ _ _ _) = absurd (omega (arith, is_u))
from_transform R s f (in_transform p q _ _ from _ t) = (p, q, from, t)

-- if `q` is the normal form of the parts of a `t` extension, the extension that `q` spells is the normal form of the
-- extension
pub transform_settled : (R : List EntryParts) → IsRegistry R → (e : ExtensionParts) (p q : TForm)
    → e.singleton ≡ transform → IsTransform e.subtags p → IsNormalForm (TransformStep R) p q
    → IsNormalForm (ExtensionStep R) e (extension transform (spell_t q))
transform_settled R G e p q u k n =
    subst (λ x. IsNormalForm (ExtensionStep R) x (extension transform (spell_t q))) (ap₂ extension (sym u) k.spelled)
    (parts_settled R transform (TransformStep R) spell_t IsTransform one_transform
    (λ a b s i. record { shaped = t_shaped R (step_shaped R G) a b s i.shaped; spelled = refl })
    (λ a b s i j. in_transform a b refl refl i j s) (from_transform R) p q
    (record { shaped = k.shaped; spelled = refl }) n)

-- no step leads from an extension, if none leads from it in case it is a `u` extension, and none in case it is a `t`
-- extension: there are no steps in others
pub each_rests : (R : List EntryParts) (e : ExtensionParts) → (e.singleton ≡ unicode → Rests (ExtensionStep R) e)
    → (e.singleton ≡ transform → Rests (ExtensionStep R) e) → Rests (ExtensionStep R) e
each_rests R e u t f (in_unicode p q is_u kept from to s) = u is_u f (in_unicode p q is_u kept from to s)
each_rests R e u t f (in_transform p q is_t kept from to s) = t is_t f (in_transform p q is_t kept from to s)

-- a step on extensions is a step inside one of them, or one on their order, as a step on a list of parts
pub to_part : (R : List EntryParts) (es fs : List ExtensionParts) → ExtensionsStep R es fs
    → PartStep (ExtensionStep R) false singleton_cmp es fs
to_part R es fs (inside before e f after there result s) = on_part before e f after there result s
to_part R es fs (among s) = on_order s

-- a step on a list of parts, inside one of the extensions or on their order, is a step on extensions
from_part : (R : List EntryParts) (es fs : List ExtensionParts) → PartStep (ExtensionStep R) false singleton_cmp es fs
    → ExtensionsStep R es fs
from_part R es fs (on_part before e f after a b s) = inside before e f after a b s
from_part R es fs (on_order s) = among s

-- a normal form by the steps on parts is one by the steps on extensions
pub from_normal : (R : List EntryParts) (es fs : List ExtensionParts)
    → IsNormalForm (PartStep (ExtensionStep R) false singleton_cmp) es fs → IsNormalForm (ExtensionsStep R) es fs
from_normal R es fs n = record { reached = star_map (λ l. l) (from_part R) n.reached; at_rest = λ gs s. n.at_rest gs (to_part R fs gs s) }

module _ (R : List EntryParts) (G : IsRegistry R) (C : MeetsCoreConditions R) where
  -- the subtags of the normal form of a `u` extension, from its parts; its own subtags if they have no such parts
  abbrev u_subtags : Option UForm → List (List ℕ) → List (List ℕ)
  u_subtags o s = option_map_or (λ (p : UForm). spell_u (u_form p)) o s

  -- the subtags of the normal form of a `t` extension, from its parts; its own subtags if they have no such parts
  abbrev t_subtags : Option TForm → List (List ℕ) → List (List ℕ)
  t_subtags o s = option_map_or (λ (p : TForm). spell_t (t_form R C p)) o s

  -- the subtags of an extension's normal form, by whether it is a `u` and whether it is a `t` extension, and by its
  -- subtags
  abbrev subtags_form : Bool → Bool → List (List ℕ) → List (List ℕ)
  subtags_form u t s = cond u (u_subtags (unicode_of s) s) (cond t (t_subtags (transform_of s) s) s)

  -- the normal form of an extension, under the conditions C1 to C6
  pub normal_extension : ExtensionParts → ExtensionParts
  normal_extension e = extension e.singleton (subtags_form (e.singleton == unicode) (e.singleton == transform) e.subtags)

  -- the normal form of a `u` extension with the parts `p` is what the normal form of `p` spells
  unicode_form : (e : ExtensionParts) (p : UForm) → e.singleton ≡ unicode → IsUnicode e.subtags p
      → normal_extension e ≡ extension unicode (spell_u (u_form p))
  unfolding normal_extension
  unicode_form e p h k =
      ap (λ n. normal_extension (extension n e.subtags)) h
      ∙ ap (λ o. extension unicode (u_subtags o e.subtags)) ((u_decided e.subtags p).1 k)

  -- the normal form of a `t` extension with the parts `p` is what the normal form of `p` spells
  transform_form : (e : ExtensionParts) (p : TForm) → e.singleton ≡ transform → IsTransform e.subtags p
      → normal_extension e ≡ extension transform (spell_t (t_form R C p))
  unfolding normal_extension
  transform_form e p h k =
      ap (λ n. normal_extension (extension n e.subtags)) h
      ∙ ap (λ o. extension transform (t_subtags o e.subtags)) ((t_decided e.subtags p).1 k)

  -- a step inside an extension keeps its normal form
  extension_kept : (e f : ExtensionParts) → ExtensionStep R e f → normal_extension e ≡ normal_extension f
  extension_kept e f (in_unicode p q is_u kept from to s) =
      unicode_form e p is_u from ∙ ap (λ p. extension unicode (spell_u p)) (u_formed.kept p q s) ∙ sym (unicode_form f q (kept ∙ is_u) to)
  extension_kept e f (in_transform p q is_t kept from to s) =
      transform_form e p is_t from ∙ ap (λ p. extension transform (spell_t p)) ((t_formed R C).kept p q s)
      ∙ sym (transform_form f q (kept ∙ is_t) to)

  -- `u_subtags` gives the normal form of a `u` extension, whether its subtags `s` have parts (`o`) or not
  unicode_normal : (s : List (List ℕ)) (o : Option UForm) → unicode_of s ≡ o
      → IsNormalForm (ExtensionStep R) (extension unicode s) (extension unicode (u_subtags o s))
  unicode_normal s None e = record {
    reached = done;
    at_rest = λ f t. let at = from_unicode R s f t in let found = (u_decided s at.0).1 at.2 in cc;
  }
  unicode_normal s (Some p) e = unicode_settled R (extension unicode s) p (u_form p) refl ((u_decided s p).0 e) (form_is_normal u_formed p)

  -- `t_subtags` gives the normal form of a `t` extension, whether its subtags `s` have parts (`o`) or not
  transform_normal : (s : List (List ℕ)) (o : Option TForm) → transform_of s ≡ o
      → IsNormalForm (ExtensionStep R) (extension transform s) (extension transform (t_subtags o s))
  transform_normal s None e = record {
    reached = done;
    at_rest = λ f t. let at = from_transform R s f t in let found = (t_decided s at.0).1 at.2 in cc;
  }
  transform_normal s (Some p) e = transform_settled R G (extension transform s) p (t_form R C p) refl
      ((t_decided s p).0 e) (form_is_normal (t_formed R C) p)

  -- `subtags_form` gives the normal form of the extension of the singleton `n` and the subtags `s`
  normal_at : (n : ℕ) (s : List (List ℕ)) (u t : Bool) → (n == unicode) ≡ u → (n == transform) ≡ t
      → IsNormalForm (ExtensionStep R) (extension n s) (extension n (subtags_form u t s))
  normal_at n s true t a b =
      subst (λ m. IsNormalForm (ExtensionStep R) (extension m s) (extension m (u_subtags (unicode_of s) s)))
      (sym (eqb-true n unicode a)) (unicode_normal s (unicode_of s) refl)
  normal_at n s false true a b =
      subst (λ m. IsNormalForm (ExtensionStep R) (extension m s) (extension m (t_subtags (transform_of s) s)))
      (sym (eqb-true n transform b)) (transform_normal s (transform_of s) refl)
  normal_at n s false false a b = record {
    reached = done;
    at_rest = each_rests R (extension n s) (λ h. absurd (eqb-false n unicode a h)) (λ h. absurd (eqb-false n transform b h));
  }

  -- `normal_extension` gives the normal form: each step keeps it, steps reach it, and none leads from it
  pub extension_formed : IsFormOf (ExtensionStep R) normal_extension
  unfolding normal_extension
  extension_formed =
      formed_by extension_kept (λ e. normal_at e.singleton e.subtags (e.singleton == unicode) (e.singleton == transform) refl refl)

  -- the normal form of an extension has its singleton
  pub normal_singleton : (e : ExtensionParts) → (normal_extension e).singleton ≡ e.singleton
  unfolding normal_extension
  normal_singleton e = refl

  -- the normal form of a list of extensions, under the conditions C1 to C6
  pub normal_extensions : List ExtensionParts → List ExtensionParts
  normal_extensions es = sorted false singleton_cmp (map normal_extension es)

  -- `normal_extensions` gives the normal form: each step keeps it, steps reach it, and none leads from it
  pub extensions_formed : IsFormOf (ExtensionsStep R) normal_extensions
  unfolding normal_extensions
  extensions_formed =
      let formed = parts_are_formed (ExtensionStep R) normal_extension extension_formed false singleton_cmp
      singleton_total (λ e f. ap₂ nat_cmp (normal_singleton e) (normal_singleton f)) in
      formed_by (λ es fs s. formed.kept es fs (to_part R es fs s))
      (λ es. from_normal R es (normal_extensions es) (form_is_normal formed es))

  -- steps on the order of the extensions lead from their normal forms to the normal form of the list
  pub extensions_ordered : (es : List ExtensionParts) → Star (ListStep false singleton_cmp) (map normal_extension es) (normal_extensions es)
  unfolding normal_extensions
  extensions_ordered es = sorted_reached false singleton_cmp singleton_total (map normal_extension es)

  -- lists whose extensions have the same normal forms, one by one, have the same normal form
  pub one_by_one : (es fs : List ExtensionParts) → map normal_extension es ≡ map normal_extension fs
      → normal_extensions es ≡ normal_extensions fs
  unfolding normal_extensions
  one_by_one es fs h = ap (sorted false singleton_cmp) h

  -- the normal form of the extension `e`, which has the parts `p` of a `t` extension, has `parts`, whose source is the
  -- normal form of the source of `p`
  pub record NormalParts (e : ExtensionParts) (p : TForm) : Type 0 where
    pub parts : TForm
    pub formed : IsTransform (normal_extension e).subtags parts
    pub source : parts.source ≡ option_map (normal_core R C) p.source

  -- the normal form of a `t` extension with the parts `p` has parts as `NormalParts` says
  pub normal_parts : (e : ExtensionParts) (p : TForm) → e.singleton ≡ transform → IsTransform e.subtags p → NormalParts e p
  normal_parts e p s k = record {
    parts = t_form R C p;
    formed = record {
      shaped = star_keeps IsT (t_shaped R (step_shaped R G)) ((t_formed R C).reached p) k.shaped;
      spelled = ap (λ (x : ExtensionParts). x.subtags) (sym (transform_form e p s k));
    };
    source = refl;
  }

  -- `t` extensions with the same fields, and with sources that have the same normal form, have the same normal form
  pub same_source : (e f : ExtensionParts) (p q : TForm) → e.singleton ≡ transform → f.singleton ≡ transform
      → IsTransform e.subtags p → IsTransform f.subtags q → option_map (normal_core R C) p.source
      ≡ option_map (normal_core R C) q.source → p.fields ≡ q.fields → normal_extension e ≡ normal_extension f
  same_source e f p q a b h k s n =
      transform_form e p a h
      ∙ ap₂ (λ o fs. extension transform (spell_t (with_source o fs))) s (ap (sorted false separator_cmp) n)
      ∙ sym (transform_form f q b k)

-- A step on extensions keeps their shapes, and gives them no more subtags.

-- a step inside an extension leads to what has the form of an extension (RFC 5646, 2.2.6)
pub extension_step_shaped : (R : List EntryParts) (e f : ExtensionParts) → ExtensionStep R e f → IsExtension f
extension_step_shaped R e f (in_unicode p q is_u kept _ to _) =
    subst₂ (λ n s. IsExtension (extension n s)) (sym (kept ∙ is_u)) to.spelled (u_is_extension q to.shaped)
extension_step_shaped R e f (in_transform p q is_t kept _ to _) =
    subst₂ (λ n s. IsExtension (extension n s)) (sym (kept ∙ is_t)) to.spelled (t_is_extension q to.shaped)

-- a step inside an extension gives it no more subtags
pub extension_step_length : (R : List EntryParts) (e f : ExtensionParts) → ExtensionStep R e f → length f.subtags ≤ length e.subtags
extension_step_length R e f (in_unicode p q _ _ from to s) =
    omega (arith, u_step_length p q s, ap length from.spelled, ap length to.spelled)
extension_step_length R e f (in_transform p q _ _ from to s) =
    omega (arith, t_step_length R p q s, ap length from.spelled, ap length to.spelled)

-- a step inside an extension keeps its singleton
pub extension_step_singleton : (R : List EntryParts) (e f : ExtensionParts) → ExtensionStep R e f → f.singleton ≡ e.singleton
extension_step_singleton R e f (in_unicode p q _ kept _ _ _) = kept
extension_step_singleton R e f (in_transform p q _ kept _ _ _) = kept

-- a step leads from extensions that the type Extension can hold to such extensions
pub extensions_step_values : (R : List EntryParts) (es fs : List ExtensionParts) → ExtensionsStep R es fs
    → AllByRecursion IsExtensionValue es → AllByRecursion IsExtensionValue fs
extensions_step_values R es fs (inside before e f after there result s) h =
    let all = subst (AllByRecursion IsExtensionValue) there h in
    let new : IsExtensionValue f = record {
      shaped = extension_step_shaped R e f s;
      subtags = omega (arith, extension_step_length R e f s, (all_middle IsExtensionValue before e after all).subtags);
    } in
    subst (AllByRecursion IsExtensionValue) (sym result) (all_replaced IsExtensionValue before e f after all new)
extensions_step_values R es fs (among s) h = all_step IsExtensionValue es fs s h

-- a step on extensions leads to no more extensions than before
pub extensions_step_count : (R : List EntryParts) (es fs : List ExtensionParts) → ExtensionsStep R es fs → length fs ≤ length es
extensions_step_count R es fs (inside before e f after there result s) =
    omega (arith, length_replaced before e f after, ap length there, ap length result)
extensions_step_count R es fs (among s) = length_step es fs s
