-- Lemmas for `settle_core`, which settles a core part by part: to settle a part is to replace it by the end of its
-- chain of values. Core steps lead from the core before each call to the core after it, and in the end none leads on.
-- Of the registry this needs only that its chains end.
use Rattle.std.proofs.Common.{rules, ◌≡◌, ℕ, suc, List, [], ◌∷◌, ◌++◌, Option, Some, None, refl, sym, ap, ◌∙◌, subst}
use Rattle.std.proofs.Common.{length, take, drop, arith, ◌≤◌, ◌+◌, ◌<◌, get_or, set, All, Bor}
use Rattle.std.specs.List.{AllByRecursion, remove}
use Rattle.std.specs.Option.{option_copied}
use Rattle.std.proofs.lemmas.List.{set_split, length-set, take_all, take_more_set}
use Rattle.std.proofs.lemmas.List.Elements.{All-same, All-more, All-push, All-append, All-take, All-drop, recursion_from_All}
use Rattle.lt_tag.specs.Parts.{CoreParts}
use Rattle.lt_registry.specs.Parts.{EntryParts}
use Rattle.lt_registry.specs.Entries.{preferred_value, variant_value, replacement}
use Rattle.lt_registry.specs.declared.entries.Kind.TheVariants as kinds
use Rattle.lt_rewrite.specs.CoreSteps.{language_beside, CoreStep, IsCoreNormalForm, EndsIn}
use Rattle.lt_rewrite.specs.Rewriting.{Star, done, then as onward}
use Rattle.lt_rewrite.specs.Conditions.{next_value}
use Rattle.lt_rewrite.specs.CoreSettling.{HasFinalLanguage, HasFinalScript, HasFinalRegion, HasFinalVariants}
use Rattle.lt_rewrite.specs.CoreSettling.{HasNoVariantLanguage, IsFirstVariantLanguage}
use Rattle.lt_rewrite.proofs.PartLists.{round, if_some_is}
use Rattle.lt_rewrite.proofs.Stars.{star_trans}
use Rattle.lt_rewrite.proofs.CoreSteps.{along, by_extlang, by_variant, by_variant_language, rests, sole}
use Rattle.lt_rewrite.proofs.CoreForms.{last}

-- core steps lead from `c` to `d`, which differs only in its variants: there are `end` variants, and those before
-- `index` are at the ends of their chains
pub record VariantsSettled (R : List EntryParts) (c d : CoreParts) (index end : ℕ) : Type 0 where
  pub reached : Star (CoreStep R) c d
  pub others : d ≡ record c { variants = d.variants }
  pub count : length d.variants ≡ end
  pub final : All (λ (v : List ℕ). variant_value R v ≡ None) (take index d.variants)

-- before any variant of the core `c` is settled, `VariantsSettled` holds with `c` as both cores and the index 0
pub none_settled : (R : List EntryParts) (c : CoreParts) (n : ℕ) → n ≡ length c.variants → VariantsSettled R c c 0 n
none_settled R c n e = record { reached = done; others = refl; count = sym e; final = λ k d h. absurd (omega (arith, h)) }

-- if the variant `s` at the index `i` of `d` is replaced by the end `t` of its chain, one variant more is settled in
-- the core `e` that results
pub one_settled : (R : List EntryParts) (c d e : CoreParts) (i n : ℕ) (s t : List ℕ) (us : List (List ℕ))
    → VariantsSettled R c d i n → i < n → us ≡ d.variants → s ≡ get_or us i s → EndsIn (next_value R kinds.Variant) s t
    → e ≡ record d { variants = set d.variants i t } → VariantsSettled R c e (i + 1) n
one_settled R c d e i n s t us S below own at ends new =
    let vs = d.variants in
    let P : List ℕ → Type 0 = λ v. variant_value R v ≡ None in
    let within : i < length vs = omega (arith, below, S.count) in
    let is : s ≡ get_or vs i s = subst (λ us. s ≡ get_or us i s) own at in
    let with : List ℕ → CoreParts = λ u. record d { variants = take i vs ++ u ∷ drop (suc i) vs } in
    let walk : Star (CoreStep R) (with s) (with t) = along R (variant_value R)
    with (λ u w f. by_variant R (with u) (take i vs) u w (drop (suc i) vs) refl f) s t ends in
    subst (λ e. VariantsSettled R c e (i + 1) n) (sym new)
    (record {
      reached = star_trans S.reached (subst (λ us. Star (CoreStep R) d (record d { variants = us }))
          (sym (set_split vs i t within)) (subst (λ us. Star (CoreStep R) (record d { variants = us }) (with t))
          (sym (round vs i s within is)) walk));
      others = ap (λ (k : CoreParts). record k { variants = set vs i t }) S.others;
      count = length-set vs i t ∙ S.count;
      final = All-same P (take (i + 1) (set vs i t)) (take i vs ++ t ∷ []) (take_more_set vs i t within)
          (All-push P (take i vs) t S.final ends.2);
    })

-- once the index `i` is past the last variant, the variants before it are all variants
pub all_settled : (R : List EntryParts) (c d : CoreParts) (i n : ℕ) → VariantsSettled R c d i n → n ≤ i → take i d.variants ≡ d.variants
all_settled R c d i n S past = take_all i d.variants (omega (arith, past, S.count))

-- once the index `i` is past the last variant, all variants are at the ends of their chains
pub all_final : (R : List EntryParts) (c d : CoreParts) (i n : ℕ) → VariantsSettled R c d i n → n ≤ i
    → All (λ (v : List ℕ). variant_value R v ≡ None) d.variants
all_final R c d i n S past = subst (All (λ v. variant_value R v ≡ None)) (all_settled R c d i n S past) S.final

-- the Extlang step of the only extlang `x` leads from `c` to `e`, whose language `l` is the replacement of `x`
pub extlang_reached : (R : List EntryParts) (c d e : CoreParts) (x l : List ℕ) (xs : List (List ℕ)) → xs ≡ c.extlangs
    → x ≡ get_or xs 0 x → length xs ≡ 1 → l ≡ replacement R x → d ≡ record c { extlangs = [] }
    → e ≡ record d { language = l } → Star (CoreStep R) c e
extlang_reached R c d e x l xs own at one value dropped new =
    subst (λ e. Star (CoreStep R) c e) (sym (new ∙ (λ i. record (dropped i) { language = value i })))
    (onward (by_extlang R c x (sym own ∙ sole xs x at one)) done)

-- core steps lead from `c` to `d`, which differs only in its language and its variants, and these are at the ends of
-- their chains
pub record LanguageSettled (R : List EntryParts) (c d : CoreParts) : Type 0 where
  pub reached : Star (CoreStep R) c d
  pub language : HasFinalLanguage R d
  pub variants : HasFinalVariants R d
  pub others : d ≡ record c { language = d.language; variants = d.variants }

-- after the VariantLanguage step of the variant at `i` of `d`, and the steps to the end of the new language's chain,
-- the core `g` that results is `d` except for its language and that variant
pub others_left : (d e f g : CoreParts) (i : ℕ) (m : List ℕ) → e ≡ record d { variants = remove d.variants i }
    → f ≡ record e { language = m } → g ≡ record f { language = g.language }
    → g ≡ record d { language = g.language; variants = remove d.variants i }
others_left d e f g i m dropped new other =
    other ∙ ap (λ (k : CoreParts). record k { language = g.language }) (new ∙ ap (λ (k : CoreParts). record k { language = m }) dropped)

-- after a VariantLanguage step from `d`, and steps to the end of the new language's chain, the language and the
-- variants of `g` are at the ends of their chains again
pub language_settled : (R : List EntryParts) (c d e f g : CoreParts) (i : ℕ) (m : List ℕ) → c.extlangs ≡ []
    → LanguageSettled R c d → IsFirstVariantLanguage R d i m → e ≡ record d { variants = remove d.variants i }
    → f ≡ record e { language = m } → Star (CoreStep R) f g → HasFinalLanguage R g
    → g ≡ record f { language = g.language } → LanguageSettled R c g
language_settled R c d e f g i m none S t dropped new after final other =
    let P : List ℕ → Type 0 = λ v. variant_value R v ≡ None in
    let left = others_left d e f g i m dropped new other in
    let vs : g.variants ≡ remove d.variants i = ap (λ (k : CoreParts). k.variants) left in
    let alone : d.extlangs ≡ [] = ap (λ (k : CoreParts). k.extlangs) S.others ∙ none in
    let step = by_variant_language R d (take i d.variants) t.variant m (drop (suc i) d.variants) alone t.there t.has t.leftmost in
    let reached = star_trans S.reached
    (onward step
    (subst (λ (k : CoreParts). Star (CoreStep R) k g)
    (new ∙ ap (λ (k : CoreParts). record k { language = m }) dropped) after)) in
    let variants = subst (All P) (sym vs) (All-append P (take i d.variants) (drop (suc i) d.variants)
    (All-take P i d.variants S.variants) (All-drop P (suc i) d.variants S.variants)) in
    let others : g ≡ record c { language = g.language; variants = g.variants } = let o = S.others in cc in
    search rules

-- the variant `v` at the index `i` is the leftmost with a VariantLanguage step, which puts the language `m`, if a call
-- found that step (`o`), and no variant before `v` has one
pub first_variant_language_at : (R : List EntryParts) (c : CoreParts) (i : ℕ) (l v m : List ℕ) (vs : List (List ℕ)) (o
    : Option (Bor (List ℕ))) (b : Bor (List ℕ)) → vs ≡ c.variants → i < length vs → v ≡ get_or vs i v → l ≡ c.language
    → option_copied o ≡ language_beside R l v → o ≡ Some b → m ≡ b.now
    → All (λ (u : List ℕ). language_beside R c.language u ≡ None) (take i vs) → IsFirstVariantLanguage R c i m
first_variant_language_at R c i l v m vs o b same h e its value found copy none =
    let P : List ℕ → Type 0 = λ u. language_beside R c.language u ≡ None in
    record {
      within = omega (arith, h, ap length same);
      variant = v;
      there = subst (λ us. us ≡ take i us ++ v ∷ drop (suc i) us) same (round vs i v h e);
      has = ap (λ l. language_beside R l v) (sym its) ∙ sym value ∙ ap option_copied found ∙ ap Some (sym copy);
      leftmost = subst (λ us. AllByRecursion P (take i us)) same (recursion_from_All P (take i vs) none);
    }

-- if a call found no VariantLanguage step (`o`) of the variant `v` at `i`, and no variant before it has one, none
-- before `i` + 1 has one
pub none_more : (R : List EntryParts) (c : CoreParts) (i : ℕ) (l v : List ℕ) (vs : List (List ℕ)) (o : Option
    (Bor (List ℕ))) → i < length vs → v ≡ get_or vs i v → l ≡ c.language → option_copied o ≡ language_beside R l v
    → o ≡ None → All (λ (u : List ℕ). language_beside R c.language u ≡ None) (take i vs)
    → All (λ (u : List ℕ). language_beside R c.language u ≡ None) (take (i + 1) vs)
none_more R c i l v vs o h e its value found none =
    let P : List ℕ → Type 0 = λ u. language_beside R c.language u ≡ None in
    All-more P vs i v h none (subst P e (ap (λ l. language_beside R l v) (sym its) ∙ sym value ∙ ap option_copied found))

-- the calls that settle the script, the region and the extlang of the core `c` give `c1`, `c2` and `c3`: core steps
-- lead there, the script and the region are at the ends of their chains, and in `c3` there is not exactly one extlang
pub record Settlings (R : List EntryParts) (c c1 c2 c3 : CoreParts) : Type 0 where
  pub script : Star (CoreStep R) c c1
  pub region : Star (CoreStep R) c1 c2
  pub extlang : Star (CoreStep R) c2 c3
  pub final_script : HasFinalScript R c1
  pub final_region : HasFinalRegion R c2
  pub none_alone : (x : List ℕ) → c3.extlangs ≡ x ∷ [] → ⊥
  pub other_than_region : c2 ≡ record c1 { region = c2.region }
  pub other_than_extlang : c3 ≡ record c2 { language = c3.language; extlangs = c3.extlangs }

-- If, after the calls of `Settlings`, steps on the language and the variants lead to `d`, then `d` is the core normal
-- form of `c`: its variants must be at the ends of their chains and, if there are no extlangs, its language too, with
-- no VariantLanguage step left.
pub rests_settled : (R : List EntryParts) (c c1 c2 c3 d : CoreParts) → Settlings R c c1 c2 c3 → Star (CoreStep R) c3 d
    → HasFinalVariants R d → (c3.extlangs ≡ [] → HasFinalLanguage R d × HasNoVariantLanguage R d)
    → d ≡ record c3 { language = d.language; variants = d.variants } → IsCoreNormalForm R c d
rests_settled R c c1 c2 c3 d S last variants language other =
    let none : c3.extlangs ≡ d.extlangs = sym (ap (λ (k : CoreParts). k.extlangs) other) in
    let script = ap (λ (k : CoreParts). k.script) other ∙ ap (λ (k : CoreParts). k.script) S.other_than_extlang
    ∙ ap (λ (k : CoreParts). k.script) S.other_than_region in
    let region = ap (λ (k : CoreParts). k.region) other ∙ ap (λ (k : CoreParts). k.region) S.other_than_extlang in
    record {
      reached = star_trans S.script (star_trans S.region (star_trans S.extlang last));
      at_rest = λ e.
          rests R d e
          (record {
            extlang = λ x h. S.none_alone x (none ∙ h);
            language = λ h. (language (none ∙ h)).0;
            script = λ s h. if_some_is (λ s. preferred_value R kinds.Script s ≡ None) c1.script s (sym script ∙ h) S.final_script;
            region = λ s h. if_some_is (λ s. preferred_value R kinds.Region s ≡ None) c2.region s (sym region ∙ h) S.final_region;
            variant = recursion_from_All (λ v. variant_value R v ≡ None) d.variants variants;
            variant_language = λ h. recursion_from_All (λ v. language_beside R d.language v ≡ None) d.variants (language (none ∙ h)).1;
          });
    }
