-- The kind and the place of a step determine its record and its result, the tag to which it leads (the law
-- `steps_are_determined`). And lemmas for `apply`: a step leads from a tag exactly as it leads from its core, from its
-- extensions or from the whole tag.
use Rattle.std.proofs.Common.{◌≡◌, ℕ, ◌+◌, ◌≤◌, List, ◌++◌, Some, refl, sym, ap, ◌∙◌, length, length-append, arith, []}
use Rattle.std.proofs.Common.{◌∷◌, Option, None, subst, MatchOption, ◌≢◌, Ordering, map, append_assoc, ◌*◌}
use Rattle.std.specs.Prelude.{Result, Ok, IfOk}
use Rattle.std.proofs.lemmas.Option.{same_Some}
use Rattle.lt_tag.specs.Parts.{CoreParts, ExtensionParts, UForm, TForm, TagForm, LangTag, KeywordParts}
use Rattle.lt_tag.specs.Spelling.{spell_core, spell_extension, spell_extensions}
use Rattle.lt_registry.specs.Parts.{EntryParts}
use Rattle.lt_registry.specs.Entries.{entry, number_of}
use Rattle.lt_rewrite.specs.CoreSteps.{subtag_at, value_at, replaced}
use Rattle.lt_rewrite.specs.Labels.{subtag_kind_at, LeadsBy}
use Rattle.lt_rewrite.specs.Runs.{rank_of, kind_rank, SwapsBy, DropsBy, DropsTrueBy}
use Rattle.lt_rewrite.specs.declared.steps.Step.{Step}
use Rattle.std.specs.List.{AllByRecursion}
use Rattle.lt_rewrite.specs.Applying.{CoreLeads, UnicodeLeads, TransformLeads, ExtensionLeads, ExtensionsLeads, Changes}
use Rattle.lt_rewrite.specs.Applying.{IsWholeValueBy, TagLeads}
use Rattle.lt_rewrite.specs.declared.steps.StepKind.{StepKind}
use Rattle.lt_rewrite.proofs.FirstSteps.{drop_there}
use Rattle.lt_tag.specs.Extensions.{spell_keyword, spell_field}
use Rattle.lt_registry.specs.Validity.{Distinct, IsProperLangTag, HasProperParts, IsProper}
use Rattle.lt_rewrite.specs.Extensions.{separator_cmp, singleton_cmp, on_source, on_fields, in_unicode, in_transform, inside, among}
use Rattle.lt_rewrite.specs.TagSteps.{on_core, on_extensions, on_whole, CanBeReplacedWhole}
use Rattle.lt_rewrite.specs.Laws.{StepsAreDetermined}
use Rattle.lt_rewrite.proofs.PartLists.{same_flat, flat_length, distinct_cut}
use Rattle.lt_tag.specs.Splitting.{spell_source}
use Rattle.lt_tag.specs.Values.{IsTagValue, FitsCounts, core_of, extensions_of, private_of}
use Rattle.lt_tag.specs.Lists.{longest_text}
use Rattle.lt_rewrite.specs.declared.steps.StepKind.TheVariants as steps
use Rattle.lt_rewrite.proofs.CoreLeading.{core_high, core_rank, one_spot, same_step}
use Rattle.lt_rewrite.proofs.ExtensionLeading.{Says, UnicodeKind, as_kind, as_swap, behind, drop_attribute}
use Rattle.lt_rewrite.proofs.ExtensionLeading.{drop_keyword, drop_true, in_u, inside_t, inside_u, moved, of_t, of_u}
use Rattle.lt_rewrite.proofs.ExtensionLeading.{order, said, swap_attributes, swap_keywords, to_fields, to_swaps, told}

-- the two steps have the same kind and the same place
record SameSpot (step other : Step) : Type 0 where
  pub kind : step.kind ≡ other.kind
  pub place : step.place ≡ other.place

-- two steps use the record with the same number, and their results, `a` and `b`, are equal
record SameEnd {A : Type 0} (step other : Step) (a b : A) : Type 0 where
  pub number : step.number ≡ other.number
  pub result : a ≡ b

-- Two steps of one kind at one place use one record and lead to one result.
module _ (R : List EntryParts) (step other : Step) (w : SameSpot step other) where
  -- two steps of one kind at one place on a core use one record and lead to one core
  core_end : (start : ℕ) (c d e : CoreParts) → CoreLeads R start c step d → CoreLeads R start c other e → SameEnd step other d e
  core_end start c d e (s, h) (u, k) =
      let m : s.spot ≡ u.spot = one_spot c s.spot u.spot (ap (λ (x : Step). x.kind) h ∙ w.kind
      ∙ sym (ap (λ (x : Step). x.kind) k))
      (omega (arith, w.place, ap (λ (x : Step). x.place) h, ap (λ (x : Step). x.place) k)) in
      let a : s.subtag ≡ u.subtag = same_Some s.subtag u.subtag (sym s.there ∙ ap (subtag_at c) m ∙ u.there) in
      let b : s.value ≡ u.value = same_Some s.value u.value (sym s.has ∙ (λ i. value_at R c (m i) (a i)) ∙ u.has) in
      record {
        number = sym (ap (λ (x : Step). x.number) h) ∙ (λ i. number_of (entry R (subtag_kind_at (m i)) (a i)))
            ∙ ap (λ (x : Step). x.number) k;
        result = s.result ∙ (λ i. replaced c (m i) (b i)) ∙ sym u.result;
      }

  -- two steps of one kind at one place by which neighbours of a list change places lead to one list
  swap_end : {A : Type 0} {cmp : A → A → Ordering} {spell : A → List (List ℕ)} {kind : StepKind} {start : ℕ} {xs ys zs
      : List A} → ((a : A) → spell a ≢ []) → SwapsBy cmp spell kind start xs step ys
      → SwapsBy cmp spell kind start xs other zs → SameEnd step other ys zs
  swap_end some s t =
      let a = s.leads in
      let b = t.leads in
      let k = same_flat _ some a.before b.before a.first b.first (a.second ∷ a.after) (b.second ∷ b.after)
      (sym a.swaps.there ∙ b.swaps.there) (omega (arith, w.place, a.at, b.at)) in
      record { number = s.unnumbered ∙ sym t.unnumbered; result = cc }

  -- two steps of one kind at one place by which a part of a list is dropped lead to one list
  drop_end : {A : Type 0} {cmp : A → A → Ordering} {spell : A → List (List ℕ)} {kind : StepKind} {start : ℕ} {xs ys zs
      : List A} → ((a : A) → spell a ≢ []) → DropsBy cmp spell kind start xs step ys
      → DropsBy cmp spell kind start xs other zs → SameEnd step other ys zs
  drop_end {spell = spell} some s t =
      let a = s.leads in
      let b = t.leads in
      let k =
      same_flat _ some (a.before ++ a.first ∷ a.between) (b.before ++ b.first ∷ b.between) a.second b.second a.after
      b.after (sym (drop_there a) ∙ drop_there b)
      (omega (arith, w.place, a.at, b.at, flat_length spell a.before a.first a.between, flat_length spell b.before b.first b.between)) in
      record {
        number = s.unnumbered ∙ sym t.unnumbered;
        result =
            a.drops.result ∙ sym (append_assoc a.before (a.first ∷ a.between) a.after) ∙ (λ i. k.front i ++ k.rest i)
            ∙ append_assoc b.before (b.first ∷ b.between) b.after ∙ sym b.drops.result;
      }

  -- two steps at one place by which a keyword loses its only type, `true`, lead to the same keywords
  true_end : {start : ℕ} {ks ls ms : List KeywordParts} → DropsTrueBy start ks step ls → DropsTrueBy start ks other ms
      → SameEnd step other ls ms
  true_end s t =
      let a = s.leads in
      let b = t.leads in
      let k = same_flat spell_keyword (λ k e. cc) a.before b.before a.keyword b.keyword a.after b.after
      (sym a.drops.there ∙ b.drops.there) (omega (arith, w.place, a.at, b.at)) in
      record {
        number = s.unnumbered ∙ sym t.unnumbered;
        result = a.drops.result
            ∙ (λ i. k.front i ++ record (k.at i) { types = [] } ∷ k.rest i) ∙ sym b.drops.result;
      }

  -- two steps of one kind at one place on the parts of a `u` extension lead to the same parts
  unicode_end : (start : ℕ) (p q r : UForm) → UnicodeLeads start p step q → UnicodeLeads start p other r → SameEnd step other q r
  unicode_end start p q r l m =
      let s = said start p step q l in
      by s.0 s.1 (as_kind start p other r s.0 (sym (ap rank_of w.kind) ∙ (in_u start p step q s.0 s.1).0) m)
    where
      attributes_end : SameEnd step other q.attributes r.attributes → q.keywords ≡ r.keywords → SameEnd step other q r
      attributes_end e k = record { number = e.number; result = λ i. record { attributes = e.result i; keywords = k i } }

      keywords_end : SameEnd step other q.keywords r.keywords → q.attributes ≡ r.attributes → SameEnd step other q r
      keywords_end e k = record { number = e.number; result = λ i. record { attributes = k i; keywords = e.result i } }

      by : (k : UnicodeKind) → Says k start p step q → Says k start p other r → SameEnd step other q r
      by drop_attribute (s, a) (t, b) = attributes_end (drop_end (λ a e. cc) s t) (a ∙ sym b)
      by swap_attributes (s, a) (t, b) = attributes_end (swap_end (λ a e. cc) s t) (a ∙ sym b)
      by drop_keyword (s, a) (t, b) = keywords_end (drop_end (λ a e. cc) s t) (a ∙ sym b)
      by swap_keywords (s, a) (t, b) = keywords_end (swap_end (λ a e. cc) s t) (a ∙ sym b)
      by drop_true (s, a) (t, b) = keywords_end (true_end s t) (a ∙ sym b)

  -- two steps of one kind at one place on the parts of a `t` extension use one record and lead to the same parts
  transform_end : (start : ℕ) (p q r : TForm) → TransformLeads R start p step q → TransformLeads R start p other r → SameEnd step other q r
  transform_end start p q r (on_source c d from to s kept, h) (on_source c' d' begins ends u same, k) =
      let n = core_end start c d d' (s, h) (subst (λ x. CoreLeads R start x other d') (same_Some c' c (sym begins ∙ from)) (u, k)) in
      record { number = n.number; result = λ i. record { source = (to ∙ ap Some n.result ∙ sym ends) i; fields = (kept ∙ sym same) i } }
  transform_end start p q r (on_source c d _ _ s _, h) (on_fields y u, k) =
      absurd (omega (
        arith,
        core_rank R start c d s,
        ap kind_rank h,
        ap rank_of w.kind,
        ap rank_of (as_swap separator_cmp steps.SwapFields spell_field _ p.fields r.fields other u k).of_kind,
      ))
  transform_end start p q r (on_fields x s, h) l =
      let a = as_swap separator_cmp steps.SwapFields spell_field (start + length (spell_source p.source)) p.fields q.fields step s h in
      let b = to_fields R start p other r (sym w.kind ∙ a.of_kind) l in
      let n = swap_end (λ f e. cc) a b.0 in
      record { number = n.number; result = λ i. record { source = (x ∙ sym b.1) i; fields = n.result i } }

  -- two steps of one kind at one place inside an extension use one record and lead to one extension
  extension_end : (start : ℕ) (e f g : ExtensionParts) → ExtensionLeads R start e step f
      → ExtensionLeads R start e other g → SameEnd step other f g
  extension_end start e f g (in_unicode p q is_u kept from to s, h) l =
      let a = inside_u R start e step f p is_u from (in_unicode p q is_u kept from to s, h) in
      let b = inside_u R start e other g p is_u from l in
      let n = unicode_end start p a.0 b.0 a.1 b.1 in
      record { number = n.number; result = a.2 ∙ ap of_u n.result ∙ sym b.2 }
  extension_end start e f g (in_transform p q is_t kept from to s, h) l =
      let a = inside_t R start e step f p is_t from (in_transform p q is_t kept from to s, h) in
      let b = inside_t R start e other g p is_t from l in
      let n = transform_end start p a.0 b.0 a.1 b.1 in
      record { number = n.number; result = a.2 ∙ ap of_t n.result ∙ sym b.2 }

  -- two steps of one kind at one place on extensions whose singletons differ use one record and lead to the same
  -- extensions
  extensions_end : (start : ℕ) (es fs gs : List ExtensionParts)
      → Distinct (map (λ (e : ExtensionParts). e.singleton) es) → ExtensionsLeads R start es step fs
      → ExtensionsLeads R start es other gs → SameEnd step other fs gs
  extensions_end start es fs gs D (inside before e f after there result s, h) (inside before' e' f' after' there' result' s', h') =
      let k : ℕ = start + length (spell_extensions before) + 1 in
      let k' : ℕ = start + length (spell_extensions before') + 1 in
      let one : e.singleton ≡ e'.singleton = omega (
        arith,
        told R k e step f (s, h),
        told R k' e' other f' (s', h'),
        ap rank_of w.kind,
        ap order w.kind,
      ) in
      let cut = distinct_cut before before' e e' after after' (sym there ∙ there')
      (subst (λ l. Distinct (map (λ (e : ExtensionParts). e.singleton) l)) there D) one in
      let n = extension_end k e f f' (s, h) (moved R start cut (s', h')) in
      record { number = n.number; result = result ∙ (λ i. cut.front i ++ n.result i ∷ cut.rest i) ∙ sym result' }
  extensions_end start es fs gs D (inside before e f after there result s, h) (among u, k) =
      absurd (omega (
        arith,
        told R (start + length (spell_extensions before) + 1) e step f (s, h),
        ap rank_of w.kind,
        ap rank_of (as_swap singleton_cmp steps.SwapExtensions spell_extension start es gs other u k).of_kind,
      ))
  extensions_end start es fs gs D (among s, h) l =
      let a = as_swap singleton_cmp steps.SwapExtensions spell_extension start es fs step s h in
      swap_end (λ e k. cc) a (to_swaps R start es other (sym w.kind ∙ a.of_kind) gs l)

  -- two steps of one kind at one place on a tag use one record and lead to one tag
  tag_end : (t u v : TagForm) → HasProperParts R t → TagLeads R t step u → TagLeads R t other v → SameEnd step other u v
  tag_end t u v P (on_core c d es ps from to s, h) (on_core c' d' es' ps' begins ends r, k) =
      let same : c' ≡ c = cc in
      let n = core_end 0 c d d' (s, h) (subst (λ x. CoreLeads R 0 x other d') same (r, k)) in
      record { number = n.number; result = cc }
  tag_end t u v P (on_extensions c es fs ps from to s, h) (on_extensions c' es' fs' ps' begins ends r, k) =
      let same : c' ≡ c = cc in
      let kept : es' ≡ es = cc in
      let L : IsProperLangTag R c es = subst (HasProperParts R) from P in
      let n =
      extensions_end (length (spell_core c)) es fs fs' L.singletons (s, h)
      (subst (λ x. ExtensionsLeads R (length (spell_core x)) es other fs') same
      (subst (λ x. ExtensionsLeads R (length (spell_core c')) x other fs') kept (r, k))) in
      record { number = n.number; result = cc }
  tag_end t u v P (on_whole _ has, h) (on_whole _ valued, k) = record {
    number = sym (ap (λ (x : Step). x.number) h)
        ∙ ap (λ (x : Step). x.number) k;
    result = same_Some u v (sym has ∙ valued);
  }
  tag_end t u v P (on_core c d _ _ _ _ s, h) (on_whole _ _, k) = absurd
      (omega (arith, core_rank R 0 c d s, ap kind_rank h, ap kind_rank k, ap rank_of w.kind))
  tag_end t u v P (on_whole _ _, h) (on_core c d _ _ _ _ s, k) = absurd
      (omega (arith, core_rank R 0 c d s, ap kind_rank h, ap kind_rank k, ap rank_of w.kind))
  tag_end t u v P (on_extensions c es fs _ _ _ s, h) (on_whole _ _, k) = absurd
      (omega (arith, behind R (length (spell_core c)) es step fs (s, h), ap kind_rank k, ap rank_of w.kind))
  tag_end t u v P (on_whole _ _, h) (on_extensions c es fs _ _ _ s, k) = absurd
      (omega (arith, behind R (length (spell_core c)) es other fs (s, k), ap kind_rank h, ap rank_of w.kind))
  tag_end t u v P (on_core c d es ps from _ s, h) (on_extensions c' es' fs ps' begins _ r, k) =
      let same : length (spell_core c) ≡ length (spell_core c') = cc in
      absurd (omega (
        arith,
        same,
        core_high R 0 c d s,
        ap (λ (x : Step). x.place) h,
        behind R (length (spell_core c'))
            es' other fs (r, k),
        w.place,
      ))
  tag_end t u v P (on_extensions c' es' fs ps' begins _ r, k) (on_core c d es ps from _ s, h) =
      let same : length (spell_core c) ≡ length (spell_core c') = cc in
      absurd (omega (
        arith,
        same,
        core_high R 0 c d s,
        ap (λ (x : Step). x.place) h,
        behind R (length (spell_core c'))
            es' step fs (r, k),
        w.place,
      ))

-- the kind and the place of a step between proper tags determine its record and its result
pub steps_determined : (R : List EntryParts) → StepsAreDetermined R
steps_determined R t u v step other a b k p =
    let e = tag_end R step other (record { kind = k; place = p }) t u v a.0.from.parts (a.0.change, a.1) (b.0.change, b.1) in
    record { same = λ i. record { kind = k i; place = p i; number = e.number i }; result = e.result }

-- a tag with the core `c` is the langtag of this core, its extensions and its private use subtags
pub langtag_is : (t : TagForm) (c : CoreParts) → core_of t ≡ Some c → t ≡ LangTag c (extensions_of t) (private_of t)
langtag_is (LangTag b es ps) c h = let e : b ≡ c = cc in ap (λ x. LangTag x es ps) e
langtag_is s c h = cc

-- extensions with at most 1024 subtags after the singleton have at most 1025 subtags each
pub few_subtags : (es : List ExtensionParts)
    → AllByRecursion (λ (e : ExtensionParts). length e.subtags ≤ longest_text) es
    → length (spell_extensions es) ≤ 1025 * length es
few_subtags [] h = omega arith
few_subtags (e ∷ es) h =
    omega (arith, few_subtags es h.1, h.0, length-append (spell_extension e) (spell_extensions es))

-- a tag whose parts are within the bounds has at most 1024 extensions, each with at most 1024 subtags after the
-- singleton
pub fits : (t : TagForm) → FitsCounts t → (length (extensions_of t) ≤ 1024)
    × AllByRecursion (λ (e : ExtensionParts). length e.subtags ≤ longest_text) (extensions_of t)
fits (LangTag c es ps) h = (h.1, h.2)
fits s h = (omega arith, tt)

module _ (R : List EntryParts) (t : TagForm) (step : Step) where
  -- a step on the core of a langtag is one on the tag
  pub core_changed : (c d : CoreParts) → core_of t ≡ Some c → CoreLeads R 0 c step d
      → TagLeads R t step (LangTag d (extensions_of t) (private_of t))
  core_changed c d h l = (on_core c d (extensions_of t) (private_of t) (langtag_is t c h) refl l.0, l.1)

  -- a step on the extensions of a langtag is one on the tag
  pub extensions_changed : (c : CoreParts) (fs : List ExtensionParts) → core_of t ≡ Some c
      → ExtensionsLeads R (length (spell_core c)) (extensions_of t) step fs
      → TagLeads R t step (LangTag c fs (private_of t))
  extensions_changed c fs h l = (on_extensions c (extensions_of t) fs (private_of t) (langtag_is t c h) refl l.0, l.1)

  -- a step of another kind than Whole that leads on neither from the core nor from the extensions leads nowhere from
  -- the tag
  pub kept : (c : CoreParts) → core_of t ≡ Some c → step.kind ≢ steps.Whole
      → ((d : CoreParts) → CoreLeads R 0 c step d → ⊥)
      → ((fs : List ExtensionParts) → ExtensionsLeads R (length (spell_core c)) (extensions_of t) step fs → ⊥)
      → (u : TagForm) → TagLeads R t step u → ⊥
  kept c e k none nowhere u (on_core b d es ps from _ s, h) =
      none d (subst (λ x. CoreLeads R 0 x step d) (same_Some b c (sym (ap core_of from) ∙ e)) (s, h))
  kept c e k none nowhere u (on_extensions b es fs ps from _ s, h) =
      nowhere fs (subst (λ x. ExtensionsLeads R (length (spell_core x)) (extensions_of t) step fs)
      (same_Some b c (sym (ap core_of from) ∙ e)) (subst (λ x. ExtensionsLeads R (length (spell_core b)) x step fs)
      (sym (ap extensions_of from)) (s, h)))
  kept c e k none nowhere u (on_whole _ _, h) = k (sym (ap (λ (x : Step). x.kind) h))

  -- what a Whole step to `u` needs: the place 1, a tag that can be replaced as a whole, and `u` as its value by the
  -- record with the step's number
  pub record WholeLeads (u : TagForm) : Type 0 where
    pub place : step.place ≡ 1
    pub plain : CanBeReplacedWhole t
    pub value : IsWholeValueBy R t step.number u

  -- a Whole step leads to `u`, if it has what `WholeLeads` says
  pub from_whole : step.kind ≡ steps.Whole → (u : TagForm) → WholeLeads u → TagLeads R t step u
  from_whole k u w = (on_whole w.plain w.value.has, same_step _ _ _ step k w.place (sym w.value.by))

  module _ (P : IsProper R t) where
    -- two results of a step from a proper tag are equal
    same_end : (u v : TagForm) → TagLeads R t step u → TagLeads R t step v → u ≡ v
    same_end u v l m = (tag_end R step step (record { kind = refl; place = refl }) t u v P.parts l m).result

    -- if a step leads to `v`, which is no value of the type Tag, it leads to no value of that type
    valueless : (v : TagForm) → TagLeads R t step v → (IsTagValue v → ⊥) → (u : TagForm) → IsTagValue u → TagLeads R t step u → ⊥
    valueless v l n u V m = n (subst IsTagValue (same_end u v m l) V)

    -- if a step leads to `v`, which is not proper, it leads to no proper tag
    pub not_proper : (v : TagForm) → TagLeads R t step v → (IsProper R v → ⊥) → (u : TagForm) → LeadsBy R t step u → ⊥
    not_proper v l n u m = n (subst (IsProper R) (same_end u v (m.0.change, m.1) l) m.0.to)

    -- if the step leads to `v`, and `o` is `v`, or None since no Tag can be `v`, then `o` is the right answer
    pub made : (v : TagForm) (o : Option TagForm) → TagLeads R t step v → MatchOption o (IsTagValue v → ⊥) (λ u. u ≡ v)
        → MatchOption o ((u : TagForm) → IsTagValue u → TagLeads R t step u → ⊥) (TagLeads R t step)
    made v None l h = λ u V m. valueless v l h u V m
    made v (Some u) l h = subst (TagLeads R t step) (sym h) l

-- an answer about all values to which `L` leads is one about those of which `V` holds
pub values_alone : {A E : Type 0} (L V : A → Type 0) (r : Result (Option A) E) → IfOk r (λ o. Changes L o)
    → IfOk r (λ o. MatchOption o ((u : A) → V u → L u → ⊥) L)
values_alone L V (Ok None) h = λ u v l. h u l
values_alone s t u h = h
