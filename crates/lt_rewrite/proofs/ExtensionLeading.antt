-- Lemmas for the functions that apply a step to extensions, or explain them: when a step, given by its kind, its place
-- and the number of its record, leads on from the parts of an extension, or from extensions. An answer is true or
-- false, as `Answers` says: whether a step leads to the value after a call.
use Rattle.std.proofs.Common.{◌≡◌, ℕ, ◌+◌, ◌<◌, ◌≤◌, List, Some, refl, sym, ap, ◌∙◌, length, arith, suc, false, [], ◌∷◌}
use Rattle.std.proofs.Common.{None, subst, take, drop, ◌⊎◌, inl, inr, Bool, true, ◌≢◌, Ordering, get_or, set}
use Rattle.std.specs.Prelude.{flat_map, codes}
use Rattle.std.proofs.lemmas.Option.{same_Some, none-some}
use Rattle.lt_tag.specs.Parts.{CoreParts, ExtensionParts, UForm, TForm, KeywordParts, FieldParts}
use Rattle.lt_tag.specs.Spelling.{spell_extension, spell_extensions}
use Rattle.lt_registry.specs.Parts.{EntryParts}
use Rattle.lt_registry.specs.Entries.{IsRegistry}
use Rattle.lt_rewrite.specs.Labels.{step_at, list_label, unicode_label}
use Rattle.lt_rewrite.specs.Runs.{rank_of, kind_rank, extension_rank, SwapsBy, DropsBy, DropsTrueBy}
use Rattle.lt_rewrite.specs.declared.steps.Step.{Step}
use Rattle.lt_rewrite.proofs.CoreLaws.{step_shaped}
use Rattle.std.proofs.lemmas.List.{set_split, take_at, get_or_default}
use Rattle.lt_rewrite.specs.Applying.{CoreLeads, Answers, IsPlaceOf, SwapLeads, TrueLeads, UnicodeLeads, TransformLeads}
use Rattle.lt_rewrite.specs.Applying.{ExtensionLeads, ExtensionsLeads, LeadsAt}
use Rattle.lt_rewrite.specs.declared.steps.StepKind.{StepKind}
use Rattle.lt_rewrite.proofs.FirstSteps.{StepAt}
use Rattle.lt_tag.specs.Extensions.{spell_keyword, spell_u, spell_field, spell_t, transform, unicode, IsUnicode, IsTransform}
use Rattle.lt_tag.proofs.PartsLaws.{u_unique, t_unique}
use Rattle.lt_rewrite.specs.Orderings.{ListStep, by_swap, by_drop}
use Rattle.lt_rewrite.specs.Extensions.{text_cmp, key_cmp, separator_cmp, singleton_cmp, UnicodeStep, on_attributes}
use Rattle.lt_rewrite.specs.Extensions.{on_keywords, on_types, on_source, on_fields, in_unicode, in_transform, inside}
use Rattle.lt_rewrite.specs.Extensions.{among}
use Rattle.lt_rewrite.proofs.PartLists.{SameCut, cut_at, cut_within, round}
use Rattle.lt_tag.specs.Splitting.{spell_source}
use Rattle.lt_rewrite.proofs.PartForms.{t_shaped, u_shaped}
use Rattle.lt_rewrite.specs.declared.steps.StepKind.TheVariants as steps
use Rattle.lt_rewrite.proofs.CoreLeading.{core_low, core_rank, same_step}

-- Steps on a list in which parts may only be swapped: as `SwapsBy`, and as a `ListStep` with its name.
module _ {A : Type 0} (cmp : A → A → Ordering) (swap : StepKind) (spell : A → List (List ℕ)) (start : ℕ)
    (xs ys : List A) (step : Step) where
  -- a swap by a step of the kind `swap` is a step on the list, and this is its name
  pub to_swap : SwapsBy cmp spell swap start xs step ys → (s : ListStep false cmp xs ys) × (list_label swap swap spell start s ≡ step)
  to_swap s = (
    by_swap s.leads.before s.leads.first s.leads.second s.leads.after s.leads.swaps,
    same_step _ _ _ step s.of_kind s.leads.at s.unnumbered,
  )

  -- a step on the list whose name is `step` is a swap by that step
  pub as_swap : (s : ListStep false cmp xs ys) → list_label swap swap spell start s ≡ step → SwapsBy cmp spell swap start xs step ys
  as_swap (by_swap before a b after s) h =
      subst (λ x. SwapsBy cmp spell swap start xs x ys) h
      (record {
        of_kind = refl;
        unnumbered = refl;
        leads = record { before = before; first = a; second = b; after = after; swaps = s; at = refl };
      })
  as_swap (by_drop before a between b after o s) h = absurd cc

-- Which steps there are on the parts of a `u` extension.

-- the subtags of an attribute: itself
abbrev pub one_subtag : List ℕ → List (List ℕ)
one_subtag a = a ∷ []

-- the parts of a `u` extension: its attributes and its keywords
abbrev pub u_parts : List (List ℕ) → List KeywordParts → UForm
u_parts attributes keywords = record { attributes = attributes; keywords = keywords }

-- the kinds of step on the parts of a `u` extension, in the order of their ranks
pub data UnicodeKind : Type 0 where
  drop_attribute swap_attributes drop_keyword swap_keywords drop_true : UnicodeKind

-- the rank of the steps of a kind in a `u` extension, as `rank_of` gives it
abbrev pub u_rank : UnicodeKind → ℕ
u_rank drop_attribute = 9
u_rank swap_attributes = 10
u_rank drop_keyword = 11
u_rank swap_keywords = 12
u_rank drop_true = 13

-- kinds of one rank are equal
same_kind : (j k : UnicodeKind) → u_rank j ≡ u_rank k → j ≡ k
same_kind drop_attribute drop_attribute h = refl
same_kind swap_attributes swap_attributes h = refl
same_kind drop_keyword drop_keyword h = refl
same_kind swap_keywords swap_keywords h = refl
same_kind drop_true drop_true h = refl
same_kind j k h = absurd (omega (arith, h))

-- the step, which is of the given kind, leads from the parts `p` of a `u` extension, whose singleton is at the place
-- `start`, to `q`, as that kind of step does
abbrev pub Says : UnicodeKind → ℕ → UForm → Step → UForm → Type 0
Says drop_attribute start p step q =
    DropsBy text_cmp one_subtag steps.DropAttribute start p.attributes step q.attributes × (q.keywords ≡ p.keywords)
Says swap_attributes start p step q =
    SwapsBy text_cmp one_subtag steps.SwapAttributes start p.attributes step q.attributes × (q.keywords ≡ p.keywords)
Says drop_keyword start p step q =
    DropsBy key_cmp spell_keyword steps.DropKeyword (start + length p.attributes) p.keywords step q.keywords
    × (q.attributes ≡ p.attributes)
Says swap_keywords start p step q =
    SwapsBy key_cmp spell_keyword steps.SwapKeywords (start + length p.attributes) p.keywords step q.keywords
    × (q.attributes ≡ p.attributes)
Says drop_true start p step q = DropsTrueBy (start + length p.attributes) p.keywords step q.keywords × (q.attributes ≡ p.attributes)

-- a step on the parts of a `u` extension, by its name, is of one of the kinds
says : (start : ℕ) (p q : UForm) (s : UnicodeStep p q) → (k : UnicodeKind) × Says k start p (unicode_label start s) q
says start p q (on_attributes (by_drop before a between b after o s) e) = (
  drop_attribute,
  (
    record {
      of_kind = refl;
      unnumbered = refl;
      leads = record {
        before = before;
        first = a;
        between = between;
        second = b;
        after = after;
        drops = s;
        at = refl;
      };
    },
    e,
  ),
)
says start p q (on_attributes (by_swap before a b after s) e) = (
  swap_attributes,
  (
    record {
      of_kind = refl;
      unnumbered = refl;
      leads = record { before = before; first = a; second = b; after = after; swaps = s; at = refl };
    },
    e,
  ),
)
says start p q (on_keywords e (by_drop before a between b after o s)) = (
  drop_keyword,
  (
    record {
      of_kind = refl;
      unnumbered = refl;
      leads = record {
        before = before;
        first = a;
        between = between;
        second = b;
        after = after;
        drops = s;
        at = refl;
      };
    },
    e,
  ),
)
says start p q (on_keywords e (by_swap before a b after s)) = (
  swap_keywords,
  (
    record {
      of_kind = refl;
      unnumbered = refl;
      leads = record { before = before; first = a; second = b; after = after; swaps = s; at = refl };
    },
    e,
  ),
)
says start p q (on_types e before a after s) = (
  drop_true,
  (
    record {
      of_kind = refl;
      unnumbered = refl;
      leads = record {
        before = before;
        keyword = a;
        after = after;
        drops = s;
        at = refl;
      };
    },
    e,
  ),
)

-- the step has a rank of the steps in a `u` extension, and the same rank among the steps on extensions
abbrev pub RanksU : Step → Type 0
RanksU step = (9 ≤ kind_rank step) × (kind_rank step ≤ 13) × (extension_rank step ≡ kind_rank step)

-- the step has a rank of the steps in a `t` extension; among the steps on extensions the rank of one on its source is
-- 13 more
abbrev pub RanksT : Step → Type 0
RanksT step = ((kind_rank step ≤ 6) × (13 < extension_rank step) × (extension_rank step ≡ kind_rank step + 13))
    ⊎ ((kind_rank step ≡ 20) × (extension_rank step ≡ 20))

-- the rank of a kind of step among the steps on extensions
abbrev pub order : StepKind → ℕ
order kind = extension_rank (step_at kind 0 0)

module _ (start : ℕ) (p : UForm) (step : Step) (q : UForm) where
  -- a step on the parts of a `u` extension that leads on is of one of the kinds
  pub said : UnicodeLeads start p step q → (k : UnicodeKind) × Says k start p step q
  said (s, h) = subst (λ x. (k : UnicodeKind) × Says k start p x q) h (says start p q s)

  -- what leads from `p` to `q` as a step of the kind `k` does is a step on the parts of a `u` extension
  pub led : (k : UnicodeKind) → Says k start p step q → UnicodeLeads start p step q
  led drop_attribute (s, e) = (
    on_attributes (by_drop s.leads.before s.leads.first s.leads.between s.leads.second s.leads.after refl
        s.leads.drops) e,
    same_step _ _ _ step s.of_kind s.leads.at s.unnumbered,
  )
  led swap_attributes (s, e) = (
    on_attributes (by_swap s.leads.before s.leads.first s.leads.second s.leads.after s.leads.swaps) e,
    same_step _ _ _ step s.of_kind s.leads.at s.unnumbered,
  )
  led drop_keyword (s, e) = (
    on_keywords e (by_drop s.leads.before s.leads.first s.leads.between s.leads.second s.leads.after refl
        s.leads.drops),
    same_step _ _ _ step s.of_kind s.leads.at s.unnumbered,
  )
  led swap_keywords (s, e) = (
    on_keywords e (by_swap s.leads.before s.leads.first s.leads.second s.leads.after s.leads.swaps),
    same_step _ _ _ step s.of_kind s.leads.at s.unnumbered,
  )
  led drop_true (s, e) = (
    on_types e s.leads.before s.leads.keyword s.leads.after s.leads.drops,
    same_step _ _ _ step s.of_kind s.leads.at s.unnumbered,
  )

  -- the rank of a step of the kind `k` is that of the kind, and its place is after the singleton
  pub in_u : (k : UnicodeKind) → Says k start p step q → (kind_rank step ≡ u_rank k) × ((start < step.place) × RanksU step)
  in_u drop_attribute (s, e) = omega (arith, ap rank_of s.of_kind, ap order s.of_kind, s.leads.at)
  in_u k (s, e) = omega (arith, ap rank_of s.of_kind, ap order s.of_kind, s.leads.at)

  -- a step on the parts of a `u` extension has a rank of such steps, and a place after the singleton
  pub u_ranks : UnicodeLeads start p step q → (start < step.place) × RanksU step
  u_ranks l = let s = said l in (in_u s.0 s.1).1

  -- a step on the parts of a `u` extension with the rank of a kind is of that kind
  pub as_kind : (k : UnicodeKind) → kind_rank step ≡ u_rank k → UnicodeLeads start p step q → Says k start p step q
  as_kind k r l = let s = said l in subst (λ j. Says j start p step q) (same_kind s.0 k (sym (in_u s.0 s.1).0 ∙ r)) s.1

-- an answer `r` about `L` and `x` is one about `M` and `y`, if `M` holds of `y` whenever `L` holds of `x`, and `L`
-- holds of some value whenever `M` does
pub answers_by : {A B : Type 0} (L : A → Type 0) (M : B → Type 0) (x : A) (y : B) → (L x → M y)
    → ((z : B) → M z → (w : A) × L w) → (r : Bool) → Answers L x r → Answers M y r
answers_by L M x y forth back true h = forth h
answers_by L M x y forth back false h = λ z m. h (back z m).0 (back z m).1

-- an answer `r` about one list of the parts of a `u` extension is one about the parts, which `g` makes of the list, if
-- a step of the kind `k` on the parts is a step on that list
pub u_answers : {A : Type 0} (start : ℕ) (p : UForm) (step : Step) (k : UnicodeKind) (L : A → Type 0) (g : A → UForm)
    → kind_rank step ≡ u_rank k → ((a : A) → L a → Says k start p step (g a))
    → ((q : UForm) → Says k start p step q → (a : A) × L a) → (a : A) (r : Bool) → Answers L a r
    → Answers (UnicodeLeads start p step) (g a) r
u_answers start p step k L g rank on off a r h =
    answers_by L (UnicodeLeads start p step) a (g a) (λ s. led start p step (g a) k (on a s))
    (λ q l. off q (as_kind start p step q k rank l)) r h

-- DropTrue steps, which drop a type `true` at `place`, on keywords that begin after `start` subtags.
module _ (start place : ℕ) (ks : List KeywordParts) where
  -- a DropTrue step is at the keyword whose key is one place to the left; its only type is `true`
  pub true_step : (ls : List KeywordParts) → TrueLeads start place ks ls
      → StepAt spell_keyword (start + 1) place ks (λ i. (d : KeywordParts) → (get_or ks i d).types ≡ codes "true" ∷ [])
  true_step ls t =
      let f = ap (λ l. length (flat_map spell_keyword l)) (ap (take (length t.before)) t.drops.there
      ∙ take_at t.before (t.keyword ∷ t.after) (length t.before) refl) in
      record {
        index = length t.before;
        within = cut_within t.before t.keyword t.after ks t.drops.there;
        is_place = omega (arith, f, t.at);
        holds = λ d. ap (λ (z : KeywordParts). z.types) (cut_at t.before t.keyword t.after ks d t.drops.there) ∙ t.drops.sole;
      }

  -- a keyword whose only type, at `place`, is `true` has a DropTrue step
  pub true_led : (i : ℕ) (k : KeywordParts) → i < length ks → IsPlaceOf spell_keyword (start + 1) ks i place
      → k ≡ get_or ks i k → k.types ≡ codes "true" ∷ [] → TrueLeads start place ks (set ks i (record k { types = [] }))
  true_led i k h p e sole =
      record {
        before = take i ks;
        keyword = k;
        after = drop (suc i) ks;
        drops = record { there = round ks i k h e; sole = sole; result = set_split ks i (record k { types = [] }) h };
        at = omega (arith, p);
      }

-- Which steps there are on the parts of a `t` extension.

module _ (R : List EntryParts) (start : ℕ) (p : TForm) (step : Step) (q : TForm) where
  -- a SwapFields step on the parts of a `t` extension is one on its fields, and keeps the source
  pub to_fields : step.kind ≡ steps.SwapFields → TransformLeads R start p step q
      → SwapsBy separator_cmp spell_field steps.SwapFields (start + length (spell_source p.source)) p.fields step
      q.fields × (q.source ≡ p.source)
  to_fields k (on_source c d _ _ s _, h) = absurd (omega (arith, (core_rank R start c d s).most, ap kind_rank h, ap rank_of k))
  to_fields k (on_fields e s, h) = (
    as_swap separator_cmp steps.SwapFields spell_field (start + length (spell_source p.source)) p.fields q.fields
        step s h,
    e,
  )

  -- a step of another kind than SwapFields on the parts of a `t` extension is one on its source `c`
  to_source : step.kind ≢ steps.SwapFields → (c : CoreParts) → p.source ≡ Some c → TransformLeads R start p step q
      → (d : CoreParts) × CoreLeads R start c step d
  to_source k c e (on_source b d from _ s _, h) = (d, subst (λ x. CoreLeads R start x step d) (same_Some b c (sym from ∙ e)) (s, h))
  to_source k c e (on_fields f s, h) = absurd (k (as_swap separator_cmp steps.SwapFields spell_field _ p.fields q.fields step s h).of_kind)

  -- if there is no source, no step of another kind than SwapFields leads on
  pub no_source : step.kind ≢ steps.SwapFields → p.source ≡ None → TransformLeads R start p step q → ⊥
  no_source k e (on_source b d from _ _ _, h) = none-some b (sym e ∙ from)
  no_source k e (on_fields f s, h) = k (as_swap separator_cmp steps.SwapFields spell_field _ p.fields q.fields step s h).of_kind

  -- a step on the parts of a `t` extension has a rank of such steps, and a place after the singleton
  pub in_t : TransformLeads R start p step q → (start < step.place) × RanksT step
  in_t (on_source c d _ _ s _, h) = (
    omega (arith, core_low R start c d s, ap (λ (x : Step). x.place) h),
    inl (omega (arith, core_rank R start c d s, ap kind_rank h, ap extension_rank h)),
  )
  in_t (on_fields e s, h) =
      let a = as_swap separator_cmp steps.SwapFields spell_field (start + length (spell_source p.source)) p.fields q.fields step s h in
      (omega (arith, a.leads.at), inr (ap rank_of a.of_kind, ap order a.of_kind))

module _ (R : List EntryParts) (start : ℕ) (p : TForm) (step : Step) where
  -- an answer `r` about a swap of fields is one about a SwapFields step on the parts
  pub fields_answers : step.kind ≡ steps.SwapFields → step.number ≡ 0 → (xs : List FieldParts) (r : Bool)
      → Answers (SwapLeads separator_cmp spell_field (start + length (spell_source p.source)) step.place p.fields) xs r
      → Answers (TransformLeads R start p step) (record { source = p.source; fields = xs }) r
  fields_answers k n xs r h =
      answers_by (SwapLeads separator_cmp spell_field (start + length (spell_source p.source)) step.place p.fields)
      (TransformLeads R start p step) xs (record { source = p.source; fields = xs })
      (λ s. let l = to_swap separator_cmp steps.SwapFields spell_field (start + length (spell_source p.source)) p.fields
      xs step (record { of_kind = k; unnumbered = n; leads = s }) in (on_fields refl l.0, l.1))
      (λ q l. (q.fields, (to_fields R start p step q k l).0.leads)) r h

  -- an answer `r` about a step of another kind than SwapFields on the source is one about a step on the parts
  pub source_answers : step.kind ≢ steps.SwapFields → (c : CoreParts) → p.source ≡ Some c → (d : CoreParts) (r : Bool)
      → Answers (CoreLeads R start c step) d r
      → Answers (TransformLeads R start p step) (record { source = Some d; fields = p.fields }) r
  source_answers k c e d r h =
      answers_by (CoreLeads R start c step) (TransformLeads R start p step) d (record { source = Some d; fields = p.fields })
      (λ l. (on_source c d e refl l.0 refl, l.1))
      (λ q l. to_source R start p step q k c e l) r h

-- Which steps there are on extensions.

-- the `u` extension that these parts spell
abbrev pub of_u : UForm → ExtensionParts
of_u p = record { singleton = unicode; subtags = spell_u p }

-- the `t` extension that these parts spell
abbrev pub of_t : TForm → ExtensionParts
of_t p = record { singleton = transform; subtags = spell_t p }

module _ (R : List EntryParts) (start : ℕ) (e : ExtensionParts) (step : Step) where
  -- a step on the parts of a `u` extension is one inside the extension
  pub unicode_changed : (p q : UForm) → e.singleton ≡ unicode → IsUnicode e.subtags p → UnicodeLeads start p step q
      → ExtensionLeads R start e step (of_u q)
  unicode_changed p q u from l =
      (in_unicode p q u (sym u) from (record { shaped = u_shaped p q l.0 from.shaped; spelled = refl }) l.0, l.1)

  -- a step on the parts of a `t` extension is one inside the extension
  pub transform_changed : IsRegistry R → (p q : TForm) → e.singleton ≡ transform → IsTransform e.subtags p
      → TransformLeads R start p step q → ExtensionLeads R start e step (of_t q)
  transform_changed G p q t from l =
      (in_transform p q t (sym t) from (record { shaped = t_shaped R (step_shaped R G) p q l.0 from.shaped; spelled = refl }) l.0, l.1)

  module _ (f : ExtensionParts) where
    -- a step inside a `u` extension with the parts `p` is one on these parts
    pub inside_u : (p : UForm) → e.singleton ≡ unicode → IsUnicode e.subtags p → ExtensionLeads R start e step f
        → (q : UForm) × UnicodeLeads start p step q × (f ≡ of_u q)
    inside_u p u from (in_unicode b q is_u kept begins to s, h) = (
      q,
      subst (λ x. UnicodeLeads start x step q) (u_unique e.subtags b p begins from) (s, h),
      (λ i. record { singleton = (kept ∙ is_u) i; subtags = sym to.spelled i }),
    )
    inside_u p u from (in_transform b q is_t _ _ _ _, h) = absurd (omega (arith, u, is_t))

    -- a step inside a `t` extension with the parts `p` is one on these parts
    pub inside_t : (p : TForm) → e.singleton ≡ transform → IsTransform e.subtags p → ExtensionLeads R start e step f
        → (q : TForm) × TransformLeads R start p step q × (f ≡ of_t q)
    inside_t p t from (in_transform b q is_t kept begins to s, h) = (
      q,
      subst (λ x. TransformLeads R start x step q) (t_unique e.subtags b p begins from) (s, h),
      (λ i. record { singleton = (kept ∙ is_t) i; subtags = sym to.spelled i }),
    )
    inside_t p t from (in_unicode b q is_u _ _ _ _, h) = absurd (omega (arith, t, is_u))

    -- a step inside an extension has a place after the singleton, and a rank of the steps in a `u` or a `t` extension,
    -- whichever this is
    pub told : ExtensionLeads R start e step f → (start < step.place)
        × (((e.singleton ≡ unicode) × RanksU step) ⊎ ((e.singleton ≡ transform) × RanksT step))
    told (in_unicode p q is_u _ _ _ s, h) = let r = u_ranks start p step q (s, h) in (r.0, inl (is_u, r.1))
    told (in_transform p q is_t _ _ _ s, h) = let r = in_t R start p step q (s, h) in (r.0, inr (is_t, r.1))

module _ (R : List EntryParts) (start : ℕ) (es : List ExtensionParts) (step : Step) where
  -- a step inside the extension at an index is one on the extensions
  pub leads_inside : (i : ℕ) (f : ExtensionParts) → i < length es → LeadsAt R start es step i f
      → ExtensionsLeads R start es step (set es i f)
  leads_inside i f h l =
      let e : ExtensionParts = get_or es i f in
      let s : ExtensionLeads R (start + length (spell_extensions (take i es)) + 1) e step f = l f in
      (inside (take i es) e f (drop (suc i) es) (round es i e h (get_or_default es i f e h)) (set_split es i f h) s.0, s.1)

  -- a step of another kind than SwapExtensions that leads on inside no extension leads nowhere
  pub none_inside : step.kind ≢ steps.SwapExtensions
      → ((i : ℕ) (f : ExtensionParts) → i < length es → LeadsAt R start es step i f → ⊥) → (fs : List ExtensionParts)
      → ExtensionsLeads R start es step fs → ⊥
  none_inside k none fs (inside before e f after there result s, h) =
      let i : ℕ = length before in
      none i f (cut_within before e after es there)
      (λ d.
      subst (λ (b : List ExtensionParts). ExtensionLeads R (start + length (spell_extensions b) + 1) (get_or es i d)
      step f) (sym (ap (take i) there ∙ take_at before (e ∷ after) i refl))
      (subst (λ (x : ExtensionParts). ExtensionLeads R (start + length (spell_extensions before) + 1) x step f)
      (sym (cut_at before e after es d there)) (s, h)))
  none_inside k none fs (among s, h) = k (as_swap singleton_cmp steps.SwapExtensions spell_extension start es fs step s h).of_kind

  -- a SwapExtensions step on extensions swaps two of them, since no step inside an extension has its rank
  pub to_swaps : step.kind ≡ steps.SwapExtensions → (fs : List ExtensionParts) → ExtensionsLeads R start es step fs
      → SwapsBy singleton_cmp spell_extension steps.SwapExtensions start es step fs
  to_swaps k fs (inside before e f after there result s, h) = absurd
      (omega (arith, told R (start + length (spell_extensions before) + 1) e step f (s, h), ap rank_of k))
  to_swaps k fs (among s, h) = as_swap singleton_cmp steps.SwapExtensions spell_extension start es fs step s h

  -- an answer `r` about a swap of extensions is one about a SwapExtensions step
  pub swaps_answers : step.kind ≡ steps.SwapExtensions → step.number ≡ 0 → (fs : List ExtensionParts) (r : Bool)
      → Answers (SwapLeads singleton_cmp spell_extension start step.place es) fs r
      → Answers (ExtensionsLeads R start es step) fs r
  swaps_answers k n fs r h =
      answers_by (SwapLeads singleton_cmp spell_extension start step.place es) (ExtensionsLeads R start es step) fs fs
      (λ s. let l = to_swap singleton_cmp steps.SwapExtensions spell_extension start es fs step
      (record { of_kind = k; unnumbered = n; leads = s }) in (among l.0, l.1))
      (λ gs l. (gs, (to_swaps k gs l).leads)) r h

  -- a step on extensions has a place after the `start` subtags before them, and is no Whole step, whose rank is 7
  pub behind : (fs : List ExtensionParts) → ExtensionsLeads R start es step fs → (start < step.place) × (kind_rank step ≢ 7)
  behind fs (inside before e f after there result s, h) = omega
      (arith, told R (start + length (spell_extensions before) + 1) e step f (s, h))
  behind fs (among s, h) =
      let a = as_swap singleton_cmp steps.SwapExtensions spell_extension start es fs step s h in
      omega (arith, a.leads.at, ap rank_of a.of_kind)

-- if a list is cut twice at the same extension, a step inside the extension of one cut is a step inside that of the
-- other
pub moved : (R : List EntryParts) (start : ℕ) {before before' after after' : List ExtensionParts} {e e' f
    : ExtensionParts} {step : Step} → SameCut before before' e e' after after'
    → ExtensionLeads R (start + length (spell_extensions before') + 1) e' step f
    → ExtensionLeads R (start + length (spell_extensions before) + 1) e step f
moved R start {before = before} {e' = e'} {f = f} {step = step} cut l =
    subst (λ x. ExtensionLeads R (start + length (spell_extensions before) + 1) x step f) (sym cut.at)
    (subst (λ b. ExtensionLeads R (start + length (spell_extensions b) + 1) e' step f) (sym cut.front) l)
