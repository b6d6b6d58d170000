-- Lemmas for `explain_extensions`. A run is a list of steps, each the first of those that lead on. The exchanges of
-- extensions, the run in the `u` extension and the run in the `t` extension are together one run on the list of
-- extensions, after which no step leads on.
use Rattle.std.proofs.Common.{◌≡◌, ◌≢◌, ℕ, suc, ◌+◌, ◌<◌, ◌≤◌, inr, List, [], ◌∷◌, ◌++◌, refl, sym, ap, ◌∙◌, subst}
use Rattle.std.proofs.Common.{length, get_or, set, take, drop, arith, inl, false, Option, Some, map, None}
use Rattle.std.proofs.lemmas.List.{map-append, set_split}
use Rattle.lt_tag.specs.Parts.{UForm, TForm, ExtensionParts}
use Rattle.lt_tag.specs.Extensions.{IsU, IsT, unicode, transform, IsUnicode, IsTransform}
use Rattle.lt_rewrite.specs.Applying.{UnicodeLeads, TransformLeads, ExtensionLeads, ExtensionsLeads}
use Rattle.lt_rewrite.specs.Runs.{NoneLeads, Adds, kind_rank, IsFirst, SwapsBy, AddsOnUnicode, IsNoLater}
use Rattle.lt_rewrite.specs.Runs.{AddsOnTransform, extension_rank, AddsOnExtensions}
use Rattle.lt_rewrite.specs.declared.steps.Step.{Step}
use Rattle.lt_rewrite.proofs.PartLists.{spelled_replaced, round, all_middle, all_replaced, others_same, distinct_cut}
use Rattle.lt_rewrite.proofs.PartLists.{all_swapped, all_step, all_both, spelled_step}
use Rattle.lt_rewrite.proofs.FirstSteps.{adds_lift, adds_none, adds_all}
use Rattle.lt_rewrite.proofs.ListSteps.{front_few, IsRising, rising_swaps, rising_at_rest}
use Rattle.lt_rewrite.proofs.ExtensionLeading.{u_ranks, in_t, order, to_swap, as_swap, of_u, of_t, unicode_changed}
use Rattle.lt_rewrite.proofs.ExtensionLeading.{transform_changed, inside_u, inside_t, told, moved}
use Rattle.std.proofs.lemmas.Bool.{cases_eq}
use Rattle.lt_rewrite.specs.Orderings.{by_swap, by_drop, ListStep}
use Rattle.lt_rewrite.specs.Extensions.{singleton_cmp, ExtensionStep, in_unicode, in_transform, ExtensionsStep, inside, among}
use Rattle.lt_rewrite.specs.Labels.{extension_label}
use Rattle.lt_rewrite.proofs.PartForms.{u_shaped, t_shaped}
use Rattle.lt_rewrite.proofs.ExtensionForms.{extension_step_singleton, extension_step_length, each_rests}
use Rattle.lt_rewrite.proofs.ExtensionLaws.{none_rest, FoundAt, keeps_singleton, placed_reached, placed_distinct}
use Rattle.lt_rewrite.proofs.ExtensionLaws.{placed_rests, placed_keeps}
use Rattle.lt_registry.specs.Parts.{EntryParts}
use Rattle.lt_registry.specs.Entries.{IsRegistry}
use Rattle.lt_rewrite.proofs.CoreLaws.{step_shaped}
use Rattle.std.specs.List.{AllByRecursion}
use Rattle.std.specs.Ordering.{nat_cmp}
use Rattle.lt_tag.specs.Spelling.{spell_extensions, spell_extension}
use Rattle.lt_registry.specs.Validity.{Distinct}
use Rattle.lt_rewrite.specs.Rewriting.{Rests, IsNormalForm}
use Rattle.std.proofs.Math.Seq.{map-set_same}
use Rattle.lt_rewrite.specs.ExtensionsSettling.{Settles, placed}
use Rattle.lt_rewrite.specs.ExtensionsExplaining.{ExplainsAt, Explains}
use Rattle.lt_rewrite.proofs.NormalForms.{star_keeps}
use Rattle.lt_rewrite.specs.declared.steps.StepKind.TheVariants as steps
use Rattle.lt_rewrite.proofs.PartRuns.{run_star}

-- Runs on the parts of an extension are runs inside the extension.

-- if the ranks of two steps inside an extension are in the same order as their ranks among the steps on extensions, a
-- step that comes no later than the other inside comes no later among extensions
later : (step other : Step) → (kind_rank step < kind_rank other → extension_rank step < extension_rank other)
    × (kind_rank step ≡ kind_rank other → extension_rank step ≡ extension_rank other) → IsNoLater kind_rank step other
    → IsNoLater extension_rank step other
later step other f (inl h) = inl (f.0 h)
later step other f (inr h) = inr (f.1 h.0, h.1)

-- Runs on parts of the type `F` as runs inside the extension that `of` makes of them. `Is` holds of the parts, and
-- steps keep it (`keeps`). Each step on the parts is one inside the extension and the other way round (`into`, `out`),
-- and the order of steps is the same (`ordered`).
module _ {F : Type 0} (R : List EntryParts) (k : ℕ) (Leads : F → Step → F → Type 0) (of : F → ExtensionParts) (Is : F → Type 0)
    (keeps : (p q : F) (step : Step) → Is p → Leads p step q → Is q)
    (into : (p q : F) (step : Step) → Is p → Leads p step q → ExtensionLeads R k (of p) step (of q))
    (out : (p : F) (step : Step) (f : ExtensionParts) → Is p → ExtensionLeads R k (of p) step f → (q : F) × Leads p step q × (f ≡ of q))
    (ordered : (p q r : F) (step other : Step) → Leads p step q → Leads p other r → IsNoLater kind_rank step other
    → IsNoLater extension_rank step other) where
  -- a run from the parts `p` of the extension `e` to parts `q` from which no step leads is a run inside the extension,
  -- to its normal form
  lifted_in : (p q : F) (e : ExtensionParts) (old new : List Step) → of p ≡ e → Is p
      → Adds Leads (λ _ step. kind_rank step) p q old new → NoneLeads (Leads q)
      → IsNormalForm (ExtensionStep R) e (of q)
      × Adds (ExtensionLeads R k) (λ _ step. extension_rank step) e (of q) old new
  lifted_in p q e old new same i a none =
      let l =
      adds_lift Leads (λ _ step. kind_rank step) (ExtensionLeads R k) (λ _ step. extension_rank step) Is of
      (λ x y step i h. (
        keeps x y step i h.leads,
        record {
          leads = into x y step i h.leads;
          first = λ other f l. let o = out x other f i l in
              ordered x y o.0 step other h.leads o.1 (h.first other o.0 o.1);
        },
      )) p q old new i a in
      subst (λ x. IsNormalForm (ExtensionStep R) x (of q)
      × Adds (ExtensionLeads R k) (λ _ step. extension_rank step) x (of q) old new) same (
        record {
          reached = run_star (ExtensionLeads R k) (λ _ step. extension_rank step) (ExtensionStep R) (λ x y step l. l.0)
              l.1.run (of p) (of q) l.1.is_run;
          at_rest = λ f s. let o = out q (extension_label R k s) f l.0 (s, refl) in none (extension_label R k s) o.0 o.1;
        },
        l.1,
      )

-- if a run on the parts of the `u` extension at the index `i` leads to parts from which no step leads, and its steps
-- are added, `ExplainsAt` holds of the extension that these parts spell
pub u_explained : (R : List EntryParts) (start : ℕ) {es : List ExtensionParts} {i : ℕ} {e : ExtensionParts} {p q
    : UForm} {old new : List Step} → FoundAt unicode es i e → e ≡ get_or es i e → IsUnicode e.subtags p
    → AddsOnUnicode (start + length (spell_extensions (take i es)) + 1) p q old new
    → NoneLeads (UnicodeLeads (start + length (spell_extensions (take i es)) + 1) q)
    → ExplainsAt R unicode start es i (of_u q) old new
u_explained R start {es = es} {i = i} {e = e} {p = p} {q = q} {old = old} {new = new} found is from a none =
    let k : ℕ = start + length (spell_extensions (take i es)) + 1 in
    let l =
    lifted_in R k (UnicodeLeads k) of_u IsU (λ p q step i l. u_shaped p q l.0 i)
    (λ p q step i l. unicode_changed R k (of_u p) step p q refl (record { shaped = i; spelled = refl }) l)
    (λ p step f i l. inside_u R k (of_u p) step f p refl (record { shaped = i; spelled = refl }) l)
    (λ p q r step other l m. later step other (omega (arith, u_ranks k p step q l, u_ranks k p other r m)))
    p q e old new (λ j. record { singleton = sym found.of_singleton j; subtags = from.spelled j }) from.shaped a none in
    record { settles = record { within = found.within; from = e; there = is; of_singleton = found.of_singleton; normal = l.0 }; adds = l.1 }

-- if a run on the parts of the `t` extension at the index `i` leads to parts from which no step leads, and its steps
-- are added, `ExplainsAt` holds of the extension that these parts spell
pub t_explained : (R : List EntryParts) → IsRegistry R
    → (start : ℕ) {es : List ExtensionParts} {i : ℕ} {e : ExtensionParts} {p q : TForm} {old new : List Step}
    → FoundAt transform es i e → e ≡ get_or es i e → IsTransform e.subtags p
    → AddsOnTransform R (start + length (spell_extensions (take i es)) + 1) p q old new
    → NoneLeads (TransformLeads R (start + length (spell_extensions (take i es)) + 1) q)
    → ExplainsAt R transform start es i (of_t q) old new
t_explained R G start {es = es} {i = i} {e = e} {p = p} {q = q} {old = old} {new = new} found is from a none =
    let k : ℕ = start + length (spell_extensions (take i es)) + 1 in
    let l =
    lifted_in R k (TransformLeads R k) of_t IsT (λ p q step i l. t_shaped R (step_shaped R G) p q l.0 i)
    (λ p q step i l. transform_changed R k (of_t p) step G p q refl (record { shaped = i; spelled = refl }) l)
    (λ p step f i l. inside_t R k (of_t p) step f p refl (record { shaped = i; spelled = refl }) l)
    (λ p q r step other l m. later step other (omega (arith, in_t R k p step q l, in_t R k p other r m)))
    p q e old new (λ j. record { singleton = sym found.of_singleton j; subtags = from.spelled j }) from.shaped a none in
    record { settles = record { within = found.within; from = e; there = is; of_singleton = found.of_singleton; normal = l.0 }; adds = l.1 }

-- the singleton of an extension
abbrev pub singleton_of : ExtensionParts → ℕ
singleton_of e = e.singleton

-- extensions are in order if others with the same singletons are
rising_same : (es fs : List ExtensionParts) → map singleton_of es ≡ map singleton_of fs → IsRising singleton_cmp es
    → IsRising singleton_cmp fs
rising_same [] [] e h = tt
rising_same (a ∷ []) (b ∷ []) e h = (tt, tt)
rising_same (a ∷ b ∷ es) (c ∷ d ∷ fs) e h =
    let x : a.singleton ≡ c.singleton = cc in
    let y : b.singleton ≡ d.singleton = cc in
    ((λ l. h.0 ((λ i. nat_cmp (y i) (x i)) ∙ l)), rising_same (b ∷ es) (d ∷ fs) (others_same _ _ _ _ e) h.1)
rising_same s t e h = absurd cc

-- no step on their order leads from extensions that are in order
ordered_rests : (es fs : List ExtensionParts) → IsRising singleton_cmp es → ListStep false singleton_cmp es fs → ⊥
ordered_rests es fs h (by_drop before a between b after o s) = absurd cc
ordered_rests es fs h (by_swap before a b after s) = rising_swaps singleton_cmp h s

-- each step inside the extension has a rank above the given one among the steps on extensions
abbrev pub IsBehind : List EntryParts → ℕ → ExtensionParts → Type 0
IsBehind R most e = (k : ℕ) (step : Step) (f : ExtensionParts) → ExtensionLeads R k e step f → most < extension_rank step

-- The first step inside the only extension with the singleton `n`, whose steps have ranks up to `most` (`own`), is the
-- first on all extensions, if these are in order, and steps inside the others have higher ranks.
module _ (R : List EntryParts) (start n most : ℕ) (own : (k : ℕ) (e : ExtensionParts) (step : Step) (f : ExtensionParts)
    → ExtensionLeads R k e step f → e.singleton ≡ n → extension_rank step ≤ most) (before after : List ExtensionParts)
  where
    -- `e`, between `before` and `after`, is the only extension with the singleton `n`; the extensions are in order, and
    -- steps inside the others have ranks above `most`
    pub record Leading (e : ExtensionParts) : Type 0 where
      pub singleton : e.singleton ≡ n
      pub distinct : Distinct (map singleton_of (before ++ e ∷ after))
      pub ordered : IsRising singleton_cmp (before ++ e ∷ after)
      pub behind : AllByRecursion (λ x. x.singleton ≢ n → IsBehind R most x) (before ++ e ∷ after)

    -- the place of the singleton of the extension between `before` and `after`
    abbrev here : ℕ
    here = start + length (spell_extensions before) + 1

    -- if `Leading` holds of an extension, it holds after a step inside it
    leading_step : (e f : ExtensionParts) → ExtensionStep R e f → Leading e → Leading f
    leading_step e f s h =
        let same : f.singleton ≡ e.singleton = extension_step_singleton R e f s in
        let all : map singleton_of (before ++ e ∷ after) ≡ map singleton_of (before ++ f ∷ after) =
        map-append singleton_of before (e ∷ after)
        ∙ ap (λ n. map singleton_of before ++ n ∷ map singleton_of after) (sym same)
        ∙ sym (map-append singleton_of before (f ∷ after)) in
        record {
          singleton = same ∙ h.singleton;
          distinct = subst Distinct all h.distinct;
          ordered = rising_same (before ++ e ∷ after) (before ++ f ∷ after) all h.ordered;
          behind = all_replaced (λ x. x.singleton ≢ n → IsBehind R most x) before e f after h.behind
              (λ ne. absurd (ne (same ∙ h.singleton)));
        }

    -- the first step inside the extension comes no later than any step on the extensions
    none_before : (e f : ExtensionParts) (step : Step) → Leading e
        → IsFirst (ExtensionLeads R here e) extension_rank step f → (other : Step) (gs : List ExtensionParts)
        → ExtensionsLeads R start (before ++ e ∷ after) other gs → IsNoLater extension_rank step other
    none_before e f step h i other gs (among s, x) = absurd (ordered_rests (before ++ e ∷ after) gs h.ordered s)
    none_before e f step h i other gs (inside before' e' f' after' there result s, x) =
        elim (cases_eq e'.singleton n) [
          | inl same ↦ i.first other f'
              (moved R start (distinct_cut before before' e e' after after' there h.distinct (h.singleton ∙ sym same))
              (s, x))
          | inr ne ↦
              let all = subst (AllByRecursion (λ x. x.singleton ≢ n → IsBehind R most x)) there h.behind in
              inl (omega (
                arith,
                own here e step f i.leads h.singleton,
                all_middle (λ x. x.singleton ≢ n → IsBehind R most x) before' e' after' all ne
                    (start + length (spell_extensions before') + 1) other f' (s, x),
              ))
        ]

    -- a run inside the only extension with the singleton `n` is a run on the extensions
    pub adds_among : (e f : ExtensionParts) (old new : List Step) → Leading e
        → Adds (ExtensionLeads R (start + length (spell_extensions before) + 1)) (λ _ step. extension_rank
        step) e f old new → AddsOnExtensions R start (before ++ e ∷ after) (before ++ f ∷ after) old new
    adds_among e f old new h a =
        (adds_lift (ExtensionLeads R here) (λ _ step. extension_rank step) (ExtensionsLeads R start)
        (λ _ step. extension_rank step) Leading (λ x. before ++ x ∷ after)
        (λ x y step h i. (
          leading_step x y i.leads.0 h,
          record { leads = (inside before x y after refl refl i.leads.0, i.leads.1); first = none_before x y step h i },
        )) e f old new h a).1

-- The steps on extensions in three phases: exchanges, steps inside the `u` extension, and those inside the `t`
-- extension.

-- the extensions before an index have no more subtags than all extensions
pub few_before : (i : ℕ) (es : List ExtensionParts) → length (spell_extensions (take i es)) ≤ length (spell_extensions es)
few_before i es = front_few spell_extension es i

-- if it is a `t` extension, it has the form of one (RFC 6497, 2.2)
abbrev pub HasForm : ExtensionParts → Type 0
HasForm e = e.singleton ≡ transform → (p : TForm) × IsTransform e.subtags p

-- what each phase keeps of the extensions: the singletons differ, `t` extensions have their form, and the places are
-- below the bound that the functions require
pub record IsKept (start : ℕ) (es : List ExtensionParts) : Type 0 where
  pub singletons : Distinct (map singleton_of es)
  pub transforms : AllByRecursion HasForm es
  pub few : start + length (spell_extensions es) ≤ 1100000

-- a list without repeats has none after two neighbours change places
distinct_swapped : (xs : List ℕ) (m n : ℕ) (ys : List ℕ) → Distinct (xs ++ m ∷ n ∷ ys) → Distinct (xs ++ n ∷ m ∷ ys)
distinct_swapped [] m n ys d = ((λ e. d.0.0 (sym e), d.1.0), (d.0.1, d.1.1))
distinct_swapped (x ∷ xs) m n ys d = (all_swapped (λ y. y ≢ x) xs m n ys d.0, distinct_swapped xs m n ys d.1)

-- if the singletons of extensions differ, they do so after a step on the order of the extensions
distinct_step : (es fs : List ExtensionParts) → ListStep false singleton_cmp es fs → Distinct (map singleton_of es)
    → Distinct (map singleton_of fs)
distinct_step es fs (by_swap before a b after s) d =
    subst Distinct (sym (ap (map singleton_of) s.result ∙ map-append singleton_of before (b ∷ a ∷ after)))
    (distinct_swapped (map singleton_of before) a.singleton b.singleton (map singleton_of after)
    (subst Distinct (ap (map singleton_of) s.there ∙ map-append singleton_of before (a ∷ b ∷ after)) d))
distinct_step es fs (by_drop before a between b after o s) d = absurd cc

-- the SwapExtensions step leads from one list of extensions, which begins after the given number of subtags, to another
abbrev pub Swapping : ℕ → List ExtensionParts → Step → List ExtensionParts → Type 0
Swapping = SwapsBy singleton_cmp spell_extension steps.SwapExtensions

-- after the phase of exchanges: the extensions `fs` are in order, and the steps that lead there are added
pub record Swapped (R : List EntryParts) (start : ℕ) (es fs : List ExtensionParts) (old new : List Step) : Type 0 where
  pub kept : IsKept start fs
  pub ordered : IsRising singleton_cmp fs
  pub adds : AddsOnExtensions R start es fs old new

module _ (R : List EntryParts) (start : ℕ) where
  -- the first exchange comes no later than any step on the extensions
  none_earlier : (es fs : List ExtensionParts) (step : Step) → IsFirst (Swapping start es) (λ _. 0) step fs
      → (other : Step) (gs : List ExtensionParts) → ExtensionsLeads R start es other gs
      → IsNoLater extension_rank step other
  none_earlier es fs step h other gs (inside before e f after there result s, x) =
      inl (omega (arith, ap order h.leads.of_kind, told R (start + length (spell_extensions before) + 1) e other f (s, x)))
  none_earlier es fs step h other gs (among s, x) =
      let l = as_swap singleton_cmp steps.SwapExtensions spell_extension start es gs other s x in
      inr (ap order h.leads.of_kind ∙ sym (ap order l.of_kind), omega (arith, h.first other gs l))

  -- after a run of exchanges to extensions `fs` from which none leads on, `Swapped` holds
  pub swapped : {es fs : List ExtensionParts} {old new : List Step} → IsKept start es
      → Adds (Swapping start) (λ _ _. 0) es fs old new → NoneLeads (Swapping start fs) → Swapped R start es fs old new
  swapped {es = es} {fs = fs} {old = old} {new = new} k a none =
      let lift =
      adds_lift (Swapping start) (λ _ _. 0) (ExtensionsLeads R start) (λ _ step. extension_rank step) (IsKept start) (λ l. l)
      (λ x y step k h.
      let s = to_swap singleton_cmp steps.SwapExtensions spell_extension start x y step h.leads in (
        record {
          singletons = distinct_step x y s.0 k.singletons;
          transforms = all_step HasForm x y s.0 k.transforms;
          few = omega (arith, k.few, spelled_step spell_extension x y s.0);
        },
        record { leads = (among s.0, s.1); first = none_earlier x y step h },
      )) es fs old new k a in
      record { kept = lift.0; ordered = rising_at_rest none; adds = lift.1 }

-- if `Explains` holds of an answer about the singleton `n`, `Settles` does, which does not speak of the steps
pub settles_of : (R : List EntryParts) (n start : ℕ) (es : List ExtensionParts) (o : Option (ℕ × ExtensionParts)) (old
    new : List Step) → Explains R n start es o old new → Settles R n es o
settles_of R n start es None old new h = none_rest R es n h.0
settles_of R n start es (Some p) old new h = h.settles

-- with the normal form, if one is given, in its place (`placed`) the extensions have the same singletons
placed_singletons : (R : List EntryParts) (n : ℕ) (es : List ExtensionParts) (o : Option (ℕ × ExtensionParts))
    → Settles R n es o → map singleton_of es ≡ map singleton_of (placed o es)
placed_singletons R n es None s = refl
placed_singletons R n es (Some p) s =
    sym (map-set_same singleton_of es p.0 p.1 s.from (keeps_singleton R n s.from p.1 s.of_singleton s.normal.reached
    ∙ sym s.of_singleton ∙ ap singleton_of s.there))

-- the steps inside the extension with the singleton `n` that are added are a run on the extensions, if these are in
-- order, the singletons differ, and steps inside the others have ranks above `most`
adds_placed : (R : List EntryParts) (start n most : ℕ)
    → ((k : ℕ) (e : ExtensionParts) (step : Step) (f : ExtensionParts) → ExtensionLeads R k e step f → e.singleton ≡ n
    → extension_rank step ≤ most) → (es : List ExtensionParts) (o : Option (ℕ × ExtensionParts)) (old new : List Step)
    → Explains R n start es o old new → Distinct (map singleton_of es) → IsRising singleton_cmp es
    → AllByRecursion (λ x. x.singleton ≢ n → IsBehind R most x) es → AddsOnExtensions R start es (placed o es) old new
adds_placed R start n most own es None old new h d r b = subst (λ l. AddsOnExtensions R start es es old l) (sym h.1)
    (adds_none (ExtensionsLeads R start) (λ _ step. extension_rank step) es old)
adds_placed R start n most own es (Some p) old new h d r b =
    let i : ℕ = p.0 in
    let e : ExtensionParts = h.settles.from in
    let there : es ≡ take i es ++ e ∷ drop (suc i) es = round es i e h.settles.within h.settles.there in
    let leading : Leading R start n most own (take i es) (drop (suc i) es) e = record {
      singleton = h.settles.of_singleton;
      distinct = subst (λ l. Distinct (map singleton_of l)) there d;
      ordered = subst (IsRising singleton_cmp) there r;
      behind = subst (AllByRecursion (λ x. x.singleton ≢ n → IsBehind R most x)) there b;
    } in
    subst (λ l. AddsOnExtensions R start l (set es i p.1) old new) (sym there)
    (subst (λ l. AddsOnExtensions R start (take i es ++ e ∷ drop (suc i) es) l old new) (sym (set_split es i p.1 h.settles.within))
    (adds_among R start n most own (take i es) (drop (suc i) es) e p.1 old new leading h.adds))

-- a step on extensions gives them no more subtags
few_step : (R : List EntryParts) (es fs : List ExtensionParts) → ExtensionsStep R es fs
    → length (spell_extensions fs) ≤ length (spell_extensions es)
few_step R es fs (inside before e f after there result s) =
    let l = spelled_replaced spell_extension before e f after (omega (arith, extension_step_length R e f s)) in
    omega (arith, l, ap (λ x. length (spell_extensions x)) there, ap (λ x. length (spell_extensions x)) result)
few_step R es fs (among s) = spelled_step spell_extension es fs s

-- after the phase of the `u` extension: the extensions `fs` are in order, no step leads from the `u` extension, and the
-- steps that lead there are added
pub record UPlaced (R : List EntryParts) (start : ℕ) (es fs : List ExtensionParts) (old new : List Step) : Type 0 where
  pub kept : IsKept start fs
  pub ordered : IsRising singleton_cmp fs
  pub u_rests : AllByRecursion (λ x. x.singleton ≡ unicode → Rests (ExtensionStep R) x) fs
  pub adds : AddsOnExtensions R start es fs old new

module _ (R : List EntryParts) (start : ℕ) {es fs gs hs : List ExtensionParts} (o : Option (ℕ × ExtensionParts))
    {old new : List Step} (newer : List Step) where
  -- after the phase of exchanges and that of the `u` extension, `UPlaced` holds
  pub after_u : Swapped R start es fs old new → gs ≡ fs → Explains R unicode start gs o new newer → hs ≡ placed o fs
      → UPlaced R start es hs old newer
  after_u m same h is =
      let x = subst (λ l. Explains R unicode start l o new newer) same h in
      let s = settles_of R unicode start fs o new newer x in
      let k = m.kept in
      subst (λ l. UPlaced R start es l old newer) (sym is)
      (record {
        kept = record {
          singletons = placed_distinct R unicode fs o s k.singletons;
          transforms = placed_keeps R HasForm unicode fs o s (λ x q t. absurd (omega (arith, q, t))) k.transforms;
          few = star_keeps (λ x. start + length (spell_extensions x) ≤ 1100000)
              (λ x y t m. omega (arith, m, few_step R x y t)) (placed_reached R unicode fs o s) k.few;
        };
        ordered = rising_same fs (placed o fs) (placed_singletons R unicode fs o s) m.ordered;
        u_rests = placed_rests R unicode fs o s k.singletons;
        adds =
            adds_all (ExtensionsLeads R start) (λ _ step. extension_rank step) es fs (placed o fs) old new newer m.adds
            (adds_placed R start unicode 13 (λ k e step f l h. omega (arith, told R k e step f l, h)) fs o new newer x
            k.singletons m.ordered
            (all_both HasForm HasForm (λ x. x.singleton ≢ unicode → IsBehind R 13 x)
            (λ e _ _ ne k step f l. omega (arith, told R k e step f l, ne)) fs k.transforms k.transforms));
      })

  -- after the phase of the `t` extension, which follows that of the `u` extension, the steps of all phases are one run
  -- on the extensions, and no step leads on
  pub after_t : UPlaced R start es fs old new → gs ≡ fs → Explains R transform start gs o new newer → hs ≡ placed o fs
      → AddsOnExtensions R start es hs old newer × NoneLeads (ExtensionsLeads R start hs)
  after_t m same h is =
      let x = subst (λ l. Explains R transform start l o new newer) same h in
      let s = settles_of R transform start fs o new newer x in
      let k = m.kept in
      let U : ExtensionParts → Type 0 = λ x. x.singleton ≡ unicode → Rests (ExtensionStep R) x in
      let all_rest =
      all_both U (λ (x : ExtensionParts). x.singleton ≡ transform → Rests (ExtensionStep R) x) (Rests (ExtensionStep R))
      (each_rests R) (placed o fs)
      (placed_keeps R U transform fs o s (λ x q t. absurd (omega (arith, q, t))) m.u_rests)
      (placed_rests R transform fs o s k.singletons) in
      subst (λ l. AddsOnExtensions R start es l old newer × NoneLeads (ExtensionsLeads R start l)) (sym is) (
        adds_all (ExtensionsLeads R start) (λ _ step. extension_rank step) es fs (placed o fs) old new newer m.adds
            (adds_placed R start transform 20 (λ k e step f l h. omega (arith, told R k e step f l, h)) fs o new newer x
            k.singletons m.ordered
            (all_both U U (λ x. x.singleton ≢ transform → IsBehind R 20 x) (λ x a _ ne. behind_t x a ne) fs m.u_rests m.u_rests)),
        λ step gs l. none all_rest (rising_same fs (placed o fs) (placed_singletons R transform fs o s) m.ordered) gs l.0,
      )
    where
      behind_t : (e : ExtensionParts) → (e.singleton ≡ unicode → Rests (ExtensionStep R) e) → e.singleton ≢ transform → IsBehind R 20 e
      behind_t e u ne k step f (in_unicode p q is_u kept from to s, h) = absurd (u is_u f (in_unicode p q is_u kept from to s))
      behind_t e u ne k step f (in_transform p q is_t _ _ _ _, h) = absurd (ne is_t)

      none : AllByRecursion (Rests (ExtensionStep R)) (placed o fs) → IsRising singleton_cmp (placed o fs)
          → (gs : List ExtensionParts) → ExtensionsStep R (placed o fs) gs → ⊥
      none all r gs (inside before e f after there result t) = all_middle (Rests (ExtensionStep R)) before e after
          (subst (AllByRecursion (Rests (ExtensionStep R))) there all) f t
      none all r gs (among t) = ordered_rests (placed o fs) gs r t
