-- A *trace* is steps that lead from a tag to another, and a *run* is a trace of which each step is the first that leads
-- on. These lemmas show that `verify` finds what is wrong with a trace, and that a run on the core of a tag, and then
-- the step Whole or a run on its extensions, make the one explanation that `explain` answers.
use Rattle.std.proofs.Common.{◌≡◌, ℕ, ◌+◌, ◌<◌, inl, inr, List, [], ◌∷◌, ◌++◌, Some, None, refl, sym, ap, ◌∙◌, subst}
use Rattle.std.proofs.Common.{length, take, drop, get_or, false, Ordering, arith, Bool, ◌≤◌, ◌≢◌, rules}
use Rattle.std.specs.Prelude.{if◌then◌else◌}
use Rattle.std.specs.List.{AllByRecursion}
use Rattle.lt_tag.specs.Parts.{CoreParts, ExtensionParts, TForm, TagForm, LangTag, PrivateUse}
use Rattle.lt_tag.specs.Extensions.{transform, IsTransform, spell_field, spell_keyword}
use Rattle.lt_registry.specs.Parts.{EntryParts}
use Rattle.lt_registry.specs.Validity.{IsProper, IsValid}
use Rattle.lt_registry.specs.Faults.{IsRefusal}
use Rattle.lt_rewrite.specs.Rewriting.{IsNormalForm, Rests, Star, then}
use Rattle.lt_rewrite.specs.Extensions.{ExtensionsStep, on_source, on_fields, ExtensionStep, in_unicode, in_transform}
use Rattle.lt_rewrite.specs.Extensions.{inside, among, on_attributes, on_keywords, on_types}
use Rattle.lt_check.specs.Conditions.{IsChecked}
use Rattle.lt_canon.specs.Answers.{IsCanonicalFormOf}
use Rattle.lt_canon.proofs.TagForm.{end_form, none_rests, steps_keep, extensions_step_from, value_rests, at_end, lang_at_end}
use Rattle.lt_rewrite.specs.Orderings.{ListStep}
use Rattle.lt_rewrite.specs.TagSteps.{TagChange, on_core, on_extensions, on_whole, TagStep, CanBeReplacedWhole}
use Rattle.lt_check.proofs.CheckedRegistry.{value_plain}
use Rattle.lt_canon.proofs.EndForms.{reached_is_end}
use Rattle.lt_rewrite.specs.CoreSteps.{IsCoreNormalForm, CoreStep}
use Rattle.std.specs.Ordering.{eq_by_cmp}
use Rattle.lt_tag.specs.WellFormed.{spell}
use Rattle.lt_tag.specs.Order.{tag_cmp}
use Rattle.lt_tag.specs.OrderLaws.{same_exactly, tag_total, tags_apart}
use Rattle.lt_tag.specs.Spelling.{spell_core, spell_extension, spell_extensions}
use Rattle.lt_tag.specs.Values.{IsTagValue, core_of, extensions_of, private_of, core_alone, number_of as tag_number}
use Rattle.lt_registry.proofs.ValidityLaws.{valid_law}
use Rattle.lt_registry.specs.Entries.{whole_value, entry, tag_of, whole, number_of}
use Rattle.lt_rewrite.specs.Laws.{AreOneStep}
use Rattle.std.proofs.lemmas.List.{take_more, drop_more, take-append-drop, length-take-le}
use Rattle.lt_registry.specs.declared.faults.ValidRefusal.{ValidRefusal}
use Rattle.lt_rewrite.proofs.Stars.{star_path}
use Rattle.lt_rewrite.specs.Labels.{LeadsBy, IsTrace, core_label, list_label, extension_label, extensions_label, tag_label, step_at}
use Rattle.lt_rewrite.specs.ApplyFaults.{IsApplyFault}
use Rattle.lt_rewrite.specs.declared.steps.Step.{Step}
use Rattle.lt_rewrite.specs.declared.apply_faults.ApplyFault.{ApplyFault}
use Rattle.lt_rewrite.specs.declared.apply_faults.ApplyFault.TheVariants as apply_faults
use Rattle.lt_rewrite.proofs.StepLaws.{fits, few_subtags, steps_determined, core_rank, core_low, core_high}
use Rattle.lt_canon.specs.Traces.{IsValidTrace, IsMisstep, IsTraceFault, IsFollowFault, of_invalid, no_trace_memory}
use Rattle.lt_canon.specs.declared.traces.TraceFault.{TraceFault}
use Rattle.lt_canon.specs.declared.traces.TraceFault.TheVariants as faults
use Rattle.std.proofs.lemmas.Bool.Decides.{nat_tests}
use Rattle.lt_rewrite.specs.Applying.{CoreLeads, ExtensionsLeads}
use Rattle.lt_rewrite.specs.Runs.{rank_of, kind_rank, extension_rank, IsNoLater, IsFirst, NoneLeads, IsRun, Adds}
use Rattle.lt_rewrite.specs.Runs.{AddsOnCore, AddsOnExtensions}
use Rattle.lt_rewrite.specs.declared.steps.StepKind.{StepKind}
use Rattle.lt_rewrite.specs.declared.steps.StepKind.TheVariants as steps
use Rattle.lt_canon.specs.Explaining.{rank_in, is_of_source, HasOneExplanation, IsExplanation, RestsOnCore, LeadsToRest}
use Rattle.lt_tag.specs.Splitting.{spell_source}
use Rattle.lt_rewrite.proofs.FirstSteps.{adds_none, adds_more, adds_all, run_lift}
use Rattle.lt_canon.proofs.RepeatedVariants.{form_is_end}
use Rattle.lt_canon.proofs.CanonicalForms.{core, form_some, langtag_of, refused, transforms_have_parts}
use Rattle.lt_canon.proofs.UsualForms.{trace_determined}

-- steps `xs` from `t` to `u`, and `ys` from there to `v`, are together a trace from `t` to `v`
trace_append : (R : List EntryParts) (xs ys : List Step) (t u v : TagForm) → IsTrace R t xs u → IsTrace R u ys v → IsTrace R t (xs ++ ys) v
trace_append R [] ys t u v h k = rw h k
trace_append R (x ∷ xs) ys t u v h k = (h.0, h.1, trace_append R xs ys h.0 u v h.2 k)

-- a trace of `xs` and then `ys` is one of `xs` to some tag `u`, and one of `ys` from there
trace_cut : (R : List EntryParts) (xs ys : List Step) (t v : TagForm) → IsTrace R t (xs ++ ys) v → (u : TagForm)
    × IsTrace R t xs u × IsTrace R u ys v
trace_cut R [] ys t v h = (t, refl, h)
trace_cut R (x ∷ xs) ys t v h = let rest = trace_cut R xs ys h.0 v h.2 in (rest.0, (h.0, h.1, rest.1), rest.2)

-- if `validate` refuses the tag `t`, that is the fault of every trace from it
pub invalid_trace : (R : List EntryParts) (t end : TagForm) (steps : List Step) (refused : ValidRefusal)
    → IsRefusal R t refused → IsTraceFault R t steps end (of_invalid refused)
invalid_trace R t end steps refused h = grind arith

-- if the steps before index `i` lead from `t` to `here`, from which step `i` leads nowhere, that is the misstep, with
-- the number `i + 1`; `default` stands for an index past the end
pub misstep_here : (R : List EntryParts) (t : TagForm) (steps : List Step) (i : ℕ) (default : Step) (here
    : TagForm) (fault : ApplyFault) → i < length steps → IsTrace R t (take i steps) here
    → IsApplyFault R here (get_or steps i default) fault → fault ≡ apply_faults.NoSuchStep → IsMisstep R t steps (i + 1)
misstep_here R t steps i default here fault h led stuck e =
    let there = sym (take-append-drop i steps) ∙ ap (λ xs. take i steps ++ xs) (drop_more steps i default h) in
    let nth : i + 1 ≡ length (take i steps) + 1 = ap (λ n. n + 1) (sym (length-take-le i steps (omega (arith, h)))) in
    let none = subst (IsApplyFault R here (get_or steps i default)) e stuck in
    search (rules, there, nth, none)

-- if the steps before index `i` lead from `t` to `here`, and step `i` leads from there to `next`, then the steps up to
-- it and with it lead to `next`; `default` stands for an index past the end
pub trace_here : (R : List EntryParts) (t : TagForm) (steps : List Step) (i : ℕ) (default : Step) (here next : TagForm)
    → i < length steps → IsTrace R t (take i steps) here → LeadsBy R here (get_or steps i default) next
    → IsTrace R t (take (i + 1) steps) next
trace_here R t steps i default here next h led on =
    rw (take_more steps i default h) (trace_append R (take i steps) (get_or steps i default ∷ []) t here next led (next, on, refl))

-- if `follow` refuses the steps from a valid tag with `fault`, that is the fault of the trace; `S`, `xs` and `told` are
-- the same entries, steps and fault
pub follow_fault : (R S : List EntryParts) (t end : TagForm) (steps xs : List Step) (fault told : TraceFault) → S ≡ R
    → xs ≡ steps → told ≡ fault → IsValid R t → IsFollowFault S t xs fault → IsTraceFault R t steps end told
follow_fault R S t end steps xs fault told e f same V h = let k = rw (e, f) at h in rw same (grind arith)

-- if the steps lead from a valid tag to `end`, and `last`, the last tag of the trace, compares as another, the fault of
-- the trace is WrongEnd
pub ends_elsewhere : (R : List EntryParts) (t end last : TagForm) (steps : List Step) (same : Bool) → IsValid R t
    → IsTrace R t steps end → same ≡ eq_by_cmp tag_cmp end last → same ≡ false
    → IsTraceFault R t steps last faults.WrongEnd
ends_elsewhere R t end last steps same V led e wrong =
    (V, record { tag = end; led = led; other = λ is. let yes = (same_exactly tag_total tags_apart end last same e).1 is in cc })

-- a trace with a fault other than OutOfMemory is not valid
pub fault_excludes : (R : List EntryParts) (t end : TagForm) (steps : List Step) (fault : TraceFault)
    → IsTraceFault R t steps end fault → fault ≢ no_trace_memory → IsValidTrace R t steps end → ⊥
fault_excludes R t end steps (faults.Invalid fault) h n v = (valid_law R t v.valid.proper.tag).0 v.valid fault.kind fault.place h.there
fault_excludes R t end steps (faults.NoSuchStep k) h n v =
    let cut = trace_cut R h.1.before (h.1.step ∷ h.1.after) t end (rw h.1.there at v.trace) in
    h.1.stuck cut.2.0 (rw (trace_determined R t cut.0 h.1.tag h.1.before cut.1 h.1.led) at cut.2.1)
fault_excludes R t end steps faults.WrongEnd h n v = h.1.other (trace_determined R t h.1.tag end steps h.1.led v.trace)
fault_excludes R t end steps faults.OutOfMemory h n v = n refl

-- the ranks of steps

-- a step on extensions that begin after `start` subtags: by its rank it comes after all steps on the core and Whole,
-- and if it is of a kind on cores, its place is after the core
record IsBehind (start : ℕ) (step : Step) : Type 0 where
  pub late : 8 ≤ extension_rank step
  pub behind : kind_rank step ≤ 6 → start < step.place

-- a swap or a drop in a list, of kinds with ranks from 8 on, comes after the steps on the core; the list begins after
-- `place` subtags
list_behind : {A : Type 0} {once : Bool} {cmp : A → A → Ordering} {xs ys : List A} (swap drop : StepKind)
    → 8 ≤ rank_of swap → 8 ≤ rank_of drop → (spell : A → List (List ℕ)) (start place : ℕ) (s : ListStep once cmp xs ys)
    → IsBehind start (list_label swap drop spell place s)
list_behind swap drop h k spell start place s = grind (arith, nat_tests)

-- a step on an extension comes after the steps on the core; the parts of the extension begin after `place` subtags, and
-- the extensions after `start`
extension_behind : (R : List EntryParts) (start place : ℕ) (e f : ExtensionParts) (s : ExtensionStep R e f)
    → start ≤ place → IsBehind start (extension_label R place s)
extension_behind R start place e f (in_unicode p q _ _ _ _ (on_attributes s k)) h = list_behind steps.SwapAttributes
    steps.DropAttribute (omega arith) (omega arith) (λ a. a ∷ []) start place s
extension_behind R start place e f (in_unicode p q _ _ _ _ (on_keywords a s)) h = list_behind steps.SwapKeywords
    steps.DropKeyword (omega arith) (omega arith) spell_keyword start (place + length p.attributes) s
extension_behind R start place e f (in_unicode p q _ _ _ _ (on_types a before k after s)) h = record
    { late = omega arith; behind = λ k. absurd (omega (arith, k)) }
extension_behind R start place e f (in_transform p q _ _ _ _ (on_fields a s)) h = list_behind steps.SwapFields
    steps.SwapFields (omega arith) (omega arith) spell_field start (place + length (spell_source p.source)) s
extension_behind R start place e f (in_transform p q _ _ _ _ (on_source c d _ _ s _)) h =
    let r = core_rank R place c d s in
    record { late = omega (arith, r.some, r.raised); behind = λ _. omega (arith, h, core_low R place c d s) }

-- a step on extensions that begin after `start` subtags comes after the steps on the core
extensions_behind : (R : List EntryParts) (start : ℕ) (es fs : List ExtensionParts) (s : ExtensionsStep R es fs)
    → IsBehind start (extensions_label R start s)
extensions_behind R start es fs (inside before e f after there result s) = extension_behind R start
    (start + length (spell_extensions before) + 1) e f s (omega arith)
extensions_behind R start es fs (among s) = list_behind steps.SwapExtensions steps.SwapExtensions (omega arith)
    (omega arith) spell_extension start start s

-- the ranks in a tag

module _ (R : List EntryParts) (c : CoreParts) (es : List ExtensionParts) (ps : List (List ℕ)) where
  -- the langtag whose steps these lemmas rank
  abbrev here : TagForm
  here = LangTag c es ps

  -- the rank in the tag of a step on its core is that of its kind, at most 6
  core_leads_rank : (step : Step) (d : CoreParts) → CoreLeads R 0 c step d → (rank_in here step ≡ kind_rank step) × (kind_rank step ≤ 6)
  core_leads_rank step d l =
      let low : step.place ≤ length (spell_core c) = subst (λ (x : Step). x.place ≤ length (spell_core c)) l.1
      (omega (arith, core_high R 0 c d l.0)) in
      (grind (arith, nat_tests), subst (λ (x : Step). kind_rank x ≤ 6) l.1 (core_rank R 0 c d l.0).most)

  -- the rank in the tag of a step on its extensions is at least 8, so that it comes after Whole (7)
  extensions_lead_rank : (step : Step) (fs : List ExtensionParts) → ExtensionsLeads R (length (spell_core c)) es step fs
      → (rank_in here step ≡ extension_rank step) × (8 ≤ extension_rank step)
  extensions_lead_rank step fs l =
      let b = subst (IsBehind (length (spell_core c))) l.1 (extensions_behind R (length (spell_core c)) es fs l.0) in
      (grind (arith, nat_tests, b.behind), b.late)

  -- `Q` follows from a step on the tag if it follows from each of the three cases: a step on the core, one on the
  -- extensions, and Whole
  leads_by : (Q : Type 0) (step : Step) (u : TagForm) → LeadsBy R here step u
      → ((d : CoreParts) → CoreLeads R 0 c step d → Q)
      → ((fs : List ExtensionParts) → ExtensionsLeads R (length (spell_core c)) es step fs → Q)
      → (CanBeReplacedWhole here → rank_in here step ≡ 7 → Q) → Q
  leads_by Q step u l f g h = by l.0.change l.1
    where
      by : (s : TagChange R here u) → tag_label R s ≡ step → Q
      by (on_core b d fs qs from _ s) e = let same : b ≡ c = cc in f d (subst (λ x. CoreLeads R 0 x step d) same (s, e))
      by (on_extensions b gs fs qs from _ s) e =
          let one : b ≡ c = cc in
          let all : gs ≡ es = cc in
          g fs (rw (← one, ← all) (s, e))
      by (on_whole is_plain _) e = h is_plain (ap (rank_in here) (sym e))

  module _ (C : IsChecked R) where
    -- the first of the steps on the core is the first of all steps on the tag
    pub core_is_first : (step : Step) (d : CoreParts) → IsProper R here → IsFirst (CoreLeads R 0 c) kind_rank step d
        → IsProper R (LangTag d es ps) × IsFirst (LeadsBy R here) (rank_in here) step (LangTag d es ps)
    core_is_first step d P h =
        let to = (steps_keep R C).core c d es ps h.leads.0 P in
        let a = core_leads_rank step d h.leads in (
          to,
          record {
            leads = (record { from = P; to = to; change = on_core c d es ps refl refl h.leads.0 }, h.leads.1);
            first = λ other u l. leads_by (IsNoLater (rank_in here) step other) other u l
                (λ e k. rw (a.0, (core_leads_rank other e k).0) (h.first other e k))
                (λ fs k. let b = extensions_lead_rank other fs k in inl (omega (arith, a.0, a.1, b.0, b.1)))
                (λ p b. inl (omega (arith, a.0, a.1, b)));
          },
        )

    -- if no step on the core leads on, the first on the extensions is the first of all steps on the tag
    pub extensions_is_first : (step : Step) (fs : List ExtensionParts) → IsProper R here → NoneLeads (CoreLeads R 0 c)
        → IsFirst (ExtensionsLeads R (length (spell_core c)) es) extension_rank step fs → IsProper R (LangTag c fs ps)
        × IsFirst (LeadsBy R here) (rank_in here) step (LangTag c fs ps)
    extensions_is_first step fs P none h =
        let to = (steps_keep R C).extensions c es fs ps h.leads.0 P in (
          to,
          record {
            leads = (record { from = P; to = to; change = on_extensions c es fs ps refl refl h.leads.0 }, h.leads.1);
            first = λ other u l. leads_by (IsNoLater (rank_in here) step other) other u l
                (λ d k. absurd (none other d k))
                (λ gs k. rw ((extensions_lead_rank step fs h.leads).0, (extensions_lead_rank other gs k).0) (h.first other gs k))
                (λ p _. absurd (extensions_step_from R es fs h.leads.0 p.0));
          },
        )

-- the kinds by their ranks in a tag; 14 to 19 are those of steps on a source, and 20 is that of SwapFields
kind_at : ℕ → StepKind
kind_at n = get_or (
    steps.Whole ∷ steps.Extlang ∷ steps.Language ∷ steps.Script ∷ steps.Region ∷ steps.Variant ∷ steps.VariantLanguage ∷ steps.Whole ∷
    steps.SwapExtensions ∷ steps.DropAttribute ∷ steps.SwapAttributes ∷ steps.DropKeyword ∷ steps.SwapKeywords ∷ steps.DropTrue ∷
    steps.Extlang ∷ steps.Language ∷ steps.Script ∷ steps.Region ∷ steps.Variant ∷ steps.VariantLanguage ∷ []) n steps.SwapFields

-- the rank of a step, on a source or elsewhere, tells its kind
kind_back : (source : Bool) (kind : StepKind) → kind_at (if source then extension_rank (step_at kind 0 0) else rank_of kind) ≡ kind
unfolding kind_at
kind_back source kind = grind arith

-- of two steps that each come no later than the other, the ranks and the places are equal
both_first : (rank : Step → ℕ) (a b : Step) → IsNoLater rank a b → IsNoLater rank b a → (rank a ≡ rank b) × (a.place ≡ b.place)
both_first rank a b h k = (grind arith, grind arith)

-- two runs from one tag, each to where no step leads on, are equal, and so are their ends
one_run : (R : List EntryParts) (t a b : TagForm) (xs ys : List Step) → IsRun (LeadsBy R) rank_in t xs a
    → IsRun (LeadsBy R) rank_in t ys b → Rests (TagStep R) a → Rests (TagStep R) b → (xs ≡ ys) × (a ≡ b)
one_run R t a b [] [] h k m n = (refl, sym h ∙ k)
one_run R t a b [] (y ∷ ys) h k m n = absurd (m k.0 (subst (λ x. TagStep R x k.0) h k.1.leads.0))
one_run R t a b (x ∷ xs) [] h k m n = absurd (n h.0 (subst (λ x. TagStep R x h.0) k h.1.leads.0))
one_run R t a b (x ∷ xs) (y ∷ ys) h k m n =
    let e = both_first (rank_in t) x y (h.1.first y k.0 k.1.leads) (k.1.first x h.0 h.1.leads) in
    let one : AreOneStep x y h.0 k.0 = steps_determined R t h.0 k.0 x y h.1.leads k.1.leads
    (sym (kind_back (is_of_source t x) x.kind) ∙ ap kind_at e.0 ∙ kind_back (is_of_source t y) y.kind) e.1 in
    let rest = one_run R h.0 a b xs ys h.2 (subst (λ c. IsRun (LeadsBy R) rank_in c ys b) (sym one.result) k.2) m n in
    (λ i. one.same i ∷ rest.0 i, rest.1)

-- a tag has one explanation
pub one_explanation : (R : List EntryParts) → HasOneExplanation R
one_explanation R t a b xs ys h k = one_run R t a b xs ys h.is_run k.is_run h.form.canonical.at_rest k.form.canonical.at_rest

-- the extensions of a tag have at most 1,049,600 subtags: 1,024 extensions of 1,025 each, the singleton counted
pub few_in_tag : (t : TagForm) (es : List ExtensionParts) → IsTagValue t → es ≡ extensions_of t → length (spell_extensions es) ≤ 1049600
few_in_tag t es v e = let f = fits t v.counts in rw e (omega (arith, f.0, few_subtags (extensions_of t) f.1))

-- a langtag that is no core alone, as `core_alone` tells, has extensions or private use
more_than_core : (core : CoreParts) (es : List ExtensionParts) (ps : List (List ℕ))
    → ((k : CoreParts) → LangTag core es ps ≡ core_alone k → ⊥) → 0 < length es + length ps
more_than_core core [] [] h = absurd (h core refl)
more_than_core core _ _ h = omega arith

-- if each step that leads on is a `Move`, a run of steps is a chain of such moves
run_star : {A : Type 0} (Leads : A → Step → A → Type 0) (rank : A → Step → ℕ) (Move : A → A → Type 0)
    → ((a : A) (step : Step) (b : A) → Leads a step b → Move a b) → (run : List Step) (a b : A)
    → IsRun Leads rank a run b → Star Move a b
run_star Leads rank Move move [] a b h = star_path a b h
run_star Leads rank Move move (step ∷ run) a b h = (then) (move a step h.0 h.1.leads) (run_star Leads rank Move move run h.0 b h.2)

module _ (R : List EntryParts) where
  -- a run from a tag is a trace from it
  run_trace : (run : List Step) (t end : TagForm) → IsRun (LeadsBy R) rank_in t run end → IsTrace R t run end
  run_trace [] t end h = h
  run_trace (step ∷ run) t end h = (h.0, h.1.leads, run_trace run h.0 end h.2)

  -- if no step leads on from a core, the core is at rest
  core_rests : (d : CoreParts) → NoneLeads (CoreLeads R 0 d) → Rests (CoreStep R) d
  core_rests d none e s = none (core_label R 0 s) e (s, refl)

  -- from a tag that can be replaced whole, whose core is at rest, there is no step but Whole, at place 1, with the
  -- number of the tag's record
  only_whole : (t : TagForm) → CanBeReplacedWhole t → RestsOnCore R t
      → (step : Step) (u : TagForm) (s : TagChange R t u) → tag_label R s ≡ step
      → step ≡ step_at steps.Whole 1 (number_of (whole R t))
  only_whole t h k step u (on_core c d es ps from _ s) e = absurd (k c (ap core_of from) (core_label R 0 s) d (s, refl))
  only_whole t h k step u (on_extensions c es fs ps from _ s) e = let p : CanBeReplacedWhole (LangTag c es ps) = subst
      CanBeReplacedWhole from h in absurd (extensions_step_from R es fs s p.0)
  only_whole t h k step u (on_whole _ _) e = sym e

  module _ (C : IsChecked R) where
    -- a run of steps on the core of a proper langtag is one on the tag, which leads to a proper langtag of the core
    -- `d`; `old` and `new` are the steps before and after the run is added
    pub adds_on_core : (c d : CoreParts) (es : List ExtensionParts) (ps : List (List ℕ)) (old new : List Step)
        → IsProper R (LangTag c es ps) → AddsOnCore R 0 c d old new → IsProper R (LangTag d es ps)
        × Adds (LeadsBy R) rank_in (LangTag c es ps) (LangTag d es ps) old new
    adds_on_core c d es ps old new P h =
        let lifted = run_lift (CoreLeads R 0) (λ _ step. kind_rank step) (LeadsBy R) rank_in
        (λ x. IsProper R (LangTag x es ps)) (λ x. LangTag x es ps)
        (λ a b step p k. core_is_first R a es ps C step b p k) h.run c d P h.is_run in
        (lifted.0, record { run = h.run; added = h.added; is_run = lifted.1 })

    -- where the core of a tag is at rest, the Whole step to its value `u` is the first that leads on
    whole_is_first : (t u : TagForm) (step : Step) → IsProper R t → CanBeReplacedWhole t → RestsOnCore R t
        → whole_value R t ≡ Some u → step ≡ step_at steps.Whole 1 (number_of (whole R t))
        → IsFirst (LeadsBy R t) (rank_in t) step u
    whole_is_first t u step P h k v e = record {
      leads = (record { from = P; to = (value_plain R C t u v).valid.proper; change = on_whole h v }, sym e);
      first = λ other b l. let same : step ≡ other = e ∙ sym (only_whole t h k other b l.0.change l.1) in
          inr (ap (rank_in t) same, omega (arith, ap (λ (x : Step). x.place) same));
    }

    -- if a run from `t` to `u` makes `mid` of the steps `old`, and a run from there to a tag at rest makes `new` of
    -- `mid`, then a run from `t` to a tag at rest makes `new` of `old`
    pub first_adds : (t u : TagForm) (old mid new : List Step) → Adds (LeadsBy R) rank_in t u old mid
        → LeadsToRest R u mid new → LeadsToRest R t old new
    first_adds t u old mid new h k = record {
      end = k.end;
      adds = adds_all (LeadsBy R) rank_in t u k.end old mid new h
          k.adds;
      at_rest = k.at_rest;
    }

    -- no step leads on from a tag whose core and extensions are at rest, and that has no value, so its explanation adds
    -- none
    at_rest_explained : (t : TagForm) (old : List Step) → RestsOnCore R t → Rests (ExtensionsStep R) (extensions_of t)
        → (CanBeReplacedWhole t → whole_value R t ≡ None) → LeadsToRest R t old old
    at_rest_explained t old k m w = record {
      end = t;
      adds = adds_none (LeadsBy R) rank_in t old;
      at_rest = λ u s. at_end R t (λ c e. core_rests c (k c e)) m w u s.change;
    }

    -- no step leads on from a tag that can be replaced whole but has no value, and whose core is at rest, so its
    -- explanation adds none
    pub valueless_explained : (t : TagForm) (old : List Step) → CanBeReplacedWhole t → RestsOnCore R t
        → whole_value R t ≡ None → LeadsToRest R t old old
    valueless_explained (LangTag c es ps) old h k e = at_rest_explained (LangTag c es ps) old k (rw h.0 (none_rests R)) (λ _. e)
    valueless_explained t old h k e = at_rest_explained t old k (none_rests R) (λ _. e)

    -- If the record of a tag as a whole is `entry`, with this number and the value `value`, then Whole, which makes
    -- `mid` of `old`, and the steps on the core of the value to `form`, which make `new` of `mid`, lead to a tag at
    -- rest. `copied` is a copy of that core, with which these steps begin.
    pub value_rests_by : (t value : TagForm) (entry : EntryParts) (core copied form : CoreParts) (number : ℕ) (old mid
        new : List Step) → IsProper R t → CanBeReplacedWhole t → RestsOnCore R t → Some entry ≡ whole R t
        → Some value ≡ tag_of entry.value → Some core ≡ core_of value → copied ≡ core → number ≡ entry.number
        → mid ≡ old ++ step_at steps.Whole 1 number ∷ [] → AddsOnCore R 0 copied form mid new
        → NoneLeads (CoreLeads R 0 form) → LeadsToRest R t old new
    value_rests_by t value entry core copied form number old mid new P h k found gives there same numbered m a none =
        let v = value_plain R C t value (grind arith) in
        let is : whole_value R t ≡ Some (core_alone copied) = grind arith in
        let normal : IsCoreNormalForm R copied form = record {
          reached = run_star (CoreLeads R 0) (λ _ step. kind_rank step) (CoreStep R) (λ a step b l. l.0) a.run
              copied form a.is_run;
          at_rest = core_rests form none;
        } in
        let rest : LeadsToRest R (core_alone form) new new = valueless_explained (core_alone form) new (refl, refl)
        (λ c i. let j : form ≡ c = cc in rw j at none) (value_rests R C t copied form is normal) in
        let one : Adds (LeadsBy R) rank_in t (core_alone copied) old mid = adds_more (LeadsBy R) rank_in t t
        (core_alone copied) old old mid (step_at steps.Whole 1 number) (adds_none (LeadsBy R) rank_in t old)
        (whole_is_first t (core_alone copied) (step_at steps.Whole 1 number) P h k is
        (ap (step_at steps.Whole 1) (numbered ∙ ap number_of found))) m in
        first_adds t (core_alone copied) old mid new one (first_adds (core_alone copied) (core_alone form) mid new new
        (adds_on_core copied form [] [] mid new (value_plain R C t (core_alone copied) is).valid.proper a).1 rest)

    -- for a tag that is the core `core` without extensions and private use, the steps on the core to `d`, which make
    -- `mid` of `old`, lead to `core_alone d`, which is proper
    pub plain_explained : (t : TagForm) (core d k : CoreParts) (old mid : List Step) → IsProper R t
        → Some core ≡ core_of t → t ≡ core_alone k → AddsOnCore R 0 core d old mid → IsProper R (core_alone d)
        × Adds (LeadsBy R) rank_in t (core_alone d) old mid
    plain_explained t core d k old mid P h e a =
        let same : t ≡ core_alone core = grind arith in
        let on = adds_on_core core d [] [] old mid (rw same at P) a in
        (on.0, rw same on.1)

    -- for a langtag with extensions or private use, the steps on its core to `d`, which make `mid` of `old`, and then
    -- those on its extensions to `fs`, which make `new` of `mid`, lead to a tag at rest; the extensions begin after
    -- `start` subtags
    pub langtag_explained : (t : TagForm) (core d : CoreParts) (es fs : List ExtensionParts) (start : ℕ) (old mid new
        : List Step) → IsProper R t → Some core ≡ core_of t → es ≡ extensions_of t
        → ((k : CoreParts) → t ≡ core_alone k → ⊥) → AddsOnCore R 0 core d old mid → NoneLeads (CoreLeads R 0 d)
        → start ≡ length (spell_core d) → AddsOnExtensions R start es fs mid new
        → NoneLeads (ExtensionsLeads R start fs) → LeadsToRest R t old new
    langtag_explained t core d es fs start old mid new P h e more a none place b nowhere =
        let ps : List (List ℕ) = private_of t in
        let same : t ≡ LangTag core es ps = langtag_of t core (sym h) ∙ (λ i. LangTag core (sym e i) ps) in
        let on = adds_on_core core d es ps old mid (rw same at P) a in
        let b : AddsOnExtensions R (length (spell_core d)) es fs mid new = rw place at b in
        let nowhere : NoneLeads (ExtensionsLeads R (length (spell_core d)) fs) = rw place at nowhere in
        let normal : IsNormalForm (ExtensionsStep R) es fs = record {
          reached = run_star (ExtensionsLeads R (length (spell_core d))) (λ _ step. extension_rank step)
              (ExtensionsStep R) (λ a step b l. l.0) b.run es fs b.is_run;
          at_rest = λ gs s. nowhere (extensions_label R (length (spell_core d)) s) gs (s, refl);
        } in
        let left = form_some R C es fs ps normal (more_than_core core es ps (rw same at more)) in
        let lifted = run_lift (ExtensionsLeads R (length (spell_core d))) (λ _ step. extension_rank step) (LeadsBy R)
        rank_in (λ x. IsProper R (LangTag d x ps)) (λ x. LangTag d x ps)
        (λ a b step p k. extensions_is_first R d a ps C step b p none k) b.run es fs on.0 b.is_run in
        let rest : LeadsToRest R (LangTag d es ps) mid new = record {
          end = LangTag d fs ps;
          adds = record { run = b.run; added = b.added; is_run = lifted.1 };
          at_rest = λ u s. lang_at_end R d fs ps (core_rests d none) normal.at_rest
              (λ h. absurd (omega (arith, left, ap length h.0, ap length h.1))) u s.change;
        } in
        rw same (first_adds (LangTag core es ps) (LangTag d es ps) old mid new on.1 rest)

    -- a tag that is neither a langtag nor grandfathered is of private use, and no step leads on from it
    pub coreless_explained : (t : TagForm) (old : List Step) → core_of t ≡ None → tag_number t ≡ None → LeadsToRest R t old old
    coreless_explained (PrivateUse ps) old h k = at_rest_explained (PrivateUse ps) old (λ c e. cc) (none_rests R) (λ w. absurd w)
    coreless_explained _ old h k = cc

    -- each `t` extension of a proper tag has the parts of one, which the steps on its source need
    pub transforms_of : (t : TagForm) → IsProper R t → AllByRecursion (λ (e : ExtensionParts). e.singleton ≡ transform
        → (p : TForm) × IsTransform e.subtags p) (extensions_of t)
    transforms_of (LangTag c es ps) P = transforms_have_parts R es P.parts.extensions
    transforms_of _ P = tt

    -- a run from a tag with a canonical form to where no step leads on is its explanation: it ends in that form
    pub explained : (t end : TagForm) (run : List Step) → IsCanonicalFormOf R t end → LeadsToRest R t [] run → IsExplanation R t run end
    explained t end run F h =
        let same : h.end ≡ end =
        sym (reached_is_end (end_form R C) t h.end F.valid.proper
        (run_star (LeadsBy R) rank_in (TagStep R) (λ a step b l. l.0) h.adds.run t h.end h.adds.is_run) h.at_rest)
        ∙ form_is_end R C t end F in
        let is_run : IsRun (LeadsBy R) rank_in t run end = rw (h.adds.added, ← same) h.adds.is_run in
        record { form = F; trace = run_trace run t end is_run; is_run = is_run }
