-- For a core without extlangs and variants the short test `core_valued` finds the first fault of the tag, or whether a
-- subtag has a value: `canonical` needs this. A langtag whose subtags *stay* as they are is its own canonical form:
-- `append_usual_text` needs this. At the end are the laws of traces.
use Rattle.std.proofs.Common.{◌≡◌, ℕ, inr, List, [], ◌∷◌, ◌++◌, Some, None, refl, sym, ap, ◌∙◌, subst, false, arith}
use Rattle.std.proofs.Common.{Bool, Err, Ok, All, rules}
use Rattle.std.specs.Prelude.{MatchResult, Result}
use Rattle.lt_tag.specs.Parts.{CoreParts, TagForm}
use Rattle.lt_registry.specs.Parts.{EntryParts}
use Rattle.lt_registry.specs.Validity.{IsValid}
use Rattle.lt_registry.specs.Faults.{HasNoFault, HasFault, IsFirstFault}
use Rattle.lt_rewrite.specs.Rewriting.{done, then}
use Rattle.lt_rewrite.proofs.PartLists.{empty_middle}
use Rattle.lt_check.specs.Conditions.{IsChecked}
use Rattle.lt_canon.specs.Answers.{IsCanonicalFormOf}
use Rattle.lt_canon.specs.Settled.{IsDistinctForm, IsSettledTag}
use Rattle.lt_canon.proofs.TagForm.{none_rests}
use Rattle.lt_rewrite.specs.TagSteps.{IsReached}
use Rattle.lt_rewrite.proofs.CoreSteps.{AtRest, rests}
use Rattle.lt_check.proofs.CheckedRegistry.{found_name}
use Rattle.lt_canon.proofs.EndForms.{star_equivalent}
use Rattle.lt_tag.specs.WellFormed.{spell}
use Rattle.lt_tag.specs.Conventional.{conventional}
use Rattle.lt_tag.specs.Faults.{HasTag}
use Rattle.lt_tag.specs.Values.{IsTagValue, core_of, core_alone}
use Rattle.lt_registry.proofs.ValidityLaws.{valid_law}
use Rattle.lt_registry.specs.Entries.{is_whole, tag_of, whole}
use Rattle.lt_tag.specs.Lists.{list_of}
use Rattle.std.proofs.lemmas.Slice.Eq.{bytes_eq-Decides}
use Rattle.lt_rewrite.proofs.Entries.{find_has}
use Rattle.std.proofs.lemmas.List.Folds.{list_any_at}
use Rattle.lt_check.specs.Staying.{replaces_plain_of, StaysAs, IsStaying}
use Rattle.lt_canon.specs.Texts.{AppendsCanonicalText}
use Rattle.lt_canon.specs.UsualTags.{IsUsual, core_valued}
use Rattle.lt_registry.specs.Checking.{Counted, core_check, variants_check}
use Rattle.lt_registry.specs.declared.faults.ValidFault.{ValidFault}
use Rattle.lt_registry.proofs.CoreFaultLemmas.{core_tells}
use Rattle.lt_registry.proofs.VariantFaultLemmas.{first_same}
use Rattle.lt_registry.proofs.TagFaultLemmas.{tag_core_first}
use Rattle.lt_rewrite.proofs.Stars.{star_path}
use Rattle.lt_rewrite.specs.Labels.{IsTrace}
use Rattle.lt_rewrite.specs.declared.steps.Step.{Step}
use Rattle.lt_rewrite.proofs.StepLaws.{steps_determined}
use Rattle.lt_canon.specs.TraceLaws.{TracesReachTheirEnd, TracesHaveOneEnd}
use Rattle.lt_canon.proofs.CanonicalForms.{settled_canonical}

-- on a core without extlangs and variants the short test `core_valued` finds the fault that `core_check` finds, or none
-- if that finds none
usual_told : (R : List EntryParts) (c : CoreParts) → IsUsual c → (r : Result Bool ValidFault) → core_valued R c ≡ r
    → MatchResult r (λ _. core_check R false 0 c ≡ Ok tt) (λ fault. core_check R false 0 c ≡ Err fault)
unfolding core_valued core_check variants_check
usual_told R c u (Ok b) h = grind arith
usual_told R c u (Err fault) h = grind arith

module _ (R : List EntryParts) (t : TagForm) (c : CoreParts) (u : IsUsual c) (k : t ≡ core_alone c) where
  -- a fault of the short test is the first fault of the tag `t`, which is the core `c` alone: without extensions and
  -- private use
  pub usual_refused : (fault : ValidFault) → core_valued R c ≡ Err fault → IsFirstFault R t fault.kind fault.place
  usual_refused fault h =
      first_same (Counted false (HasFault R t)) (HasFault R t) fault.kind fault.place
      (record { there = λ kind place f. f.0; back = λ kind place f. (f, λ e. cc) })
      (tag_core_first R false t c fault (sym (ap core_of k)) (usual_told R c u (Err fault) h))

  -- a core alone of which `core_check` finds no fault has none as a tag
  no_fault : core_check R false 0 c ≡ Ok tt → HasNoFault R (core_alone c)
  no_fault told kind place f = let tells = rw told at (core_tells R false 0 c) in grind (arith, empty_middle, tells)

  -- where the short test `core_valued` finds no fault, the tag `t`, which is the core `c` alone, is valid
  pub usual_valid : (b : Bool) → IsTagValue t → core_valued R c ≡ Ok b → IsValid R t
  usual_valid b v h = (valid_law R t v).1 (rw k (no_fault (usual_told R c u (Ok b) h)))

  -- where the short test finds neither a fault nor a value, the tag's parts are in their normal forms
  pub usual_settled : IsTagValue t → core_valued R c ≡ Ok false → IsSettledTag R t t
  unfolding core_valued
  usual_settled v h =
      let rest : AtRest R c = grind arith in
      let form : IsDistinctForm R c c = record {
        normal = record { reached = done; at_rest = λ d s. rests R c d rest s };
        distinct = (rw k at (usual_valid false v h)).distinct.0;
      } in
      let settled : IsSettledTag R (core_alone c) t = record {
        core = c;
        extensions = [];
        is = k;
        form = form;
        normal = record { reached = done; at_rest = none_rests R };
        distinct = tt;
      } in
      subst (λ a. IsSettledTag R a t) (sym k) settled

-- ---- no subtag has a value

module _ (R : List EntryParts) (text : List ℕ) (c : CoreParts) (stay : StaysAs R text c) where
  -- none of the subtags of a text that stays as the core `c` alone has a value
  valued : core_valued R c ≡ Ok false
  unfolding core_valued
  valued = grind arith

  -- ---- no whole record replaces it

  -- no record with a value replaces a langtag of the language of a text that stays, without extlangs and variants
  replaces_none : All (λ (e : EntryParts). replaces_plain_of c.language e ≡ false) R
  replaces_none k d within = grind (arith, list_any_at)

  -- no whole record of a core of a text that stays has a value
  no_value : (e : EntryParts) → whole R (core_alone c) ≡ Some e → tag_of e.value ≡ None
  no_value e h =
      let other = (find_has (λ (e : EntryParts). replaces_plain_of c.language e ≡ false)
      (λ (e : EntryParts). is_whole (core_alone c) e.name) R e replaces_none h).0 in
      let name = found_name R (core_alone c) e h in
      grind (arith, bytes_eq-Decides)

  -- if a text that stays is read as the core `c` alone, this is its own canonical form
  pub stays_canonical : IsChecked R → IsCanonicalFormOf R (core_alone c) (core_alone c)
  stays_canonical C =
      let usual : IsUsual c = record { extlangs = stay.extlangs; variants = stay.variants } in
      let value : IsTagValue (core_alone c) = record
      { tag = stay.read.tag; counts = (rw stay.variants (omega arith), omega arith, tt, omega arith) } in
      settled_canonical R C (core_alone c) (core_alone c) (core_alone c)
      (usual_valid R (core_alone c) c usual refl false value valued)
      (usual_settled R (core_alone c) c usual refl value valued)
      (inr (record { none = λ _. grind (arith, no_value); same = refl }))

-- if the text of the canonical form of the tag that `text` is read as was appended to `old`, the canonical text of
-- `text` was appended
pub appended : (R : List EntryParts) (text : List ℕ) (tag form : TagForm) (old new : List ℕ) → HasTag text tag
    → IsCanonicalFormOf R tag form
    → new ≡ old ++ conventional (spell form) → AppendsCanonicalText R text old new
appended R text tag form old new read is grown = search rules

-- of a text that stays as it is, the canonical text is the text in conventional case; `old` and `new` are the bytes
-- before and after it is appended
pub stays_appended : (R : List EntryParts) → IsChecked R → (text old new : List ℕ) → IsStaying R text
    → new ≡ old ++ conventional (list_of text) → AppendsCanonicalText R text old new
stays_appended R C text old new stay grown =
    appended R text (core_alone stay.0) (core_alone stay.0) old new stay.1.read (stays_canonical R text stay.0 stay.1 C)
    (grown ∙ ap (λ l. old ++ conventional l) (sym stay.1.read.spelled))

-- ---- traces

-- a list of steps leads from a tag to one end at most
pub trace_determined : (R : List EntryParts) → TracesHaveOneEnd R
trace_determined R t a b [] h k = sym h ∙ k
trace_determined R t a b (step ∷ steps) h k =
    trace_determined R h.0 a b steps h.2 (rw (steps_determined R t k.0 h.0 step step k.1 h.1 refl refl).result at k.2)

-- the end of a trace is reached from its tag
trace_reached : (R : List EntryParts) (steps : List Step) (t end : TagForm) → IsTrace R t steps end → IsReached R t end
trace_reached R [] t end h = star_path t end h
trace_reached R (step ∷ steps) t end h = (then) h.1.0 (trace_reached R steps h.0 end h.2)

-- the end of a trace is reached from its tag, and so is equivalent to it
pub traces_reach_their_end : (R : List EntryParts) → TracesReachTheirEnd R
traces_reach_their_end R t end steps h = let r = trace_reached R steps t end h in (r, star_equivalent r)
