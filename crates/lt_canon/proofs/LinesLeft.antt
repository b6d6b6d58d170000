-- The lines that were given of an explanation, and those of what is left of it, are always together all of its lines:
-- `append_line` keeps this, and so `explanation_text` gives the whole text.
use Rattle.std.proofs.Common.{◌≡◌, ◌∙◌, ℕ, ◌<◌, ◌+◌, List, [], ◌∷◌, ◌++◌, refl, sym, ap, subst, append_assoc, length, drop, get_or}
use Rattle.std.specs.Prelude.{codes}
use Rattle.std.proofs.lemmas.List.{drop_more}
use Rattle.lt_tag.specs.Parts.{TagForm}
use Rattle.lt_registry.specs.Parts.{EntryParts}
use Rattle.lt_rewrite.specs.ApplyFaults.{IsApplyFault}
use Rattle.lt_rewrite.specs.Labels.{LeadsBy, IsTrace}
use Rattle.lt_rewrite.specs.declared.steps.Step.{Step}
use Rattle.lt_rewrite.specs.declared.apply_faults.ApplyFault.{ApplyFault}
use Rattle.lt_rewrite.specs.declared.apply_faults.ApplyFault.TheVariants as apply_faults
use Rattle.lt_rewrite.proofs.StepLaws.{steps_determined}
use Rattle.lt_canon.specs.ExplanationTexts.{AppendsEnd, AppendsStep, AreLines, AreLinesLeft, AreStepLines}
use Rattle.lt_canon.specs.ExplanationTexts.{IsExplanationTextOf, IsWholeLeft, StepsLeft, step_line, tag_line}

-- where the steps from index `i` on lead from `here` to `end`, `apply` of step `i` to `here` can't answer NoSuchStep;
-- `default` stands for an index past the end
pub step_leads : (R : List EntryParts) (steps : List Step) (end : TagForm) (i : ℕ) (default : Step) (here
    : TagForm) (fault : ApplyFault) → i < length steps → IsTrace R here (drop i steps) end
    → IsApplyFault R here (get_or steps i default) fault → fault ≡ apply_faults.NoSuchStep → ⊥
step_leads R steps end i default here fault h trace stuck e =
    let ahead = rw (drop_more steps i default h) at trace in
    (rw e at stuck) ahead.0 ahead.1

-- the steps from index `i` on are step `i` and those from `i + 1` on
pub step_at : (steps : List Step) (i : ℕ) (step : Step) → i < length steps → step ≡ get_or steps i step
    → drop i steps ≡ step ∷ drop (i + 1) steps
step_at steps i step h e = drop_more steps i step h ∙ ap (λ s. s ∷ drop (i + 1) steps) (sym e)

-- the steps of a trace have lines, as `AreStepLines` says
step_lines : (R : List EntryParts) (steps : List Step) (t end : TagForm) → IsTrace R t steps end → (lines : List ℕ)
    × AreStepLines R steps end t lines
step_lines R [] t end h = ([], (h, refl))
step_lines R (step ∷ steps) t end h =
    let rest = step_lines R steps h.0 end h.2 in
    (step_line step (tag_line h.0) ++ rest.0, record { after = h.0; leads = h.1; rest = rest.0; printed = rest.1; line_is = refl })

-- the line of a step from `t` to `to`, before the lines of what is left from `to` on, makes the lines from `t` on
line_before : (R : List EntryParts) (t to end : TagForm) (step : Step) (steps : List Step) (lines : List ℕ)
    → LeadsBy R t step to → AreLines R to steps end lines
    → AreLines R t (step ∷ steps) end (step_line step (tag_line to) ++ lines)
line_before R t to end step steps lines leads are = record {
  of_steps = step_line step (tag_line to) ++ are.of_steps;
  are_steps = record { after = to; leads = leads; rest = are.of_steps; printed = are.are_steps; line_is = refl };
  all = rw are.all (simp append_assoc);
}

-- where a trace begins with a step that leads to `to`, its other steps lead from `to` to its end
pub trace_behind : (R : List EntryParts) (t to end : TagForm) (step : Step) (steps : List Step)
    → IsTrace R t (step ∷ steps) end → LeadsBy R t step to → IsTrace R to steps end
trace_behind R t to end step steps trace leads =
    let same : trace.0 ≡ to = (steps_determined R t trace.0 to step step trace.1 leads refl refl).result in rw same at trace.2

-- `first` is what was left before any line was given, and `left` is what is left now that the bytes `given` were given:
-- these bytes and the lines of `left` together are the lines of `first`
pub record HasGiven (first left : StepsLeft) (given : List ℕ) : Type 0 where
  pub trace : IsTrace left.entries left.here left.steps left.end
  pub completes : (lines : List ℕ) → AreLinesLeft left lines → AreLinesLeft first (given ++ lines)

-- before any line nothing is given, and all is left
pub given_none : (first : StepsLeft) → IsTrace first.entries first.here first.steps first.end → HasGiven first first []
given_none first h = record { trace = h; completes = λ lines are. are }

-- if `before` and `old` were given, and the line of a step makes `new` of `old`, then `before` and `new` are given
pub given_step : (first left next : StepsLeft) (before old new : List ℕ) → HasGiven first left (before ++ old)
    → AppendsStep left next old new → HasGiven first next (before ++ new)
given_step first left next before old new given on =
    let line = step_line on.step (tag_line on.to) in
    rw (on.left, on.grown) (record {
      trace = trace_behind left.entries left.here on.to left.end on.step on.steps (rw on.next at given.trace) on.leads;
      completes = λ lines are.
          let joined : (before ++ old) ++ (line ++ lines) ≡ (before ++ (old ++ line)) ++ lines = simp append_assoc in
          let more : AreLines left.entries left.here left.steps left.end (line ++ lines) =
          rw on.next (line_before left.entries left.here on.to left.end on.step on.steps lines on.leads are) in
          subst (AreLinesLeft first) joined (given.completes (line ++ lines) more);
    })

-- if `before` and `old` were given, and the last line makes `new` of `old`, then `before` and `new` are all the lines
pub given_all : (first left next : StepsLeft) (before old new : List ℕ) → HasGiven first left (before ++ old)
    → AppendsEnd left next old new → AreLinesLeft first (before ++ new)
given_all first left next before old new given on =
    let line = codes "= " ++ tag_line left.end in
    let joined : (before ++ old) ++ line ≡ before ++ (old ++ codes "= " ++ tag_line left.end) = simp append_assoc in
    let stays : IsTrace left.entries left.here [] left.end = rw on.none at given.trace in
    let last : AreLines left.entries left.here left.steps left.end line = rw on.none
    (record { of_steps = []; are_steps = (stays, refl); all = refl }) in
    rw on.grown (subst (AreLinesLeft first) joined (given.completes line last))

-- what was given is a front of all the lines; `rest` are those still to come
pub given_front : (first left : StepsLeft) (given : List ℕ) → HasGiven first left given → (lines : List ℕ)
    × AreLinesLeft first lines × ((rest : List ℕ) × (lines ≡ given ++ rest))
given_front first left given h =
    let steps = step_lines left.entries left.steps left.here left.end h.trace in
    let rest = steps.0 ++ codes "= " ++ tag_line left.end in
    (given ++ rest, h.completes rest (record { of_steps = steps.0; are_steps = steps.1; all = refl }), (rest, refl))

-- if `first` is the whole explanation of a text, its lines are the text of that explanation
pub whole_text : (R : List EntryParts) (text lines : List ℕ) (first : StepsLeft) → IsWholeLeft R text first
    → AreLinesLeft first lines → IsExplanationTextOf R text lines
whole_text R text lines first whole are = record {
  tag = first.here;
  read = whole.read;
  steps = first.steps;
  end = first.end;
  is_explanation = whole.is_explanation;
  are_lines = rw whole.by at are;
}
