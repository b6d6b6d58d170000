-- Lemmas for `front_steps` and `judge`. The front of `told`, a list of steps in numbers, is the steps before the first
-- numbers that are no step. What is known of the front's steps says what is right or wrong with all of `told`.
use Rattle.std.proofs.Common.{◌≡◌, ◌≢◌, ℕ, ◌+◌, ◌<◌, ◌≤◌, inl, inr, List, [], ◌∷◌, ◌++◌, None, refl, sym, ap, ◌∙◌}
use Rattle.std.proofs.Common.{subst, length, take, drop, get_or, append_assoc, arith}
use Rattle.std.specs.Prelude.{map}
use Rattle.std.proofs.lemmas.List.{append-nil, drop_all, drop_more, length-append, length-map, map-append, take-append-drop, take_more}
use Rattle.lt_tag.specs.Parts.{TagForm}
use Rattle.lt_registry.specs.Parts.{EntryParts}
use Rattle.lt_rewrite.specs.Labels.{IsTrace}
use Rattle.lt_rewrite.specs.declared.steps.Step.{Step}
use Rattle.lt_rewrite.specs.TagSteps.{AreEquivalent}
use Rattle.lt_canon.specs.Traces.{IsMisstep, IsTraceFault, IsValidTrace}
use Rattle.lt_canon.specs.declared.traces.TraceFault.{TraceFault}
use Rattle.lt_canon.specs.declared.traces.TraceFault.TheVariants as faults
use Rattle.bcp47_c.specs.Steps.{in_numbers, IsFront, IsToldBy, TellsNoMore}
use Rattle.bcp47_c.specs.Traces.{HasMisstep, IsToldFault, TellsTrace, of_front}
use Rattle.bcp47_c.specs.declared.steps.StepNumbers.{StepNumbers}

-- ---- the front

-- one step more: the first `i` of `told` are `steps`, and that at index `i` is `step`; `default` is only the default of
-- `get_or`
pub told_more : (told : List StepNumbers) (steps : List Step) (step : Step) (i : ℕ) (default : StepNumbers)
    → i < length told → map in_numbers steps ≡ take i told
    → get_or told i default ≡ in_numbers step → map in_numbers (steps ++ step ∷ []) ≡ take (i + 1) told
told_more told steps step i default h so_far this =
    map-append in_numbers steps (step ∷ []) ∙ ap (λ l. l ++ in_numbers step ∷ []) so_far
    ∙ ap (λ x. take i told ++ x ∷ []) (sym this) ∙ sym (take_more told i default h)

-- `steps` are the front of `told` if they are its first `i` and that at index `i` is no step; `default` is only the
-- default of `get_or`
pub front_until : (told : List StepNumbers) (steps : List Step) (i : ℕ) (default : StepNumbers) → i < length told
    → map in_numbers steps ≡ take i told → IsToldBy (get_or told i default) None
    → IsFront told steps
front_until told steps i default h so_far none = record {
  rest = drop i told;
  split = sym (take-append-drop i told) ∙ ap (λ l. l ++ drop i told) (sym so_far);
  stops = subst TellsNoMore (sym (drop_more told i default h)) none;
}

-- `steps` are the front of `told` if they are all of it; `i` is at least the length of `told`
pub front_of_all : (told : List StepNumbers) (steps : List Step) (i : ℕ) → length told ≤ i
    → map in_numbers steps ≡ take i told → IsFront told steps
front_of_all told steps i h so_far = record {
  rest = drop i told;
  split = sym (take-append-drop i told) ∙ ap (λ l. l ++ drop i told) (sym so_far);
  stops = subst TellsNoMore (sym (drop_all i told h)) tt;
}

-- ---- the judgement

-- a front that is as long as `told` is all of it
pub whole_front : (told : List StepNumbers) (steps : List Step) → IsFront told steps → length told ≤ length steps
    → told ≡ map in_numbers steps
whole_front told steps front h = by_rest front.rest front.split
  where
    by_rest : (rest : List StepNumbers) → told ≡ map in_numbers steps ++ rest → told ≡ map in_numbers steps
    by_rest [] e = e ∙ append-nil (map in_numbers steps)
    by_rest (r ∷ rs) e = absurd (omega (arith, h, ap length e, length-append (map in_numbers steps) (r ∷ rs), length-map steps in_numbers))

-- The front is shorter than `told`, and leads from `t` to `tag`: the `n`th of `told`, the first behind the front, is no
-- step.
pub stopped : (R : List EntryParts) (t tag : TagForm) (told : List StepNumbers) (steps : List Step) (n : ℕ)
    → IsFront told steps → length steps ≢ length told → IsTrace R t steps tag
    → n ≡ length steps + 1 → HasMisstep R t told n
stopped R t tag told steps n front h led counted = by_rest front.rest front.split front.stops
  where
    by_rest : (rest : List StepNumbers) → told ≡ map in_numbers steps ++ rest → TellsNoMore rest → HasMisstep R t told n
    by_rest [] e none = absurd (h (sym (ap length (e ∙ append-nil (map in_numbers steps)) ∙ length-map steps in_numbers)))
    by_rest (r ∷ rs) e none = record {
      before = steps;
      nth = r;
      after = rs;
      there = e;
      counted = counted;
      tag = tag;
      led = led;
      stops = inl none;
    }

-- if step number `n` of the front is the first that leads nowhere, it is so in `told` too
pub misstep : (R : List EntryParts) (t : TagForm) (told : List StepNumbers) (steps : List Step) (n : ℕ)
    → IsFront told steps → IsMisstep R t steps n → HasMisstep R t told n
misstep R t told steps n front m =
    let after = map in_numbers m.after ++ front.rest in
    record {
      before = m.before;
      nth = in_numbers m.step;
      after = after;
      there =
          front.split ∙ ap (λ l. l ++ front.rest) (ap (map in_numbers) m.there ∙ map-append in_numbers m.before (m.step ∷ m.after))
          ∙ append_assoc (map in_numbers m.before) (in_numbers m.step ∷ map in_numbers m.after) front.rest;
      counted = m.nth;
      tag = m.tag;
      led = m.led;
      stops = inr (record { step = m.step; is = refl; stuck = m.stuck });
    }

-- ---- the answers

-- the front is all of `told`, and its steps are a valid trace from `t` to `end`: `told` tells that trace
pub whole_trace : (R : List EntryParts) (t end : TagForm) (told : List StepNumbers) (steps : List Step)
    → IsFront told steps → length told ≤ length steps → IsValidTrace R t steps end
    → AreEquivalent R t end → TellsTrace R t told end
whole_trace R t end told steps front h valid alike = record {
  steps = steps;
  are = whole_front told steps front h;
  trace = valid;
  equivalent = alike;
}

-- the front is all of `told`: a fault of its steps is a fault of `told`
pub whole_fault : (R : List EntryParts) (t end : TagForm) (told : List StepNumbers) (steps : List Step) (fault
    : TraceFault) → IsFront told steps → length told ≤ length steps
    → IsTraceFault R t steps end fault → IsToldFault R t told end fault
whole_fault R t end told steps (faults.Invalid fault) front h owed = owed
whole_fault R t end told steps (faults.NoSuchStep n) front h owed = (owed.0, misstep R t told steps n front owed.1)
whole_fault R t end told steps faults.WrongEnd front h owed =
    (owed.0, record { steps = steps; are = whole_front told steps front h; elsewhere = owed.1 })
whole_fault R t end told steps faults.OutOfMemory front h owed = tt

-- `told` goes on behind the front, whose steps are a valid trace to `end`: the fault is that there is no step `n`, the
-- first behind the front
pub led_on : (R : List EntryParts) (t end : TagForm) (told : List StepNumbers) (steps : List Step) (n : ℕ)
    → IsFront told steps → length steps ≢ length told → n ≡ length steps + 1
    → IsValidTrace R t steps end → IsToldFault R t told end (faults.NoSuchStep n)
led_on R t end told steps n front h counted valid = (valid.valid, stopped R t end told steps n front h valid.trace counted)

-- `told` goes on behind the front, whose steps lead to another tag than `end`: the fault is that there is no step `n`,
-- the first behind the front
led_elsewhere : (R : List EntryParts) (t end : TagForm) (told : List StepNumbers) (steps : List Step) (n : ℕ)
    → IsFront told steps → length steps ≢ length told → n ≡ length steps + 1
    → IsTraceFault R t steps end faults.WrongEnd → IsToldFault R t told end (faults.NoSuchStep n)
led_elsewhere R t end told steps n front h counted owed = (owed.0, stopped R t owed.1.tag told steps n front h owed.1.led counted)

-- `told` goes on behind the front, whose steps have a fault: `of_front` gives the fault of `told`; `n` is the number of
-- the first step behind the front
pub front_fault : (R : List EntryParts) (t end : TagForm) (told : List StepNumbers) (steps : List Step) (n : ℕ) (fault
    : TraceFault) → IsFront told steps → length steps ≢ length told → n ≡ length steps + 1
    → IsTraceFault R t steps end fault → IsToldFault R t told end (of_front fault n)
front_fault R t end told steps n (faults.Invalid fault) front h counted owed = owed
front_fault R t end told steps n (faults.NoSuchStep m) front h counted owed = (owed.0, misstep R t told steps m front owed.1)
front_fault R t end told steps n faults.WrongEnd front h counted owed = led_elsewhere R t end told steps n front h counted owed
front_fault R t end told steps n faults.OutOfMemory front h counted owed = tt
