-- Steps in numbers, as C gives them, and which steps these are.
use Rattle.std.specs.Prelude.{◌≡◌, ◌≢◌, List, [], ◌∷◌, ◌++◌, map, Option, Some, None}
use Rattle.lt_rewrite.specs.declared.steps.Step.{Step}
use Rattle.bcp47_c.specs.Numbers.{step_kind}
use Rattle.bcp47_c.specs.declared.steps.StepNumbers.{StepNumbers}

-- a step in numbers: the number of its kind, its place, and the number of its record
abbrev pub in_numbers : Step → StepNumbers
in_numbers step = record { kind = step_kind step.kind; place = step.place; number = step.number }

-- these numbers are this step, or, for None, no step
abbrev pub IsToldBy : StepNumbers → Option Step → Type 0
IsToldBy told (Some step) = told ≡ in_numbers step
IsToldBy told None = (step : Step) → told ≢ in_numbers step

-- there are no more numbers, or the next numbers are no step
abbrev pub TellsNoMore : List StepNumbers → Type 0
TellsNoMore [] = Unit {0}
TellsNoMore (told ∷ rest) = IsToldBy told None

-- `steps` are the steps at the front of `told`, up to the first numbers that are no step
pub record IsFront (told : List StepNumbers) (steps : List Step) : Type 0 where
  pub rest : List StepNumbers
  pub split : told ≡ map in_numbers steps ++ rest
  pub stops : TellsNoMore rest
