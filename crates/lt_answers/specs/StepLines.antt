-- The lines of an explanation of a tag: those of its steps, and that of its end.
use Rattle.std.specs.Prelude.{◌≡◌, ◌<◌, ◌^◌, ℕ, List, ◌∷◌, ◌++◌}
use Rattle.std.specs.Fmt.{decimal}
use Rattle.lt_rows.specs.Splitting.{IsFreeOf}
use Rattle.lt_rewrite.specs.Names.{name_of}
use Rattle.lt_rewrite.specs.declared.steps.Step.{Step}
use Rattle.lt_rewrite.specs.declared.steps.StepKind.{StepKind}
use Rattle.lt_canon.specs.ExplanationTexts.{step_line}

-- the line of an explanation's end: `=` (61), a space (32) and a text
abbrev pub end_line : List ℕ → List ℕ
end_line text = 61 ∷ 32 ∷ text

-- the line names this step, with a place and number of 32 bits, and then this text
pub record IsStepLine (line : List ℕ) (step : Step) (text : List ℕ) : Type 0 where
  pub place : step.place < 2 ^ 32
  pub number : step.number < 2 ^ 32
  pub line_is : line ≡ step_line step text

-- the line is four words with a space (32) between them: a name, a place and a number without spaces, and a text, which
-- may have spaces
pub record HasWords (line name place number text : List ℕ) : Type 0 where
  pub name_free : IsFreeOf 32 name
  pub place_free : IsFreeOf 32 place
  pub number_free : IsFreeOf 32 number
  pub line_is : line ≡ name ++ 32 ∷ (place ++ 32 ∷ (number ++ 32 ∷ text))

-- the line has fewer than four words
abbrev pub HasFewWords : List ℕ → Type 0
HasFewWords line = (name place number text : List ℕ) → HasWords line name place number text → ⊥

-- the line names no step
abbrev pub IsNoName : List ℕ → Type 0
IsNoName line = (step : Step) (text : List ℕ) → IsStepLine line step text → ⊥

-- the line is that of no end
abbrev pub NamesNoEnd : List ℕ → Type 0
NamesNoEnd line = (text : List ℕ) → line ≡ end_line text → ⊥

-- no kind of step has this name
abbrev pub NamesNoKind : List ℕ → Type 0
NamesNoKind name = (kind : StepKind) → name_of kind ≡ name → ⊥

-- the digits are the decimal form of no number of 32 bits
abbrev pub IsNoNumber : List ℕ → Type 0
IsNoNumber digits = (n : ℕ) → n < 2 ^ 32 → decimal n ≡ digits → ⊥
