-- What is printed of a text that is refused: `! NAME DETAIL`.
use Rattle.std.specs.Prelude.{◌≡◌, ℕ, List, [], ◌∷◌, ◌++◌, codes}
use Rattle.std.specs.Fmt.{decimal}
use Rattle.lt_canon.specs.Names.{text_refusal_name_of}
use Rattle.lt_canon.specs.declared.refusals.TextRefusal.{TextRefusal}
use Rattle.lt_canon.specs.declared.refusals.TextRefusal.TheVariants as refusals

-- what is told of a refusal beside its name: the place of the fault, or the variant that steps can repeat
abbrev pub detail_of : TextRefusal → List ℕ
detail_of (refusals.NotATag fault) = decimal fault.place
detail_of (refusals.Invalid fault) = decimal fault.place
detail_of (refusals.ReplacementRepeats variant) = variant
detail_of refusals.OutOfMemory = []

-- what is told of a refusal: its name, a space (32) and the detail
abbrev pub told_of : TextRefusal → List ℕ
told_of refusal = text_refusal_name_of refusal ++ 32 ∷ [] ++ detail_of refusal

-- `told` is what is told of the refusal; nothing is told of OutOfMemory
abbrev pub IsTold : TextRefusal → List ℕ → Type 0
IsTold (refusals.NotATag fault) told = told ≡ told_of (refusals.NotATag fault)
IsTold (refusals.Invalid fault) told = told ≡ told_of (refusals.Invalid fault)
IsTold (refusals.ReplacementRepeats variant) told = told ≡ told_of (refusals.ReplacementRepeats variant)
IsTold refusals.OutOfMemory told = ⊥

-- the line for a refusal, ended by a line feed (10); OutOfMemory has none
pub record IsRefusalLine (refusal : TextRefusal) (line : List ℕ) : Type 0 where
  pub told : List ℕ
  pub is_told : IsTold refusal told
  pub line_is : line ≡ codes "! " ++ told ++ 10 ∷ []

-- what is told of a refusal was appended
pub record AppendsTold (refusal : TextRefusal) (old new : List ℕ) : Type 0 where
  pub told : List ℕ
  pub is_told : IsTold refusal told
  pub grown : new ≡ old ++ told

-- the line of a refusal was appended
pub record AppendsRefusal (refusal : TextRefusal) (old new : List ℕ) : Type 0 where
  pub line : List ℕ
  pub grown : new ≡ old ++ line
  pub line_is : IsRefusalLine refusal line
