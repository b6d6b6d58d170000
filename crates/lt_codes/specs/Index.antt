-- How the codes of a table are looked up: three letters have a number, and at that number the place of their code is
-- listed.
use Rattle.std.specs.Prelude.{◌≡◌, ◌≤◌, ℕ, List, [], ◌∷◌, ◌+◌, ◌-◌, ◌*◌, Option, Some, None, IsSome, if◌then◌else◌}
use Rattle.std.specs.Prelude.{zero, suc, length, slice_get, slice_index}
use Rattle.std.specs.List.{All}
use Rattle.std.specs.Char.{is_ascii_alphabetic, to_ascii_lowercase}
use Rattle.lt_subtag.specs.Bytes.{folded}
use Rattle.lt_codes.specs.Codes.{found_in}
use Rattle.lt_codes.specs.declared.codes.Code.{Code}

-- the number of a letter, from 0 for `a` (97) to 25, whatever its case
abbrev pub letter_of : ℕ → Option ℕ
letter_of byte = if is_ascii_alphabetic byte then Some (to_ascii_lowercase byte - 97) else None

-- the number of three letters, by the numbers of each: as three digits to the base 26
abbrev pub number_from : Option ℕ → Option ℕ → Option ℕ → Option ℕ
number_from (Some a) (Some b) (Some c) = Some ((a * 26 + b) * 26 + c)
number_from _ _ _ = None

-- the number of a text of three letters; None for any other text
abbrev pub number_of : List ℕ → Option ℕ
number_of (a ∷ b ∷ c ∷ []) = number_from (letter_of a) (letter_of b) (letter_of c)
number_of _ = None

-- how many numbers three letters can have: 26 to the 3
abbrev pub numbers : ℕ
numbers = 17576

-- a code of three letters in lower case, for which a subtag of at least two bytes is registered
pub record IsCode (c : Code) : Type 0 where
  pub number : IsSome (number_of c.code)
  pub lower : folded c.code ≡ c.code
  pub long : 2 ≤ length c.registered

-- the place of the first code that is this text, counted from 1; 0 where there is none
abbrev pub IsPlaceOf : List Code → List ℕ → ℕ → Type 0
IsPlaceOf codes text zero = found_in codes text ≡ None
IsPlaceOf codes text (suc i) = (c : Code) × (found_in codes text ≡ Some c) × (slice_get codes i ≡ Some c)

-- at the number of each three letters, `places` has the place of their code
pub record AreIndexed (codes : List Code) (places : List ℕ) : Type 0 where
  pub each : All IsCode codes
  pub full : length places ≡ numbers
  pub place : (text : List ℕ) (number : ℕ) → number_of text ≡ Some number
      → IsPlaceOf codes text (slice_index places number)
