-- The place of the flag of each short subtag in a table of flags.
use Rattle.std.specs.Prelude.{ℕ, ◌+◌, ◌-◌, ◌*◌, if◌then◌else◌, List, [], ◌∷◌, Option, Some, None}
use Rattle.std.specs.Char.{is_ascii_alphabetic, is_ascii_digit, to_ascii_lowercase}
use Rattle.lt_registry.specs.declared.entries.Kind.{Kind}
use Rattle.lt_registry.specs.declared.entries.Kind.TheVariants as kinds

-- the number of a letter, from 0 for `a`, in either case, and 26 for another byte
abbrev pub letter : ℕ → ℕ
letter b = if is_ascii_alphabetic b then to_ascii_lowercase b - 97 else 26

-- the value of a digit, and 10 for another byte
abbrev pub digit : ℕ → ℕ
digit b = if is_ascii_digit b then b - 48 else 10

-- the place of a language of 2 letters: each byte has one of 27 numbers, 26 if it is no letter, so that no byte need be
-- tested
abbrev pub language_2 : ℕ → ℕ → ℕ
language_2 a b = letter a * 27 + letter b

-- the place of a language of 3 letters, after the 27² = 729 of 2 letters
abbrev pub language_3 : ℕ → ℕ → ℕ → ℕ
language_3 a b c = 729 + (letter a * 27 + letter b) * 27 + letter c

-- the place of a script, after those and the 27³ of languages of 3 letters: 20,412
abbrev pub script_4 : ℕ → ℕ → ℕ → ℕ → ℕ
script_4 a b c d = 20412 + ((letter a * 27 + letter b) * 27 + letter c) * 27 + letter d

-- the place of a region of 2 letters, after those and the 27⁴ of scripts: 551,853
abbrev pub region_2 : ℕ → ℕ → ℕ
region_2 a b = 551853 + letter a * 27 + letter b

-- the place of a region of 3 digits, after those and the 27² of regions of 2 letters: 552,582; each digit has 11
-- numbers
abbrev pub region_3 : ℕ → ℕ → ℕ → ℕ
region_3 a b c = 552582 + (digit a * 11 + digit b) * 11 + digit c

-- the place of a subtag of this kind, if it has one
abbrev pub place : Kind → List ℕ → Option ℕ
place kinds.Language (a ∷ b ∷ []) = Some (language_2 a b)
place kinds.Language (a ∷ b ∷ c ∷ []) = Some (language_3 a b c)
place kinds.Script (a ∷ b ∷ c ∷ d ∷ []) = Some (script_4 a b c d)
place kinds.Region (a ∷ b ∷ []) = Some (region_2 a b)
place kinds.Region (a ∷ b ∷ c ∷ []) = Some (region_3 a b c)
place _ _ = None
