-- The row of a line's fields is *sound*: each of its codes has its form. So its codes can be in a table (`IsCode`), as
-- `add_row` requires.
use Rattle.std.proofs.Common.{◌≡◌, ◌≤◌, ◌==◌, ◌&&◌, ◌∙◌, ℕ, true, List, [], ◌∷◌, inl, inr, refl, sym, ap, arith, subst, length, Some, None}
use Rattle.std.specs.Prelude.{IsSome, Option, Result, Ok, Err}
use Rattle.std.specs.List.{All}
use Rattle.std.specs.Char.{is_ascii_lowercase, to_ascii_lowercase}
use Rattle.std.proofs.lemmas.Bool.{cases_Bool}
use Rattle.std.proofs.lemmas.Grind.{common_steps}
use Rattle.std.proofs.lemmas.List.Elements.{All-cons, All-head, All-nil, All-tail}
use Rattle.lt_subtag.specs.Bytes.{folded}
use Rattle.lt_subtag.specs.Reading.{subtag_of}
use Rattle.lt_subtag.specs.Shapes.{is_alphabetic}
use Rattle.lt_subtag.specs.declared.SubtagFault.{SubtagFault}
use Rattle.lt_codes.specs.Index.{IsCode, letter_of, number_of}
use Rattle.lt_codes.specs.Rows.{code_if, code_of, code_or_none, codes_in, if_letters, registered_in, row_from, row_of}
use Rattle.lt_codes.specs.declared.codes.Code.{Code}
use Rattle.lt_codes.specs.declared.rows.Row.{Row}

-- the code is this many letters in lower case
pub record AreLetters (count : ℕ) (code : List ℕ) : Type 0 where
  pub letters : is_alphabetic code ≡ true
  pub long : length code ≡ count

-- a code that `if_letters` gives of r, what a field was read as, is this many letters
letters_are : (count : ℕ) (r : Result (List ℕ) SubtagFault) (code : List ℕ) → if_letters count r ≡ Some code → AreLetters count code
letters_are count (Err fault) code h = cc
letters_are count (Ok s) code h = elim (cases_Bool (is_alphabetic s && (length s == count))) [
  | inl is ↦
      let some : Some s ≡ Some code = rw is at h in
      let one : s ≡ code = cc in
      let parts : (is_alphabetic s ≡ true) × (length s ≡ count) = grind (arith, common_steps) in
      record { letters = subst (λ (l : List ℕ). is_alphabetic l ≡ true) one parts.0; long = ap length (sym one) ∙ parts.1 }
  | inr not ↦ let none : None ≡ Some code = rw not at h in cc
]

-- a letter in lower case has a number, and stays as it is in lower case
lower_letter : (b : ℕ) → is_ascii_lowercase b ≡ true → IsSome (letter_of b) × (to_ascii_lowercase b ≡ b)
lower_letter b h = grind (arith, common_steps)

-- three letters in lower case have a number, and stay as they are in lower case
three_letters : (code : List ℕ) → is_alphabetic code ≡ true → length code ≡ 3 → IsSome (number_of code) × (folded code ≡ code)
three_letters [] is long = absurd (omega (arith, long))
three_letters (a ∷ []) is long = absurd (omega (arith, long))
three_letters (a ∷ b ∷ []) is long = absurd (omega (arith, long))
three_letters (a ∷ b ∷ c ∷ []) is long =
    let lower : (is_ascii_lowercase a ≡ true) × (is_ascii_lowercase b ≡ true)
    × (is_ascii_lowercase c ≡ true) = grind (arith, common_steps) in
    by_letters (letter_of a) (letter_of b) (letter_of c) refl refl refl (lower_letter a lower.0)
    (lower_letter b lower.1) (lower_letter c lower.2)
  where
    by_letters : (x y z : Option ℕ) → letter_of a ≡ x → letter_of b ≡ y → letter_of c ≡ z → IsSome (letter_of a)
        × (to_ascii_lowercase a ≡ a)
        → IsSome (letter_of b) × (to_ascii_lowercase b ≡ b) → IsSome (letter_of c) × (to_ascii_lowercase c ≡ c)
        → IsSome (number_of (a ∷ b ∷ c ∷ [])) × (folded (a ∷ b ∷ c ∷ []) ≡ a ∷ b ∷ c ∷ [])
    by_letters (Some x) (Some y) (Some z) ax by cz p q r = (rw (ax, by, cz) refl, rw (p.1, q.1, r.1) refl)
    by_letters None y z ax by cz p q r = let bad : IsSome {T = ℕ} None = subst (λ (o : Option ℕ). IsSome o) ax p.0 in cc
    by_letters (Some x) None z ax by cz p q r = let bad : IsSome {T = ℕ} None = subst (λ (o : Option ℕ). IsSome o) by q.0 in cc
    by_letters (Some x) (Some y) None ax by cz p q r = let bad : IsSome {T = ℕ} None = subst (λ (o : Option ℕ). IsSome o) cz r.0 in cc
three_letters (a ∷ b ∷ c ∷ d ∷ code) is long = absurd (omega (arith, long))

-- three letters in lower case are a code, if at least two bytes are registered for it
is_code : (code registered : List ℕ) → AreLetters 3 code → 2 ≤ length registered → IsCode (record { code = code; registered = registered })
is_code code registered are long = let three = three_letters code are.letters are.long in
    record { number = three.0; lower = three.1; long = long }

-- each code of the row has its form: three letters, or two in the third
pub record IsSoundRow (row : Row) : Type 0 where
  pub bibliographic : AreLetters 3 row.bibliographic
  pub terminologic : (code : List ℕ) → row.terminologic ≡ Some code → AreLetters 3 code
  pub two_letters : (code : List ℕ) → row.two_letters ≡ Some code → AreLetters 2 code

-- the code that a field which may be empty gives, if it gives one, is this many letters
option_is : (count : ℕ) (field : List ℕ) (given : Option (List ℕ)) (code : List ℕ)
    → code_or_none count field ≡ Some given → given ≡ Some code → AreLetters count code
option_is count [] given code h is = cc
option_is count (byte ∷ field) given code h is = by_read (code_of count (byte ∷ field)) refl
  where
    by_read : (r : Option (List ℕ)) → code_of count (byte ∷ field) ≡ r → AreLetters count code
    by_read None e = let none : None ≡ Some given = rw e at h in cc
    by_read (Some s) e =
        let some : Some (Some s) ≡ Some given = rw e at h in
        let one : s ≡ code = cc in
        letters_are count (subtag_of (byte ∷ field)) code (e ∙ ap (λ (l : List ℕ). Some l) one)

-- the row of three fields that have their forms is sound; x, y and z are the codes that the fields are found to be
from_is : (b t w : List ℕ) (x : Option (List ℕ)) (y z : Option (Option (List ℕ))) (row : Row) → code_of 3 b ≡ x
    → code_or_none 3 t ≡ y → code_or_none 2 w ≡ z
    → row_from x y z ≡ Some row → IsSoundRow row
from_is b t w (Some x) (Some y) (Some z) row bx ty wz h =
    let one : record { bibliographic = x; terminologic = y; two_letters = z } ≡ row = cc in
    subst IsSoundRow one (record {
      bibliographic = letters_are 3 (subtag_of b) x bx;
      terminologic = λ code is. option_is 3 t y code ty is;
      two_letters = λ code is. option_is 2 w z code wz is;
    })
from_is b t w None y z row bx ty wz h = cc
from_is b t w (Some x) None z row bx ty wz h = cc
from_is b t w (Some x) (Some y) None row bx ty wz h = cc

-- the row of three fields that have their forms is sound
pub row_is : (b t w : List ℕ) (row : Row) → row_of b t w ≡ Some row → IsSoundRow row
row_is b t w row h = from_is b t w (code_of 3 b) (code_or_none 3 t) (code_or_none 2 w) row refl refl refl h

-- at least two bytes are registered for a sound row
registered_long : (row : Row) → IsSoundRow row → 2 ≤ length (registered_in row)
registered_long row is = by_codes row.two_letters row.terminologic refl refl
  where
    by_codes : (w t : Option (List ℕ)) → row.two_letters ≡ w → row.terminologic ≡ t → 2 ≤ length (registered_in row)
    by_codes (Some w) t two three = rw two (omega (arith, (is.two_letters w two).long))
    by_codes None (Some t) two three = rw (two, three) (omega (arith, (is.terminologic t three).long))
    by_codes None None two three = rw (two, three) (omega (arith, is.bibliographic.long))

-- the codes of a sound row are codes of a table
pub are_codes : (row : Row) → IsSoundRow row → All IsCode (codes_in row)
are_codes row is =
    let long = registered_long row is in
    All-cons IsCode (record { code = row.bibliographic; registered = registered_in row })
    (code_if row.terminologic (registered_in row)) (is_code row.bibliographic (registered_in row) is.bibliographic
    long)
    (by_code row.terminologic refl)
  where
    by_code : (t : Option (List ℕ)) → row.terminologic ≡ t → All IsCode (code_if t (registered_in row))
    by_code None e = All-nil IsCode
    by_code (Some t) e =
        All-cons IsCode (record { code = t; registered = registered_in row }) []
        (is_code t (registered_in row) (is.terminologic t e) (registered_long row is)) (All-nil IsCode)

-- what is true of each code of a row is true of the bibliographic one
pub holds_first : (P : Code → Type 0) (row : Row) → All P (codes_in row)
    → P (record { code = row.bibliographic; registered = registered_in row })
holds_first P row all = All-head P (record { code = row.bibliographic; registered = registered_in row })
    (code_if row.terminologic (registered_in row)) all

-- what is true of each code of a row is true of the terminologic one, if there is one
pub holds_second : (P : Code → Type 0) (row : Row) (code : List ℕ) → row.terminologic ≡ Some code → All P (codes_in row)
    → P (record { code = code; registered = registered_in row })
holds_second P row code is all =
    All-head P (record { code = code; registered = registered_in row }) []
    (subst (λ o. All P (code_if o (registered_in row))) is
    (All-tail P (record { code = row.bibliographic; registered = registered_in row })
    (code_if row.terminologic (registered_in row)) all))
