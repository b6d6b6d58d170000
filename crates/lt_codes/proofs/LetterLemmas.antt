-- Texts of three letters have the same number exactly if they differ only in letter case: so a code can be looked up by
-- the number of a text.
use Rattle.std.proofs.Common.{◌≡◌, ◌≤◌, ◌<◌, ◌+◌, ◌-◌, ◌*◌, ◌∙◌, ℕ, true, List, [], ◌∷◌, inl, inr, refl, sym, arith, Some, None}
use Rattle.std.specs.Prelude.{Option}
use Rattle.std.specs.Char.{is_ascii_alphabetic, to_ascii_lowercase}
use Rattle.std.proofs.lemmas.Bool.{cases_Bool}
use Rattle.std.proofs.lemmas.Grind.{common_steps}
use Rattle.lt_subtag.specs.Bytes.{folded}
use Rattle.lt_codes.specs.Index.{letter_of, number_from, number_of}

-- a byte in lower case is a letter exactly if the byte is one
lower-alphabetic : (b : ℕ) → is_ascii_alphabetic (to_ascii_lowercase b) ≡ is_ascii_alphabetic b
lower-alphabetic b = grind (arith, common_steps)

-- a byte in lower case stays as it is
lower-lower : (b : ℕ) → to_ascii_lowercase (to_ascii_lowercase b) ≡ to_ascii_lowercase b
lower-lower b = grind (arith, common_steps)

-- a letter in lower case is from `a` (97) to `z` (122)
lower_range : (b : ℕ) → is_ascii_alphabetic b ≡ true → (97 ≤ to_ascii_lowercase b) × (to_ascii_lowercase b ≤ 122)
lower_range b h = grind (arith, common_steps)

-- a letter has the same number in lower case
letter-lower : (b : ℕ) → letter_of (to_ascii_lowercase b) ≡ letter_of b
letter-lower b = rw (lower-alphabetic, lower-lower) refl

-- a text has the same number in lower case
pub number-folded : (text : List ℕ) → number_of (folded text) ≡ number_of text
number-folded [] = refl
number-folded (a ∷ []) = refl
number-folded (a ∷ b ∷ []) = refl
number-folded (a ∷ b ∷ c ∷ []) = rw (letter-lower a, letter-lower b, letter-lower c) refl
number-folded (a ∷ b ∷ c ∷ d ∷ text) = refl

-- the letter whose number is n is, in lower case, the byte 97 + n (97 is `a`), and n is below 26
letter_is : (b n : ℕ) → letter_of b ≡ Some n → (to_ascii_lowercase b ≡ 97 + n) × (n < 26)
letter_is b n h = elim (cases_Bool (is_ascii_alphabetic b)) [
  | inl is ↦
      let from : Some (to_ascii_lowercase b - 97) ≡ Some n = rw is at h in
      let range = lower_range b is in
      let same : to_ascii_lowercase b - 97 ≡ n = cc in
      (omega (arith, range.0, same), omega (arith, range.1, same))
  | inr not ↦ let none : None ≡ Some n = rw not at h in cc
]

-- the text is three letters, in some letter case, whose numbers are a, b and c, and its own number is n
pub record HasLetters (text : List ℕ) (n : ℕ) : Type 0 where
  pub a : ℕ
  pub b : ℕ
  pub c : ℕ
  pub small : (a < 26) × (b < 26) × (c < 26)
  pub number : n ≡ (a * 26 + b) * 26 + c
  pub folds : folded text ≡ (97 + a) ∷ (97 + b) ∷ (97 + c) ∷ []

-- three bytes that have the number n as a text are letters whose numbers make n; x, y and z are the numbers that are
-- found for them
by_letters : (a b c n : ℕ) (x y z : Option ℕ) → letter_of a ≡ x → letter_of b ≡ y → letter_of c ≡ z
    → number_from x y z ≡ Some n → HasLetters (a ∷ b ∷ c ∷ []) n
by_letters a b c n (Some x) (Some y) (Some z) ax by cz h =
    let one = letter_is a x ax in
    let two = letter_is b y by in
    let three = letter_is c z cz in
    let number : (x * 26 + y) * 26 + z ≡ n = cc in
    record { a = x; b = y; c = z; small = (one.1, two.1, three.1); number = sym number; folds = rw (one.0, two.0, three.0) refl }
by_letters a b c n None y z ax by cz h = cc
by_letters a b c n (Some x) None z ax by cz h = cc
by_letters a b c n (Some x) (Some y) None ax by cz h = cc

-- a text that has a number has three letters
pub has_letters : (text : List ℕ) (n : ℕ) → number_of text ≡ Some n → HasLetters text n
has_letters [] n h = cc
has_letters (a ∷ []) n h = cc
has_letters (a ∷ b ∷ []) n h = cc
has_letters (a ∷ b ∷ c ∷ []) n h = by_letters a b c n (letter_of a) (letter_of b) (letter_of c) refl refl refl h
has_letters (a ∷ b ∷ c ∷ d ∷ text) n h = cc

-- texts of the same number differ only in letter case
pub one_number : (text other : List ℕ) (n : ℕ) → number_of text ≡ Some n → number_of other ≡ Some n → folded text ≡ folded other
one_number text other n h k =
    let x = has_letters text n h in
    let y = has_letters other n k in
    let first : x.a ≡ y.a = omega (arith, x.small.1, x.small.2, y.small.1, y.small.2, x.number, y.number) in
    let second : x.b ≡ y.b = omega (arith, first, x.small.2, y.small.2, x.number, y.number) in
    let third : x.c ≡ y.c = omega (arith, first, second, x.number, y.number) in
    x.folds ∙ rw (first, second, third) refl ∙ sym y.folds
