-- `front` and `rest` cut a text at the first byte that fails a test; together they are the text. Elements of a header
-- are cut so, after white space and at the end of a word.
use Rattle.std.proofs.Common.{◌≡◌, ℕ, Bool, true, false, List, [], ◌∷◌, ◌++◌, length, refl, ◌∙◌, arith}
use Rattle.std.specs.List.{list_all}
use Rattle.std.proofs.lemmas.Bool.Decides.{nat_tests}
use Rattle.lt_range.specs.Words.{front, rest, is_blank, is_word_byte}

module _ (p : ℕ → Bool) where
  -- the text is empty, or begins with a byte of which `p` is false
  abbrev pub Stops : List ℕ → Type 0
  Stops [] = Unit {0}
  Stops (b ∷ bs) = p b ≡ false

  -- a text is its longest front of bytes of which `p` is true, and its rest
  pub front_rest : (text : List ℕ) → text ≡ front p text ++ rest p text
  front_rest [] = refl
  front_rest (b ∷ bs) = grind (arith, nat_tests, front_rest bs)

  -- `p` is true of all bytes of the front of a text
  pub all_front : (text : List ℕ) → list_all p (front p text) ≡ true
  all_front [] = refl
  all_front (b ∷ bs) = grind (arith, nat_tests, all_front bs)

  -- if the rest of a text is empty, `p` is true of all its bytes
  pub all_of_none : (text : List ℕ) → length (rest p text) ≡ 0 → list_all p text ≡ true
  all_of_none [] h = refl
  all_of_none (b ∷ bs) h = grind (arith, nat_tests, all_of_none bs)

  -- if `p` is true of all bytes of a text, its rest is empty
  pub rest_of_all : (text : List ℕ) → list_all p text ≡ true → rest p text ≡ []
  rest_of_all [] h = refl
  rest_of_all (b ∷ bs) h = grind (arith, nat_tests, rest_of_all bs)

  -- bytes of which `p` is true, in front of a text, do not change its rest
  pub rest_append : (xs ys : List ℕ) → list_all p xs ≡ true → rest p (xs ++ ys) ≡ rest p ys
  rest_append [] ys h = refl
  rest_append (x ∷ xs) ys h = grind (arith, nat_tests, rest_append xs ys)

  -- a text that is empty, or begins with a byte of which `p` is false, is its own rest
  rest_stops : (ys : List ℕ) → Stops ys → rest p ys ≡ ys
  rest_stops [] h = refl
  rest_stops (y ∷ ys) h = rw h refl

  -- a text that is empty, or begins with a byte of which `p` is false, has an empty front
  front_stops : (ys : List ℕ) → Stops ys → front p ys ≡ []
  front_stops [] h = refl
  front_stops (y ∷ ys) h = rw h refl

  -- if `p` is true of all bytes of `xs`, and `ys` is empty or begins with a byte of which `p` is false, the rest of the
  -- two together is `ys`
  pub rest_is : (xs ys : List ℕ) → list_all p xs ≡ true → Stops ys → rest p (xs ++ ys) ≡ ys
  rest_is xs ys all stops = rest_append xs ys all ∙ rest_stops ys stops

  -- if `p` is true of all bytes of `xs`, and `ys` is empty or begins with a byte of which `p` is false, the front of
  -- the two together is `xs`
  pub front_is : (xs ys : List ℕ) → list_all p xs ≡ true → Stops ys → front p (xs ++ ys) ≡ xs
  front_is [] ys all stops = front_stops ys stops
  front_is (x ∷ xs) ys all stops = grind (arith, nat_tests, front_is xs ys (grind (arith, nat_tests)) stops)

-- where `p` implies `q`, bytes that all pass `p` all pass `q`
pub all_imply : (p q : ℕ → Bool) → ((b : ℕ) → p b ≡ true → q b ≡ true) → (xs : List ℕ) → list_all p xs ≡ true → list_all q xs ≡ true
all_imply p q h [] all = refl
all_imply p q h (x ∷ xs) all = grind (arith, nat_tests, h x, all_imply p q h xs)

-- white space ends before a byte of a word
pub word_stops : (b : ℕ) (bs : List ℕ) → is_word_byte b ≡ true → Stops is_blank (b ∷ bs)
word_stops b bs h = grind (arith, nat_tests)

-- a word ends before white space, and at the end of the text
pub blank_stops : (xs : List ℕ) → list_all is_blank xs ≡ true → Stops is_word_byte xs
blank_stops [] h = tt
blank_stops (x ∷ xs) h = grind (arith, nat_tests)
