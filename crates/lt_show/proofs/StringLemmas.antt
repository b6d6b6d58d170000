-- A text without escapes, which `append_content` appends at once.
use Rattle.std.proofs.Common.{◌≡◌, ℕ, List, [], ◌∷◌, true, refl, arith}
use Rattle.std.specs.List.{list_all}
use Rattle.lt_show.specs.Strings.{escaped_text, is_plain}

-- a text is its own escaped text if each of its bytes stands for itself in a string
pub plain_text : (text : List ℕ) → list_all is_plain text ≡ true → escaped_text text ≡ text
plain_text [] h = refl
plain_text (byte ∷ text) h = grind (arith, plain_text text)
