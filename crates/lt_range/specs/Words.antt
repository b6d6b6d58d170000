-- White space in the header (RFC 9110, 5.6.3), and words, which have neither white space nor a semicolon (59).
use Rattle.std.specs.Prelude.{ℕ, ◌==◌, ◌||◌, Bool, not, List, [], ◌∷◌, if◌then◌else◌}

-- whether a byte is a space (32) or a tab (9) (RFC 9110, 5.6.3)
abbrev pub is_blank : ℕ → Bool
is_blank b = (b == 32) || (b == 9)

-- whether a byte may be in a word: it is neither white space nor a semicolon (59)
abbrev pub is_word_byte : ℕ → Bool
is_word_byte b = not (is_blank b || (b == 59))

-- the longest front of a text of whose bytes `p` is true
abbrev pub front : (ℕ → Bool) → List ℕ → List ℕ
front p [] = []
front p (b ∷ bs) = if p b then b ∷ front p bs else []

-- what follows the longest front of a text of whose bytes `p` is true
abbrev pub rest : (ℕ → Bool) → List ℕ → List ℕ
rest p [] = []
rest p (b ∷ bs) = if p b then rest p bs else b ∷ bs
