-- Strings (RFC 8259, 7), over the bytes of a text of UTF-8.
use Rattle.std.specs.Prelude.{◌/◌, ◌%◌, ◌+◌, ◌==◌, ◌&&◌, not, ℕ, Bool, List, [], ◌∷◌, ◌++◌, if◌then◌else◌, nat_le}
use Rattle.std.specs.Prelude.{nat_lt}
use Rattle.std.specs.List.{flat_map}

-- the last digit of a number to the base 16: 0 to 9 (48 to 57), or a to f (97 to 102, which is 87 + 10 to 87 + 15)
abbrev pub hex_digit : ℕ → ℕ
hex_digit n = if nat_lt (n % 16) 10 then 48 + n % 16 else 87 + n % 16

-- whether a byte stands for itself in a string: it is no control character (0 to 31), no quote (34) and no backslash
-- (92)
abbrev pub is_plain : ℕ → Bool
is_plain byte = nat_le 32 byte && not (byte == 34) && not (byte == 92)

-- A byte as it is in a string: a quote and a backslash with a backslash (92) before it. A control character is a
-- backslash, `u` (117) and four digits to the base 16, of which two are 0 (48).
abbrev pub escaped : ℕ → List ℕ
escaped byte =
    if is_plain byte then byte ∷ []
    else (if nat_le 32 byte then 92 ∷ byte ∷ []
    else 92 ∷ 117 ∷ 48 ∷ 48 ∷ hex_digit (byte / 16) ∷ hex_digit byte ∷ [])

-- the bytes of a text as they are in a string
abbrev pub escaped_text : List ℕ → List ℕ
escaped_text text = flat_map escaped text

-- the string of a text, between quotes (34)
unfoldable pub string : List ℕ → List ℕ
string text = 34 ∷ escaped_text text ++ 34 ∷ []
