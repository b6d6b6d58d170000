-- How a word of the command line that is no UTF-8 is reported.
use Rattle.std.specs.Prelude.{◌≡◌, ◌/◌, ◌%◌, ◌+◌, ◌==◌, ◌&&◌, not, ⊤, ℕ, Bool, List, [], ◌∷◌, ◌++◌, if◌then◌else◌}
use Rattle.std.specs.Prelude.{codes, nat_le, nat_lt, string_bytes}
use Rattle.std.specs.Fmt.{decimal}
use Rattle.std.specs.List.{flat_map}
use Rattle.std.specs.Str.{IsUtf8}
use Rattle.lt_words.specs.declared.faults.WordsFault.{WordsFault}
use Rattle.lt_words.specs.declared.faults.WordsFault.TheVariants as fault

-- the last digit of a number to the base 16: 0 to 9 (48 to 57), or a to f (97 to 102, which is 87 and 10 to 15)
abbrev pub hex_digit : ℕ → ℕ
hex_digit n = if nat_lt (n % 16) 10 then 48 + n % 16 else 87 + n % 16

-- whether a byte is shown as it is: it is printable ASCII (32 to 126), and no quote (34) or backslash (92)
abbrev pub is_shown : ℕ → Bool
is_shown byte = nat_le 32 byte && nat_le byte 126 && not (byte == 34) && not (byte == 92)

-- a byte as it is shown: as it is, or as a backslash (92), x (120) and its two digits to the base 16
abbrev pub escaped_byte : ℕ → List ℕ
escaped_byte byte = if is_shown byte then byte ∷ [] else 92 ∷ 120 ∷ hex_digit (byte / 16) ∷ hex_digit byte ∷ []

-- bytes as they are shown
abbrev pub escaped : List ℕ → List ℕ
escaped bytes = flat_map escaped_byte bytes

-- the line for a word that is not UTF-8: its number, and its bytes as they are shown
abbrev pub word_line : (number : ℕ) → (shown : List ℕ) → List ℕ
word_line number shown =
    codes "error: argument " ++ decimal number ++ codes " is not UTF-8: " ++ shown
    ++ codes "\n\nFor more information, try '--help'.\n"

-- a word is not UTF-8, and the fault is the line that says so; OutOfMemory may be answered for any word
abbrev pub IsNoText : (number : ℕ) → (bytes : List ℕ) → WordsFault → Type 0
IsNoText number bytes (fault.Help text) = ⊥
IsNoText number bytes (fault.Version text) = ⊥
IsNoText number bytes (fault.Usage text) = (IsUtf8 bytes → ⊥) × (string_bytes text ≡ word_line number (escaped bytes))
IsNoText number bytes fault.OutOfMemory = ⊤
