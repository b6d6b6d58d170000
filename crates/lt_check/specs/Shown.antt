-- How a text is written in conventional case if all its subtags have flags. No public contract cites this; it is shown
-- to agree with what is read, and with conventional case. A byte 45 is a hyphen, and `F` are the words that have the
-- flags.
use Rattle.std.specs.Prelude.{ℕ, ◌+◌, ◌==◌, ◌&&◌, if◌then◌else◌, Bool, true, List, [], ◌∷◌, Option, Some, None}
use Rattle.std.specs.Prelude.{option_map, slice_index, bit_and, bit_or}
use Rattle.lt_check.specs.Places.{language_2, language_3, script_4, region_2, region_3}
use Rattle.lt_check.specs.Flags.{flag}
use Rattle.lt_check.specs.declared.texts.AfterLanguage.{AfterLanguage}
use Rattle.lt_check.specs.declared.texts.Shown.{Shown}

-- a letter in lower case: bit 32 is set in it
abbrev pub lower : ℕ → ℕ
lower b = bit_or b 32

-- a letter in upper case: bit 32 is clear in it, by 223 = 255 - 32
abbrev pub upper_byte : ℕ → ℕ
upper_byte b = bit_and b 223

-- what is shown after the language: the first `count` of `bytes`; None if the test is false
abbrev pub after_if : Bool → ℕ → List ℕ → Option AfterLanguage
after_if holds count bytes = if holds then Some (record { count = count; bytes = bytes }) else None

-- a hyphen (45), a script of these four letters in conventional case, and what follows it (RFC 5646, 2.1.1)
abbrev pub script_before : ℕ → ℕ → ℕ → ℕ → List ℕ → List ℕ
script_before a b c d rest =
    45 ∷ upper_byte a ∷ lower b ∷ lower c ∷ lower d ∷ rest

-- what is shown after the language if that is a script, or a script and a region, filled up with zeros to nine bytes;
-- None if it is anything else, or a subtag has no flag in `F`
abbrev pub from_script : List ℕ → List ℕ → Option AfterLanguage
from_script F (h ∷ a ∷ b ∷ c ∷ d ∷ []) = after_if ((h == 45) && flag F (script_4 a b c d)) 5
    (script_before a b c d (0 ∷ 0 ∷ 0 ∷ 0 ∷ []))
from_script F (h ∷ a ∷ b ∷ c ∷ d ∷ i ∷ e ∷ f ∷ []) =
    after_if (((h == 45) && (i == 45)) && (flag F (script_4 a b c d) && flag F (region_2 e f))) 8
    (script_before a b c d (45 ∷ upper_byte e ∷ upper_byte f ∷ 0 ∷ []))
from_script F (h ∷ a ∷ b ∷ c ∷ d ∷ i ∷ e ∷ f ∷ g ∷ []) =
    after_if (((h == 45) && (i == 45)) && (flag F (script_4 a b c d) && flag F (region_3 e f g))) 9
    (script_before a b c d (45 ∷ e ∷ f ∷ g ∷ []))
from_script F _ = None

-- what is shown after the language (nothing, a region, a script, or both), filled up with zeros to nine bytes; None if
-- it is anything else, or a subtag has no flag in `F`
abbrev pub after_language : List ℕ → List ℕ → Option AfterLanguage
after_language F [] = after_if true 0 (0 ∷ 0 ∷ 0 ∷ 0 ∷ 0 ∷ 0 ∷ 0 ∷ 0 ∷ 0 ∷ [])
after_language F (h ∷ a ∷ b ∷ []) = after_if ((h == 45) && flag F (region_2 a b)) 3
    (45 ∷ upper_byte a ∷ upper_byte b ∷ 0 ∷ 0 ∷ 0 ∷ 0 ∷ 0 ∷ 0 ∷ [])
after_language F (h ∷ a ∷ b ∷ c ∷ []) = after_if ((h == 45) && flag F (region_3 a b c)) 4
    (45 ∷ a ∷ b ∷ c ∷ 0 ∷ 0 ∷ 0 ∷ 0 ∷ 0 ∷ [])
after_language F rest = from_script F rest

-- the first nine of `bytes`, as many as are shown after a language, and then `rest`
abbrev pub nine_before : List ℕ → List ℕ → List ℕ
nine_before bytes rest =
    slice_index bytes 0 ∷ slice_index bytes 1 ∷ slice_index bytes 2 ∷ slice_index bytes 3 ∷ slice_index bytes 4
    ∷ slice_index bytes 5 ∷ slice_index bytes 6 ∷ slice_index bytes 7 ∷ slice_index bytes 8 ∷ rest

-- what is shown of a text: the language `a`, `b`, and what is shown after it, with zeros to twelve bytes
abbrev pub with_two : ℕ → ℕ → AfterLanguage → Shown
with_two a b after = record {
  count = 2 + after.count;
  bytes = lower a ∷ lower b ∷ nine_before after.bytes (0 ∷ []);
}

-- what is shown of a text: the language `a`, `b`, `c`, and what is shown after it, with zeros to twelve bytes
abbrev pub with_three : ℕ → ℕ → ℕ → AfterLanguage → Shown
with_three a b c after = record {
  count = 3 + after.count;
  bytes = lower a ∷ lower b ∷ lower c ∷ nine_before after.bytes [];
}

-- what is shown of a text of the language `a`, `b` and then `rest`, by the flags `F`; None if a subtag has no flag
abbrev pub shown_two : List ℕ → ℕ → ℕ → List ℕ → Option Shown
shown_two F a b rest =
    if flag F (language_2 a b) then option_map (with_two a b) (after_language F rest) else None

-- what is shown of a text of the language `a`, `b`, `c` and then `rest`, by the flags `F`; None if a subtag has no flag
abbrev pub shown_three : List ℕ → ℕ → ℕ → ℕ → List ℕ → Option Shown
shown_three F a b c rest =
    if flag F (language_3 a b c) then option_map (with_three a b c) (after_language F rest) else None

-- what is shown of a text, by the flags `F`; None if a subtag has no flag, or the text has another form
abbrev pub shown_text : List ℕ → List ℕ → Option Shown
shown_text F (a ∷ b ∷ []) = shown_two F a b []
shown_text F (a ∷ b ∷ c ∷ rest) = if c == 45 then shown_two F a b (c ∷ rest) else shown_three F a b c rest
shown_text F _ = None
