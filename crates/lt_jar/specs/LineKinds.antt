-- What a line of a text in the record-jar format can be (RFC 5646, 3.1.1).
use Rattle.std.specs.Prelude.{◌≡◌, ℕ, Bool, true, false, List, [], ◌∷◌, ◌==◌, ◌&&◌, ◌||◌, length, drop, reverse}
use Rattle.std.specs.Prelude.{if◌then◌else◌}
use Rattle.std.specs.List.{list_all}
use Rattle.std.specs.Char.{is_ascii_alphanumeric}
use Rattle.lt_jar.specs.Lines.{content_of}

-- whether a byte is a space (32) or a tab (9)
abbrev pub is_blank : ℕ → Bool
is_blank byte = (byte == 32) || (byte == 9)

-- whether a byte may be in the name of a field: an ASCII letter or digit, or a hyphen (45)
abbrev pub is_name_byte : ℕ → Bool
is_name_byte byte = is_ascii_alphanumeric byte || (byte == 45)

-- the text without the spaces and tabs at its front
abbrev pub trim_start : List ℕ → List ℕ
trim_start [] = []
trim_start (byte ∷ rest) = if is_blank byte then trim_start rest else byte ∷ rest

-- the text without the spaces and tabs at its end
abbrev pub trim_end : List ℕ → List ℕ
trim_end text = reverse (trim_start (reverse text))

-- the text without the spaces and tabs at both ends
abbrev pub trim : List ℕ → List ℕ
trim text = trim_end (trim_start text)

-- the longest front of the text whose bytes may be in the name of a field
abbrev pub name_at_front : List ℕ → List ℕ
name_at_front [] = []
name_at_front (byte ∷ rest) = if is_name_byte byte then byte ∷ name_at_front rest else []

-- what a line can be (RFC 5646, 3.1.1)
pub data Line : Type 0 where
  -- nothing, or only spaces and tabs: skipped
  Blank : Line
  -- `%%`: ends a record
  Separator : Line
  -- goes on with the body of the field before it
  Continuation : List ℕ → Line
  -- begins a field, with its name and what its body begins with
  Start : List ℕ → List ℕ → Line
  -- none of these
  Bad : Line

-- What a line is if it begins with this name and goes on with `rest`. It begins a field if the name is not empty and a
-- colon (58) is next; else it is bad.
abbrev pub start_by : List ℕ → List ℕ → Line
start_by [] rest = Bad
start_by (byte ∷ name) [] = Bad
start_by (byte ∷ name) (colon ∷ body) = if colon == 58 then Start (byte ∷ name) (trim body) else Bad

-- what a line is if it has to begin a field: with a name, any spaces and tabs, a colon, and a body
abbrev pub start_of : List ℕ → Line
start_of text = let name = name_at_front text in start_by name (trim_start (drop (length name) text))

-- whether a line is `%%` (37 twice), with nothing but spaces and tabs after it
abbrev pub separates : List ℕ → Bool
separates [] = false
separates (a ∷ []) = false
separates (a ∷ b ∷ rest) = (a == 37) && ((b == 37) && list_all is_blank rest)

-- whether a space or a tab begins a line
abbrev pub begins_blank : List ℕ → Bool
begins_blank [] = false
begins_blank (byte ∷ rest) = is_blank byte

-- what a line is if it has more than spaces and tabs
abbrev pub kind_of_content : List ℕ → Line
kind_of_content text =
    if begins_blank text then Continuation (trim text) else (if separates text then Separator else start_of text)

-- what a line is, without the carriage return that may end it
abbrev pub line_of : List ℕ → Line
line_of line = let text = content_of line in if list_all is_blank text then Blank else kind_of_content text

-- all bytes of the name may be in the name of a field
abbrev pub IsNamed : List ℕ → Type 0
IsNamed name = list_all is_name_byte name ≡ true

-- if the line begins a field, all bytes of its name may be in such a name
abbrev pub HasName : Line → Type 0
HasName Blank = Unit {0}
HasName Separator = Unit {0}
HasName (Continuation text) = Unit {0}
HasName (Start name body) = IsNamed name
HasName Bad = Unit {0}
