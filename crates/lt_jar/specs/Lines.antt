-- The lines of a text, which line feeds (10) end.
use Rattle.std.specs.Prelude.{◌≢◌, ℕ, List, [], ◌∷◌, ◌++◌, ◌==◌, ◌⊎◌, if◌then◌else◌}
use Rattle.std.specs.List.{All, flat_map}
use Rattle.std.specs.Io.BufRead.{strip_last}

-- the lines with the byte in front of the first
abbrev pub begin_first : ℕ → List (List ℕ) → List (List ℕ)
begin_first byte [] = (byte ∷ []) ∷ []
begin_first byte (line ∷ lines) = (byte ∷ line) ∷ lines

-- the lines of a text, without the line feeds (10) that end them; what follows the last line feed is a line, unless it
-- is empty
abbrev pub lines_of : List ℕ → List (List ℕ)
lines_of [] = []
lines_of (byte ∷ text) = if byte == 10 then [] ∷ lines_of text else begin_first byte (lines_of text)

-- a line without the one carriage return (13) that may end it
abbrev pub content_of : List ℕ → List ℕ
content_of line = strip_last 13 line

-- the text has no line feed (10)
abbrev pub IsOneLine : List ℕ → Type 0
IsOneLine text = All (λ byte. byte ≢ 10) text

-- `P` is true of the whole text that begins with these bytes, whatever follows them; or the text has `ended`, and `P`
-- is true of the bytes
abbrev pub HoldsOfWhole : (List ℕ → Type 0) → Type 0 → List ℕ → Type 0
HoldsOfWhole P ended bytes = ((more : List ℕ) → P (bytes ++ more)) ⊎ (ended × P bytes)

-- the lines, each with a line feed (10) after it
abbrev pub whole_lines : List (List ℕ) → List ℕ
whole_lines lines = flat_map (λ (line : List ℕ). line ++ 10 ∷ []) lines
