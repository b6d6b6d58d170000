-- Quotes (34): what is within them, and what is outside (RFC 4180, 2). A quote begins quoted text where a field begins,
-- and right after the quote that ended quoted text: so a doubled quote within quotes ends them and begins them again.
-- In other places a quote is a byte like any other. A field begins after a delimiter, a comma (44) in RFC 4180.
use Rattle.std.specs.Prelude.{◌≡◌, ◌==◌, ◌||◌, ◌&&◌, ℕ, Bool, true, false, not, List, [], ◌∷◌, ◌++◌, Option}
use Rattle.std.specs.Prelude.{MatchOption, if◌then◌else◌}
use Rattle.std.specs.Borrow.{Bor}
use Rattle.lt_jar.specs.Lines.{begin_first}
use Rattle.lt_rows.specs.declared.quotes.Place.{Place}
use Rattle.lt_rows.specs.declared.quotes.Place.TheVariants as places

-- whether the bytes at a place are within quotes
abbrev pub is_quoted : Place → Bool
is_quoted places.Fresh = false
is_quoted places.Plain = false
is_quoted places.Quoted = true

-- the place after a byte that is outside of quotes and begins no quoted text, given the delimiter and the byte: a field
-- begins after a delimiter and after a line feed (10)
abbrev pub place_outside : ℕ → ℕ → Place
place_outside delimiter byte = if (byte == 10) || (byte == delimiter) then places.Fresh else places.Plain

-- the place after a byte, given the delimiter, the place where the byte stands, and the byte
abbrev pub place_after : ℕ → Place → ℕ → Place
place_after delimiter places.Quoted byte = if byte == 34 then places.Fresh else places.Quoted
place_after delimiter places.Fresh byte = if byte == 34 then places.Quoted else place_outside delimiter byte
place_after delimiter places.Plain byte = place_outside delimiter byte

-- the place after a text, given the delimiter, the place where its first byte stands, and the text
abbrev pub place_at : ℕ → Place → List ℕ → Place
place_at delimiter place [] = place
place_at delimiter place (byte ∷ text) = place_at delimiter (place_after delimiter place byte) text

-- each byte `stop` of a text, whose first byte stands at the given place, is within quotes
abbrev pub IsFreeOutside : (delimiter stop : ℕ) → Place → List ℕ → Type 0
IsFreeOutside delimiter stop place [] = Unit {0}
IsFreeOutside delimiter stop place (byte ∷ text) =
    (byte ≡ stop → is_quoted place ≡ true) × IsFreeOutside delimiter stop (place_after delimiter place byte) text

-- The records (RFC 4180, 2) of a text, given the delimiter, the place where its first byte stands, and the text. The
-- line feeds (10) that end them are those outside of quotes, and are left out. What follows the last is a record,
-- unless it is empty.
abbrev pub records_from : ℕ → Place → List ℕ → List (List ℕ)
records_from delimiter place [] = []
records_from delimiter place (byte ∷ text) =
    if (byte == 10) && not (is_quoted place) then [] ∷ records_from delimiter places.Fresh text
    else begin_first byte (records_from delimiter (place_after delimiter place byte) text)

-- `parts` is what is before the first byte `stop` outside of quotes, and what is after it, each a slice whose bytes are
-- its `now`; or None where there is no such byte
abbrev pub SplitsOutside : (delimiter stop : ℕ) → List ℕ → Option (Bor (List ℕ) × Bor (List ℕ)) → Type 0
SplitsOutside delimiter stop text parts = MatchOption parts (IsFreeOutside delimiter stop places.Fresh text)
    (λ p. IsFreeOutside delimiter stop places.Fresh p.0.now
    × (is_quoted (place_at delimiter places.Fresh p.0.now) ≡ false)
    × (text ≡ p.0.now ++ stop ∷ p.1.now))
