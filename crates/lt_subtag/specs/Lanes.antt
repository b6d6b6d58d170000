-- What `Subtag::read` computes of the bytes of a piece together: the eight padded bytes, the number that they are, and
-- the lowest bit that is set in a mask.
use Rattle.std.specs.Prelude.{ℕ, ◌++◌, ◌-◌, ◌==◌, if◌then◌else◌, List, length, replicate}
use Rattle.std.specs.Int.{from_be_bytes, w64}
use lib.Count.{count_trailing_zeros}

-- the bytes of a piece, and then zeros up to eight
abbrev pub padded : List ℕ → List ℕ
padded s = s ++ replicate (8 - length s) 0

-- a subtag as one number, whose most significant byte is the first of the padded ones: these numbers have the order of
-- the subtags
unfoldable pub number : List ℕ → ℕ
number s = from_be_bytes w64 (padded s)

-- the index, from 0, of the lowest bit that is set in a mask, which has a bit for each of the `lanes` lanes of a
-- vector; `lanes` if none is
abbrev pub first_set : ℕ → ℕ → ℕ
first_set mask lanes = if mask == 0 then lanes else count_trailing_zeros 64 mask
