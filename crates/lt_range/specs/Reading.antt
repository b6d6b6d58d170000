-- What a text is read as: a language range, or the fault of the first piece with one.
use Rattle.std.specs.Prelude.{ℕ, ◌≡◌, ◌==◌, Bool, true, false, if◌then◌else◌, List, [], ◌∷◌, ◌++◌, Option, Some, None}
use Rattle.std.specs.Prelude.{option_to_list, Result, Ok, Err}
use Rattle.lt_subtag.specs.Reading.{subtag_of}
use Rattle.lt_subtag.specs.Shapes.{is_alphabetic}
use Rattle.lt_subtag.specs.declared.SubtagFault.{SubtagFault}
use Rattle.lt_tag.specs.Lists.{pieces}
use Rattle.lt_range.specs.Ranges.{RangeParts}
use Rattle.lt_range.specs.declared.faults.RangeFault.{RangeFault}
use Rattle.lt_range.specs.declared.faults.RangeFault.TheVariants as faults

-- whether a piece is the special subtag `*` (42) (RFC 4647, 2.2)
abbrev pub is_star : List ℕ → Bool
is_star (b ∷ []) = b == 42
is_star _ = false

-- the subtag of a range that was read, or its fault
abbrev pub of_subtag : Result (List ℕ) SubtagFault → Result (Option (List ℕ)) RangeFault
of_subtag (Ok s) = Ok (Some s)
of_subtag (Err fault) = Err (faults.BadSubtag fault)

-- the first subtag of a range that was read, or its fault; it must have only letters
abbrev pub of_first : Result (List ℕ) SubtagFault → Result (Option (List ℕ)) RangeFault
of_first (Ok s) = if is_alphabetic s then Ok (Some s) else Err faults.BadFirst
of_first (Err fault) = Err (faults.BadSubtag fault)

-- what a piece after the first is read as: `*`, a subtag, or a fault (RFC 4647, 2.2)
abbrev pub later_piece : List ℕ → Result (Option (List ℕ)) RangeFault
later_piece piece = if is_star piece then Ok None else of_subtag (subtag_of piece)

-- what the first piece is read as: `*`, a subtag of letters, or a fault (RFC 4647, 2.2)
abbrev pub first_piece : List ℕ → Result (Option (List ℕ)) RangeFault
first_piece piece = if is_star piece then Ok None else of_first (subtag_of piece)

-- a piece in front of those that are read after it, or the first fault
abbrev pub with_piece : Result (Option (List ℕ)) RangeFault → Result (List (List ℕ)) RangeFault
    → Result (List (List ℕ)) RangeFault
with_piece (Err fault) read = Err fault
with_piece (Ok s) (Err fault) = Err fault
with_piece (Ok s) (Ok named) = Ok (option_to_list s ++ named)

-- the subtags other than `*` of pieces after the first, or the first fault: there a `*` changes nothing that a range
-- matches (RFC 4647, 3.2)
unfoldable pub later_pieces : List (List ℕ) → Result (List (List ℕ)) RangeFault
later_pieces [] = Ok []
later_pieces (p ∷ ps) = with_piece (later_piece p) (later_pieces ps)

-- subtags in front of those that were read after them, or the fault of the reading
abbrev pub with_front : List (List ℕ) → Result (List (List ℕ)) RangeFault → Result (List (List ℕ)) RangeFault
with_front front (Ok named) = Ok (front ++ named)
with_front front (Err fault) = Err fault

-- `new` is `old` with the subtags that were read added
pub record AppendsRead (old new : List (List ℕ)) (read : Result (List (List ℕ)) RangeFault) : Type 0 where
  pub added : List (List ℕ)
  pub grown : new ≡ old ++ added
  pub is_read : read ≡ Ok added

-- the range of a first piece, which is None if that is `*`, and those after it, or the first fault
abbrev pub begun : Result (Option (List ℕ)) RangeFault → Result (List (List ℕ)) RangeFault
    → Result RangeParts RangeFault
begun (Err fault) read = Err fault
begun (Ok s) (Err fault) = Err fault
begun (Ok None) (Ok named) = Ok (record { wild = true; named = named })
begun (Ok (Some s)) (Ok named) = Ok (record { wild = false; named = s ∷ named })

-- the range of these pieces, or the first fault; a text has at least one piece, so the first line is never used
abbrev pub range_of_pieces : List (List ℕ) → Result RangeParts RangeFault
range_of_pieces [] = Err faults.BadFirst
range_of_pieces (p ∷ ps) = begun (first_piece p) (later_pieces ps)

-- the range that a text is (RFC 4647, 2), or the first fault
abbrev pub range_of : List ℕ → Result RangeParts RangeFault
range_of text = range_of_pieces (pieces text)

-- the reading gave this fault; OutOfMemory may be answered for any text
abbrev pub IsRefused : {X : Type 0} → Result X RangeFault → RangeFault → Type 0
IsRefused read faults.OutOfMemory = Unit {0}
IsRefused read fault = read ≡ Err fault

-- why a text is no range; OutOfMemory may be answered for any text
abbrev pub IsRangeFault : List ℕ → RangeFault → Type 0
IsRangeFault text fault = IsRefused (range_of text) fault
