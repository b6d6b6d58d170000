-- What reading one piece of a text gives, how a subtag is shown in upper, lower or title case, and the names of faults.
use Rattle.std.specs.Prelude.{ℕ, codes, if◌then◌else◌, List, length, nat_le, ◌==◌, Result, Ok, Err}
use Rattle.std.specs.List.{list_all}
use Rattle.std.specs.Char.{is_ascii_alphanumeric}
use Rattle.lt_subtag.specs.Bytes.{folded, upper, title}
use Rattle.lt_subtag.specs.declared.SubtagFault.{SubtagFault}
use Rattle.lt_subtag.specs.declared.SubtagFault.TheVariants as faults
use Rattle.lt_subtag.specs.declared.Case.{Case}
use Rattle.lt_subtag.specs.declared.Case.TheVariants as cases

-- the subtag that a piece of a text is, or its first fault in the order Empty, BadByte, TooLong (RFC 5646, 2.1)
abbrev pub subtag_of : List ℕ → Result (List ℕ) SubtagFault
subtag_of piece =
    if length piece == 0 then Err faults.Empty
    else (if list_all is_ascii_alphanumeric piece
    then (if nat_le (length piece) 8 then Ok (folded piece) else Err faults.TooLong)
    else Err faults.BadByte)

-- a subtag with its letters in this case
abbrev pub cased : Case → List ℕ → List ℕ
cased cases.Lower s = s
cased cases.Upper s = upper s
cased cases.Title s = title s

-- the name of a fault of a piece, as it is printed
abbrev pub name_of : SubtagFault → List ℕ
name_of faults.Empty = codes "Empty"
name_of faults.BadByte = codes "BadByte"
name_of faults.TooLong = codes "TooLong"
