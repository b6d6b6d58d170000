-- How records are read line by line, as a function, which contracts compare the code with. `ended` is how many records
-- have ended before a line, and `earlier` how many before the text.
use Rattle.std.specs.Prelude.{◌≡◌, ◌<◌, ◌+◌, ◌∷◌, ◌++◌, ℕ, List, [], length, get_or, Result, Ok, Err, nat_lt}
use Rattle.std.specs.Prelude.{if◌then◌else◌}
use Rattle.std.specs.List.{All, filter}
use Rattle.std.specs.Str.{is_utf8}
use Rattle.lt_jar.specs.LineKinds.{IsNamed, Line, Blank, Separator, Continuation, Start, Bad, line_of}
use Rattle.lt_jar.specs.Limits.{longest_line, most_records}
use Rattle.lt_jar.specs.Records.{Field, is_something, joined}
use Rattle.lt_jar.specs.Faults.{Fault, LineTooLong, NotUtf8, LeadingContinuation, BadLine, TooManyRecords}

-- what a line makes of the fields of the record that is being read
pub data Taken : Type 0 where
  -- the record goes on with these fields
  GoesOn : List Field → Taken
  -- the record ends with these fields
  Ends : List Field → Taken

-- a body with a further text, after a space (32) where both have a byte; the body is given first
abbrev pub lengthened : List ℕ → List ℕ → List ℕ
lengthened body text = joined (filter is_something (body ∷ text ∷ []))

-- the fields, with a further text in the body of the last
abbrev pub with_text : List ℕ → List Field → List Field
with_text text [] = []
with_text text (field ∷ []) = (field.0, lengthened field.1 text) ∷ []
with_text text (field ∷ next ∷ fields) = field ∷ with_text text (next ∷ fields)

-- what a separator makes of these fields: it ends the record, if it has a field
abbrev pub separated : List Field → Taken
separated [] = GoesOn []
separated (field ∷ fields) = Ends (field ∷ fields)

-- what a continuation line makes of these fields: it lengthens the last, if there is one
abbrev pub continued : List ℕ → List Field → Result Taken Fault
continued text [] = Err LeadingContinuation
continued text (field ∷ fields) = Ok (GoesOn (with_text text (field ∷ fields)))

-- what the beginning of the field `new` makes of these fields, after `ended` records: it adds `new`; the first field
-- of a record needs room for one record more
abbrev pub started : ℕ → Field → List Field → Result Taken Fault
started ended new [] = if nat_lt ended most_records then Ok (GoesOn (new ∷ [])) else Err TooManyRecords
started ended new (field ∷ fields) = Ok (GoesOn ((field ∷ fields) ++ new ∷ []))

-- what a line of this kind makes of these fields, after `ended` records
abbrev pub take_kind : ℕ → List Field → Line → Result Taken Fault
take_kind ended fields Blank = Ok (GoesOn fields)
take_kind ended fields Separator = Ok (separated fields)
take_kind ended fields (Continuation text) = continued text fields
take_kind ended fields (Start name body) = started ended (name, body) fields
take_kind ended fields Bad = Err BadLine

-- what a line makes of these fields, after `ended` records, or its fault
abbrev pub take_line : ℕ → List Field → List ℕ → Result Taken Fault
take_line ended fields line =
    if nat_lt longest_line (length line) then Err LineTooLong
    else (if is_utf8 line then take_kind ended fields (line_of line) else Err NotUtf8)

-- a reading that goes on: the records that have ended, and the fields of the one that is being read
pub record Going : Type 0 where
  pub records : List (List Field)
  pub fields : List Field

-- the reading of no lines
abbrev pub start : Going
start = record { records = []; fields = [] }

-- the reading after a further line, by what that line made of the fields
abbrev pub with_taken : Going → Taken → Going
with_taken going (GoesOn fields) = record { records = going.records; fields = fields }
with_taken going (Ends fields) = record { records = going.records ++ fields ∷ []; fields = [] }

-- the reading after a further line, by what that line made of the fields, or the line's fault
abbrev pub on_taken : Going → Result Taken Fault → Result Going Fault
on_taken going (Ok taken) = Ok (with_taken going taken)
on_taken going (Err fault) = Err fault

-- the reading after a further line, in a text that comes after `earlier` records
abbrev pub step : ℕ → Going → List ℕ → Result Going Fault
step earlier going line = on_taken going (take_line (earlier + length going.records) going.fields line)

-- the reading after a further line, in a text that comes after `earlier` records, or the fault that came before
abbrev pub on_going : ℕ → Result Going Fault → List ℕ → Result Going Fault
on_going earlier (Ok going) line = step earlier going line
on_going earlier (Err fault) line = Err fault

-- what these lines make of a reading, in a text that comes after `earlier` records: the reading after them, or the
-- first fault
abbrev pub steps : ℕ → Result Going Fault → List (List ℕ) → Result Going Fault
steps earlier said [] = said
steps earlier said (line ∷ lines) = steps earlier (on_going earlier said line) lines

-- the reading in which no record has ended, and one goes on with these fields
abbrev pub going_on : List Field → Result Going Fault
going_on fields = Ok (record { records = []; fields = fields })

-- the record that is being read, if it has a field
abbrev pub rest_of : List Field → List (List Field)
rest_of [] = []
rest_of (field ∷ fields) = (field ∷ fields) ∷ []

-- the records of a text that ends after this reading
abbrev pub finished : Going → List (List Field)
finished going = going.records ++ rest_of going.fields

-- all bytes of the fields' names may be in the name of a field
abbrev pub AreNamed : List Field → Type 0
AreNamed fields = All (λ (field : Field). IsNamed field.0) fields

-- a field without name and body
abbrev pub nothing : Field
nothing = ([], [])

-- the line begins a field that has the name of the field at this place of the fields, and this body
abbrev pub BeginsAgain : ℕ → List Field → List ℕ → List ℕ → Type 0
BeginsAgain place fields line body =
    (place < length fields) × (line_of line ≡ Start (get_or fields place nothing).0 body)
