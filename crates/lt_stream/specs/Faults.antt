-- The faults that end a run, and the line that is printed for each.
use Rattle.std.specs.Prelude.{ℕ, List, [], ◌∷◌, ◌++◌, codes}
use Rattle.std.specs.Fmt.{decimal}
use Rattle.lt_stream.specs.declared.faults.ToolFault.{ToolFault}
use Rattle.lt_stream.specs.declared.faults.ToolFault.TheVariants as faults

-- the name of a fault, as it is printed, without the line that it names
abbrev pub tool_name_of : ToolFault → List ℕ
tool_name_of faults.Read = codes "Read"
tool_name_of faults.Write = codes "Write"
tool_name_of faults.TooManyTurns = codes "TooManyTurns"
tool_name_of faults.OutOfMemory = codes "OutOfMemory"
tool_name_of (faults.BadCsv line) = codes "BadCsv"
tool_name_of (faults.BadTsv line) = codes "BadTsv"
tool_name_of faults.Utf16 = codes "Utf16"

-- the line that a fault names, as it is printed
abbrev pub line_said : ℕ → List ℕ
line_said line = codes " line " ++ decimal line

-- what is printed after the name of a fault: the line in which the record of CSV at fault begins, or the line of the
-- row of TSV at fault, or nothing
abbrev pub place_said : ToolFault → List ℕ
place_said (faults.BadCsv line) = line_said line
place_said (faults.BadTsv line) = line_said line
place_said _ = []

-- the line, ended by a line feed (10), for the fault that ended a run
abbrev pub fault_said : ToolFault → List ℕ
fault_said fault = codes "! " ++ tool_name_of fault ++ place_said fault ++ 10 ∷ []
