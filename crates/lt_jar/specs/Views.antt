-- How the code's values stand for those of the contracts on the record-jar format.
use Rattle.std.specs.Prelude.{◌≡◌, ◌⊎◌, ℕ, List, Option, Some, None, Result, Ok, Err}
use Rattle.lt_jar.specs.LineKinds as lines
use Rattle.lt_jar.specs.Records.{Field}
use Rattle.lt_jar.specs.Faults as faults
use Rattle.lt_jar.specs.Reading as reading
use Rattle.lt_jar.specs.declared.faults.JarFaultKind.{JarFaultKind}
use Rattle.lt_jar.specs.declared.faults.JarFaultKind.TheVariants.{LineTooLong, NotUtf8, LeadingContinuation, BadLine}
use Rattle.lt_jar.specs.declared.faults.JarFaultKind.TheVariants.{TooManyRecords, OutOfMemory, Read, TooManyTurns}
use Rattle.lt_jar.specs.declared.faults.JarFaultKind.TheVariants.{Failed}
use Rattle.lt_jar.specs.declared.faults.JarFault.{JarFault}
use Rattle.lt_jar.specs.declared.lines.LineKind.{LineKind}
use Rattle.lt_jar.specs.declared.lines.LineKind.TheVariants as kinds
use Rattle.lt_jar.specs.declared.drafts.Progress.{Progress}
use Rattle.lt_jar.specs.declared.drafts.Progress.TheVariants as progress

-- what a line is, as the contracts have it, by what the code finds
abbrev pub line_in : LineKind → lines.Line
line_in kinds.Blank = lines.Blank
line_in kinds.Separator = lines.Separator
line_in (kinds.Continuation text) = lines.Continuation text.now
line_in (kinds.Start name body) = lines.Start name.now body.now
line_in kinds.Bad = lines.Bad

-- the fault of the format that a kind of fault stands for; None if it is no fault of the format
abbrev pub fault_in : JarFaultKind → Option faults.Fault
fault_in LineTooLong = Some faults.LineTooLong
fault_in NotUtf8 = Some faults.NotUtf8
fault_in LeadingContinuation = Some faults.LeadingContinuation
fault_in BadLine = Some faults.BadLine
fault_in TooManyRecords = Some faults.TooManyRecords
fault_in OutOfMemory = None
fault_in Read = None
fault_in TooManyTurns = None
fault_in Failed = None

-- the fault that is answered is that of the text; or it is OutOfMemory, at a line with no fault in the lines before it
abbrev pub IsFaultOf : List ℕ → JarFault → Type 0
IsFaultOf text said =
    ((fault : faults.Fault) × (fault_in said.kind ≡ Some fault) × faults.IsTheFault 0 text fault said.line)
    ⊎ ((said.kind ≡ OutOfMemory) × faults.IsLineReached 0 text said.line)

-- the kind that the code answers is that of the fault that is computed, `said`, or it is OutOfMemory
abbrev pub IsSaid : {A : Type 0} → JarFaultKind → Result A faults.Fault → Type 0
IsSaid kind said = (kind ≡ OutOfMemory) ⊎ ((fault : faults.Fault) × (fault_in kind ≡ Some fault) × (said ≡ Err fault))

-- what a line did to the record, as the contracts have it; the record has these fields after the line
abbrev pub taken_in : Progress → List Field → reading.Taken
taken_in progress.GoesOn fields = reading.GoesOn fields
taken_in progress.Ends fields = reading.Ends fields

-- what the code answers to a line is what is computed, `said`, and the record has these fields after it; or it is the
-- line's fault, or OutOfMemory
abbrev pub IsTaken : Result Progress JarFaultKind → Result reading.Taken faults.Fault → List Field → Type 0
IsTaken (Ok progress) said fields = said ≡ Ok (taken_in progress fields)
IsTaken (Err kind) said fields = IsSaid kind said
