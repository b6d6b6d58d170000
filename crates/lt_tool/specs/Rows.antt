-- Which lines a command is to answer, tags or rows with a column of tags, and by what: the ground, which is a registry
-- and perhaps a table of codes. `named` says whether a table is named, and `bytes` gives the bytes of a file, where
-- they are known. The `front` of a plan is what was read of the input to find a column by its name. The files were
-- `before` and are `after`.
use Rattle.std.specs.Prelude.{◌≡◌, ◌-◌, ℕ, Bool, true, false, List, Option, Some, None, Result, Ok, Err, IfErr, is_some}
use Rattle.std.specs.Prelude.{string_bytes}
use Rattle.lt_registry.specs.Parts.{EntryParts}
use Rattle.lt_codes.specs.Reading.{ReadsTable}
use Rattle.lt_codes.specs.declared.codes.Code.{Code}
use Rattle.lt_codes.specs.declared.faults.TableFault.{TableFault}
use Rattle.lt_lines.specs.declared.forms.LineForm.{LineForm}
use Rattle.lt_lines.specs.declared.forms.LineForm.TheVariants as forms
use Rattle.lt_lines.specs.declared.forms.RowForm.{RowForm}
use Rattle.lt_rows.specs.declared.rows.Separator.{Separator}
use Rattle.lt_rows.specs.declared.rows.Separator.TheVariants as separators
use Rattle.lt_heading.specs.Finding.{FindsColumn}
use Rattle.lt_heading.specs.declared.finding.ColumnFault.{ColumnFault}
use Rattle.lt_heading.specs.declared.finding.ColumnFault.TheVariants as column_faults
use Rattle.lt_heading.specs.declared.finding.FoundColumn.{FoundColumn}
use Rattle.lt_words.specs.declared.commands.Column.{Column}
use Rattle.lt_words.specs.declared.commands.Column.TheVariants as columns
use Rattle.lt_words.specs.declared.commands.Rows.{Rows}
use Rattle.lt_tool.specs.Registries.{ReadsJudged}
use Rattle.lt_tool.specs.Results.{Then}
use Rattle.lt_tool.specs.Streams.{IsUntouched, Stream, bytes_of, stream}
use Rattle.lt_tool.specs.declared.faults.Fault.{Fault}
use Rattle.lt_tool.specs.declared.faults.Fault.TheVariants as faults
use Rattle.lt_tool.specs.declared.faults.Role.TheVariants as roles
use Rattle.lt_tool.specs.declared.plans.Ground.{Ground}
use Rattle.lt_tool.specs.declared.plans.Plan.{Plan}
use Rattle.lt_tool.specs.declared.plans.Plan.TheVariants as plans
use Rattle.lt_tool.specs.declared.rows.ColumnPlace.{ColumnPlace}
use Rattle.lt_tool.specs.declared.streams.Files.{Files}

-- the codes of a table, or why it is refused
abbrev pub given_codes : Result (List Code) TableFault → Result (Option (List Code)) Fault
given_codes (Ok codes) = Ok (Some codes)
given_codes (Err fault) = Err (faults.Table fault)

-- the table of codes of a file was read, if one is named; if not, the file was not read
abbrev pub ReadsCodes : {G : Type 0} → (named : Bool) → Stream G → Result (Option (List Code)) Fault → Type 0
ReadsCodes false file result = IsUntouched file × (result ≡ Ok None)
ReadsCodes true file result = (reading : Result (List Code) TableFault)
    × ReadsTable file.bytes file.before file.after reading × (result ≡ given_codes reading)

-- the registry of the first file was read, and if it passes the check, so was the table of the second, if one is named;
-- if the registry is refused, the second file is unread
pub record ReadsGround {F : Type 0} (bytes : F → Option (List ℕ)) (named : Bool) (before after : Files F)
    (result : Result Ground Fault) : Type 0 where
  pub had : Result (List EntryParts) Fault
  pub reads : ReadsJudged (stream (bytes_of bytes) before.first after.first) roles.Only had
  pub unread : IfErr had (λ fault. after.second ≡ before.second)
  pub goes_on : Then (λ R result. (given : Result (Option (List Code)) Fault)
      × ReadsCodes named (stream (bytes_of bytes) before.second after.second) given
      × Then (λ codes result. result ≡ Ok (record { checked = R; codes = codes })) given result) had result

-- the ground was read, and lines that are tags are to be answered by it; or the ground is refused
pub record PlansTags {F : Type 0} (bytes : F → Option (List ℕ)) (named : Bool) (before after : Files F)
    (result : Result Plan Fault) : Type 0 where
  pub ground : Result Ground Fault
  pub reads : ReadsGround bytes named before after ground
  pub goes_on : Then (λ g result. result ≡ Ok (plans.Lines (record { ground = g; form = forms.Tag; front = None })))
      ground result

-- the form of rows by the options on the command line and by the number of the column with the tags, counted from 1;
-- the form counts the fields before the column
abbrev pub row_form : Rows → ℕ → RowForm
row_form rows number = record { before = number - 1; has_heading = rows.heading; is_kept = rows.keep }

-- the form of lines that are rows: TSV where tabs part fields, CSV where a delimiter does
abbrev pub line_form : Separator → Rows → ℕ → LineForm
line_form separators.Tab rows number = forms.Row (row_form rows number)
line_form (separators.Delimiter delimiter) rows number = forms.Csv (row_form rows number) delimiter

-- the fault of a column that is not found: wrong usage where the heading does not have its name exactly once, with the
-- line that says so; or that of reading the heading
abbrev pub of_column_fault : ColumnFault → Fault
of_column_fault (column_faults.Name line) = faults.Usage line
of_column_fault (column_faults.Heading fault) = faults.Run fault

-- where a column is, or why it is not found, by what the search for its name found
abbrev pub place_of : Result FoundColumn ColumnFault → Result ColumnPlace Fault
place_of (Ok found) = Ok (record { number = found.number; front = Some found.front })
place_of (Err fault) = Err (of_column_fault fault)

-- where the column is that the words name: a number says it; a name is looked for in the heading of the input
abbrev pub FindsPlace : {I : Type 0} → Separator → Column → Stream I → Result ColumnPlace Fault → Type 0
FindsPlace S (columns.Number n) input result =
    IsUntouched input × (result ≡ Ok (record { number = n; front = None }))
FindsPlace S (columns.Name name) input result = (found : Result FoundColumn ColumnFault)
    × FindsColumn S (string_bytes name) input.bytes input.before input.after found × (result ≡ place_of found)

-- rows are to be answered: the files were read, and where none is refused, the column was looked for
pub record PlansRows {F I : Type 0} (bytes : F → Option (List ℕ)) (S : Separator) (rows : Rows)
    (before after : Files F) (input : Stream I) (result : Result Plan Fault) : Type 0 where
  pub ground : Result Ground Fault
  pub reads : ReadsGround bytes (is_some rows.codes) before after ground
  pub unread : IfErr ground (λ fault. IsUntouched input)
  pub goes_on : Then (λ g result. (place : Result ColumnPlace Fault) × FindsPlace S rows.column input place
      × Then (λ p result. result ≡ Ok (plans.Lines
      (record { ground = g; form = line_form S rows p.number; front = p.front }))) place result) ground result
