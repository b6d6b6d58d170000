-- The command that the words of a command line name, or why they name none. `clap` defines the matches of words: a
-- subcommand and a `Row` for each argument that was found, with its values. Of rows, `first_of` gives the first value
-- of the argument with a name, and `all_of` all its values. `fault_of` gives the kinds of error that the parser may
-- answer to words, none where they are right.
use Rattle.std.specs.Prelude.{◌≡◌, ◌≢◌, ◌<◌, ◌^◌, ◌==◌, ◌&&◌, ◌||◌, not, ⊤, ℕ, Bool, true, false, List, [], ◌∷◌, Option, Some}
use Rattle.std.specs.Prelude.{None, if◌then◌else◌, bytes_eq, codes, map, nat_lt, option_map, string_bytes}
use Rattle.std.specs.Char.{is_ascii_alphanumeric}
use Rattle.std.specs.Option.{option_map_or}
use Rattle.std.specs.Str.Parse.{IsNumeral, digits_value, without_leading_plus}
use Rattle.clap.specs.Words.{Row, Text, all_of, first_of, subcommand_of, fault_of, IsAmong}
use Rattle.clap.specs.declared.error.kind.ErrorKind.{ErrorKind}
use Rattle.clap.specs.declared.error.kind.ErrorKind.TheVariants as kind
use Rattle.lt_words.specs.CommandLine.{langtag, name_of, positionals_of}
use Rattle.lt_words.specs.declared.subcommands.Subcommand.{Subcommand}
use Rattle.lt_words.specs.declared.subcommands.Subcommand.TheVariants as sub
use Rattle.lt_words.specs.declared.commands.Column.{Column}
use Rattle.lt_words.specs.declared.commands.Column.TheVariants as columns
use Rattle.lt_words.specs.declared.commands.Command.{Command}
use Rattle.lt_words.specs.declared.commands.Matching.{Matching}
use Rattle.lt_words.specs.declared.commands.Matching.TheVariants as matchings
use Rattle.lt_words.specs.declared.commands.Ranges.{Ranges}
use Rattle.lt_words.specs.declared.commands.Rows.{Rows}
use Rattle.lt_words.specs.declared.commands.Run.{Run}
use Rattle.lt_words.specs.declared.commands.Command.TheVariants as command
use Rattle.lt_words.specs.declared.faults.WordsFault.{WordsFault}
use Rattle.lt_words.specs.declared.faults.WordsFault.TheVariants as fault

-- the subcommand of a command
abbrev pub subcommand_for : Command → Subcommand
subcommand_for (command.Classify tag) = sub.Classify
subcommand_for (command.Check file) = sub.Check
subcommand_for (command.Canon run) = sub.Canon
subcommand_for (command.Codes run table) = sub.Codes
subcommand_for (command.Tsv run rows) = sub.Tsv
subcommand_for (command.Csv run rows delimiter) = sub.Csv
subcommand_for (command.Match file ranges) = sub.Match
subcommand_for (command.Serve file header) = sub.Match
subcommand_for (command.Extlang file tag) = sub.Extlang
subcommand_for (command.Equal file tag other) = sub.Equal
subcommand_for (command.Explain file tag) = sub.Explain
subcommand_for (command.Verify file tag) = sub.Verify
subcommand_for (command.Upgrade old new) = sub.Upgrade
subcommand_for (command.Show file tags) = sub.Show
subcommand_for (command.Json file) = sub.Json

-- the text is a decimal number, which a plus sign may begin
abbrev pub IsDecimal : Text → Type 0
IsDecimal text = IsNumeral 10 (without_leading_plus text)

-- the text is a decimal number of at least 1 and below 2 to the 64, and `column` is that
pub record IsNumber (text : Text) (column : ℕ) : Type 0 where
  pub digits : IsDecimal text
  pub number : column ≡ digits_value 10 (without_leading_plus text)
  pub some : 0 < column
  pub fits : column < 2 ^ 64

-- the column that a text names: by its number, or by its name if it is no decimal number
abbrev pub IsColumn : Text → Column → Type 0
IsColumn text (columns.Number number) = IsNumber text number
IsColumn text (columns.Name name) = (string_bytes name ≡ text) × (IsDecimal text → ⊥)

-- a column is named by its name only where there is a heading
abbrev pub FitsHeading : (heading : Bool) → Column → Type 0
FitsHeading heading (columns.Number number) = Unit {0}
FitsHeading heading (columns.Name name) = heading ≡ true

-- the values of a command's required arguments, in the order of the command line
abbrev pub AreValues : Command → List Text → Type 0
AreValues (command.Classify tag) texts = texts ≡ string_bytes tag ∷ []
AreValues (command.Check file) texts = texts ≡ string_bytes file ∷ []
AreValues (command.Canon run) texts = texts ≡ string_bytes run.registry ∷ []
AreValues (command.Codes run table) texts = texts ≡ string_bytes table ∷ string_bytes run.registry ∷ []
AreValues (command.Tsv run rows) texts =
    (text : Text) × IsColumn text rows.column × FitsHeading rows.heading rows.column
    × (texts ≡ string_bytes run.registry ∷ text ∷ [])
AreValues (command.Csv run rows delimiter) texts =
    (text : Text) × IsColumn text rows.column × FitsHeading rows.heading rows.column
    × (texts ≡ string_bytes run.registry ∷ text ∷ [])
AreValues (command.Match file ranges) texts = texts ≡ string_bytes file ∷ []
AreValues (command.Serve file header) texts = texts ≡ string_bytes file ∷ []
AreValues (command.Extlang file tag) texts = texts ≡ string_bytes file ∷ string_bytes tag ∷ []
AreValues (command.Equal file tag other) texts = texts ≡ string_bytes file ∷ string_bytes tag ∷ string_bytes other ∷ []
AreValues (command.Explain file tag) texts = texts ≡ string_bytes file ∷ string_bytes tag ∷ []
AreValues (command.Verify file tag) texts = texts ≡ string_bytes file ∷ string_bytes tag ∷ []
AreValues (command.Upgrade old new) texts = texts ≡ string_bytes old ∷ string_bytes new ∷ []
AreValues (command.Show file tags) texts = texts ≡ string_bytes file ∷ []
AreValues (command.Json file) texts = texts ≡ string_bytes file ∷ []

-- Whether a byte may be part of a field that is added to rows: a letter, a digit, a space (32), a hyphen (45) or an
-- underscore (95). Such a field is a canonical text, a fault with its place, or a name.
abbrev pub is_of_added : ℕ → Bool
is_of_added byte = is_ascii_alphanumeric byte || (byte == 32) || (byte == 45) || (byte == 95)

-- Whether a byte may stand between fields. It is ASCII, but no quote (34), line feed (10) or carriage return (13). It
-- is no byte of the fields that are added, so that these stay one field each.
abbrev pub is_delimiter : ℕ → Bool
is_delimiter byte = nat_lt byte 128 && not (byte == 34) && not (byte == 10) && not (byte == 13) && not (is_of_added byte)

-- the byte of a text of one byte, if it may stand between fields; None for any other text
abbrev pub delimiter_alone : Text → Option ℕ
delimiter_alone (byte ∷ []) = if is_delimiter byte then Some byte else None
delimiter_alone _ = None

-- the delimiter that a text names: its one byte, or a tab (9) by the name `tab`
abbrev pub delimiter_named : Text → Option ℕ
delimiter_named text = if bytes_eq text (codes "tab") then Some 9 else delimiter_alone text

-- the delimiter that the option names, by the matches of a command line; without the option a comma (44)
abbrev pub delimiter_given : List Row → Option ℕ
delimiter_given rows = option_map_or delimiter_named (first_of (codes "C") rows) (Some 44)

-- whether a flag is given, by the matches of a command line: they have its value as `true` or `false`
abbrev pub is_flagged : (name : Text) → List Row → Bool
is_flagged name rows = option_map_or (λ text. bytes_eq text (codes "true")) (first_of name rows) false

-- how ranges match, by whether extended filtering and whether lookup is asked for; both can't be
abbrev pub matching_by : (extended lookup : Bool) → Option Matching
matching_by false false = Some matchings.Basic
matching_by true false = Some matchings.Extended
matching_by false true = Some matchings.Lookup
matching_by true true = None

-- how ranges match, by the flags that are given
abbrev pub matching_given : List Row → Option Matching
matching_given rows = matching_by (is_flagged (codes "extended") rows) (is_flagged (codes "lookup") rows)

-- the values of a repeated argument, by the matches of a command line
abbrev pub values_given : (name : Text) → List Row → List Text
values_given name rows = option_map_or (λ texts. texts) (all_of name rows) []

-- the command line gives these ranges, one at least, and asks for their way to match
abbrev pub AreRangesGiven : List Row → Ranges → Type 0
AreRangesGiven rows ranges =
    (map string_bytes ranges.texts.items ≡ values_given (codes "RANGE") rows)
    × (values_given (codes "RANGE") rows ≢ []) × (matching_given rows ≡ Some ranges.matching)

-- the command line gives no range, and no flag that says how ranges match
abbrev pub IsAlone : List Row → Type 0
IsAlone rows =
    (values_given (codes "RANGE") rows ≡ []) × (is_flagged (codes "extended") rows ≡ false)
    × (is_flagged (codes "lookup") rows ≡ false)

-- the options of a run over lines are as the command line gives them; `rows` are its matches, one for each argument
abbrev pub AreRunOptions : Run → List Row → Type 0
AreRunOptions run rows = run.summary ≡ is_flagged (codes "summary") rows

-- the options of `rows`, the rows that a command answers, are as the command line gives them; `found` are its matches
abbrev pub AreRowOptions : Rows → List Row → Type 0
AreRowOptions rows found =
    (rows.keep ≡ is_flagged (codes "keep") found)
    × (option_map string_bytes rows.codes ≡ first_of (codes "TABLE") found)

-- the options of a command are as the command line gives them; `found` are its matches. CSV always has a heading.
abbrev pub AreOptions : Command → List Row → Type 0
AreOptions (command.Canon run) found = AreRunOptions run found
AreOptions (command.Codes run table) found = AreRunOptions run found
AreOptions (command.Tsv run rows) found =
    AreRunOptions run found × (rows.heading ≡ is_flagged (codes "heading") found) × AreRowOptions rows found
AreOptions (command.Csv run rows delimiter) found =
    AreRunOptions run found × (rows.heading ≡ true) × (delimiter_given found ≡ Some delimiter)
    × AreRowOptions rows found
AreOptions (command.Match file ranges) found =
    (first_of (codes "HEADER") found ≡ None) × AreRangesGiven found ranges
AreOptions (command.Serve file header) found =
    (first_of (codes "HEADER") found ≡ Some (string_bytes header)) × IsAlone found
AreOptions (command.Show file tags) found =
    (map string_bytes tags.texts.items ≡ values_given (codes "TAG") found)
    × (tags.json ≡ is_flagged (codes "json") found)
AreOptions _ found = ⊤

-- the texts are the values of these required arguments, by the matches `rows` of a command line
pub record AreGiven (rows : List Row) (positionals texts : List Text) : Type 0 where
  pub each : map (λ positional. first_of positional rows) positionals ≡ map (λ text. Some text) texts

-- what a parse of the command line found is this command, with its values and options
pub record IsNamed (found : Option (Text × List Row)) (command : Command) : Type 0 where
  pub rows : List Row
  pub named : found ≡ Some (name_of (subcommand_for command), rows)
  pub texts : List Text
  pub given : AreGiven rows (positionals_of (subcommand_for command)) texts
  pub values : AreValues command texts
  pub options : AreOptions command rows

-- the name of the file that a command reads first: the registry, or the older one
abbrev pub first_file_of : Command → Option (List ℕ)
first_file_of (command.Classify tag) = None
first_file_of (command.Check file) = Some (string_bytes file)
first_file_of (command.Canon run) = Some (string_bytes run.registry)
first_file_of (command.Codes run table) = Some (string_bytes run.registry)
first_file_of (command.Tsv run rows) = Some (string_bytes run.registry)
first_file_of (command.Csv run rows delimiter) = Some (string_bytes run.registry)
first_file_of (command.Match file ranges) = Some (string_bytes file)
first_file_of (command.Serve file header) = Some (string_bytes file)
first_file_of (command.Extlang file tag) = Some (string_bytes file)
first_file_of (command.Equal file tag other) = Some (string_bytes file)
first_file_of (command.Explain file tag) = Some (string_bytes file)
first_file_of (command.Verify file tag) = Some (string_bytes file)
first_file_of (command.Upgrade old new) = Some (string_bytes old)
first_file_of (command.Show file tags) = Some (string_bytes file)
first_file_of (command.Json file) = Some (string_bytes file)

-- the name of the file that a command reads second: the newer registry, or the table of codes
abbrev pub second_file_of : Command → Option (List ℕ)
second_file_of (command.Upgrade old new) = Some (string_bytes new)
second_file_of (command.Codes run table) = Some (string_bytes table)
second_file_of (command.Tsv run rows) = option_map string_bytes rows.codes
second_file_of (command.Csv run rows delimiter) = option_map string_bytes rows.codes
second_file_of _ = None

-- whether the command reads the standard input, whatever file it names
abbrev pub reads_input_of : Command → Bool
reads_input_of (command.Canon run) = true
reads_input_of (command.Codes run table) = true
reads_input_of (command.Tsv run rows) = true
reads_input_of (command.Csv run rows delimiter) = true
reads_input_of (command.Match file ranges) = true
reads_input_of (command.Serve file header) = true
reads_input_of (command.Verify file tag) = true
reads_input_of (command.Json file) = true
reads_input_of _ = false

-- whether a command is asked for a summary of its lines
abbrev pub has_summary : Command → Bool
has_summary (command.Canon run) = run.summary
has_summary (command.Codes run table) = run.summary
has_summary (command.Tsv run rows) = run.summary
has_summary (command.Csv run rows delimiter) = run.summary
has_summary _ = false

-- the words name this command, by the matches that `clap` defines
abbrev pub Names : List Text → Command → Type 0
Names words = IsNamed (subcommand_of langtag words)

-- the words have no fault, and name this command
pub record Reads (words : List Text) (command : Command) : Type 0 where
  pub right : fault_of langtag words ≡ []
  pub names : Names words command

-- Why the words name no command. Help and the version are answered only if they are asked for. Usage is answered only
-- to words that name no command and don't ask only for help or only for the version. OutOfMemory may be answered to any
-- words.
abbrev pub IsRefused : List Text → WordsFault → Type 0
IsRefused words (fault.Help text) = IsAmong kind.DisplayHelp (fault_of langtag words)
IsRefused words (fault.Version text) = IsAmong kind.DisplayVersion (fault_of langtag words)
IsRefused words (fault.Usage text) =
    ((command : Command) → Reads words command → ⊥) × (fault_of langtag words ≡ kind.DisplayHelp ∷ [] → ⊥)
    × (fault_of langtag words ≡ kind.DisplayVersion ∷ [] → ⊥)
IsRefused words fault.OutOfMemory = ⊤

-- ---- the steps of reading, each with why it refuses; Help and Version come only of a parse (`IsFaultOf`)

-- one of these required arguments has no value among the matches; OutOfMemory may be answered in any case
abbrev pub LacksValue : List Row → List Text → WordsFault → Type 0
LacksValue rows positionals (fault.Help text) = ⊥
LacksValue rows positionals (fault.Version text) = ⊥
LacksValue rows positionals (fault.Usage text) = (texts : List Text) → AreGiven rows positionals texts → ⊥
LacksValue rows positionals fault.OutOfMemory = ⊤

-- the text is no number of a column; OutOfMemory may be answered in any case
abbrev pub IsNoNumber : Text → WordsFault → Type 0
IsNoNumber text (fault.Help said) = ⊥
IsNoNumber text (fault.Version said) = ⊥
IsNoNumber text (fault.Usage said) = (column : ℕ) → IsNumber text column → ⊥
IsNoNumber text fault.OutOfMemory = ⊤

-- the text names no column of rows, with or without a heading; OutOfMemory may be answered in any case
abbrev pub IsNoColumn : Text → (heading : Bool) → WordsFault → Type 0
IsNoColumn text heading (fault.Help said) = ⊥
IsNoColumn text heading (fault.Version said) = ⊥
IsNoColumn text heading (fault.Usage said) = (column : Column) → IsColumn text column → FitsHeading heading column → ⊥
IsNoColumn text heading fault.OutOfMemory = ⊤

-- the option names no byte that may stand between fields; OutOfMemory may be answered in any case
abbrev pub LacksDelimiter : List Row → WordsFault → Type 0
LacksDelimiter rows (fault.Help text) = ⊥
LacksDelimiter rows (fault.Version text) = ⊥
LacksDelimiter rows (fault.Usage text) = delimiter_given rows ≡ None
LacksDelimiter rows fault.OutOfMemory = ⊤

-- the flags ask for two ways to match; OutOfMemory may be answered in any case
abbrev pub LacksMatching : List Row → WordsFault → Type 0
LacksMatching rows (fault.Help text) = ⊥
LacksMatching rows (fault.Version text) = ⊥
LacksMatching rows (fault.Usage text) = matching_given rows ≡ None
LacksMatching rows fault.OutOfMemory = ⊤

-- the command line gives no range, or asks for two ways to match; OutOfMemory may be answered in any case
abbrev pub LacksRanges : List Row → WordsFault → Type 0
LacksRanges rows (fault.Help text) = ⊥
LacksRanges rows (fault.Version text) = ⊥
LacksRanges rows (fault.Usage text) = (ranges : Ranges) → AreRangesGiven rows ranges → ⊥
LacksRanges rows fault.OutOfMemory = ⊤

-- the command line gives a range, or says how ranges match; OutOfMemory may be answered in any case
abbrev pub HasCompany : List Row → WordsFault → Type 0
HasCompany rows (fault.Help text) = ⊥
HasCompany rows (fault.Version text) = ⊥
HasCompany rows (fault.Usage text) = IsAlone rows → ⊥
HasCompany rows fault.OutOfMemory = ⊤

-- what a parse found is no command; OutOfMemory may be answered in any case
abbrev pub NamesNone : Option (Text × List Row) → WordsFault → Type 0
NamesNone found (fault.Help text) = ⊥
NamesNone found (fault.Version text) = ⊥
NamesNone found (fault.Usage text) = (command : Command) → IsNamed found command → ⊥
NamesNone found fault.OutOfMemory = ⊤

-- the text is what is printed, as far as that is known
abbrev pub IsPrinted : Option (List ℕ) → List ℕ → Type 0
IsPrinted None text = ⊤
IsPrinted (Some printed) text = text ≡ printed

-- the fault of a parse that failed with an error of the kind `k`, which prints as `printed`, if that is known;
-- OutOfMemory may be answered in any case
abbrev pub IsFaultOf : ErrorKind → Option (List ℕ) → WordsFault → Type 0
IsFaultOf k printed (fault.Help text) = (k ≡ kind.DisplayHelp) × IsPrinted printed (string_bytes text)
IsFaultOf k printed (fault.Version text) = (k ≡ kind.DisplayVersion) × IsPrinted printed (string_bytes text)
IsFaultOf k printed (fault.Usage text) =
    (k ≡ kind.DisplayHelp → ⊥) × (k ≡ kind.DisplayVersion → ⊥)
    × (k ≡ kind.OutOfMemory → ⊥) × IsPrinted printed (string_bytes text)
IsFaultOf k printed fault.OutOfMemory = ⊤
