-- What is owed for a text: which answer to each of its lines a run has to write, be they tags, rows of TSV or records
-- of CSV.
use Rattle.std.specs.Prelude.{◌≡◌, ◌≢◌, ◌≤◌, ◌⊎◌, ◌+◌, ◌==◌, ◌&&◌, ℕ, Bool, true, false, List, [], ◌∷◌, ◌++◌}
use Rattle.std.specs.Prelude.{if◌then◌else◌, length, codes, Option, Some, None}
use Rattle.std.specs.Borrow.{Bor}
use Rattle.std.specs.List.{AllByRecursion, count_by}
use Rattle.std.specs.Io.BufRead.{ends_with_byte}
use Rattle.lt_jar.specs.Lines.{IsOneLine, content_of, lines_of}
use Rattle.lt_registry.specs.Parts.{EntryParts}
use Rattle.lt_canon.specs.Texts.{IsCanonicalTextOf, IsTextRefusal}
use Rattle.lt_canon.specs.declared.refusals.TextRefusal.{TextRefusal}
use Rattle.lt_codes.specs.Codes.{registered_text}
use Rattle.lt_codes.specs.declared.codes.Code.{Code}
use Rattle.lt_lines.specs.Refusals.{IsRefusalLine, IsTold}
use Rattle.lt_rows.specs.Quotes.{IsFreeOutside, is_quoted, place_at, records_from}
use Rattle.lt_rows.specs.declared.quotes.Place.{Place}
use Rattle.lt_rows.specs.declared.quotes.Place.TheVariants as places
use Rattle.lt_rows.specs.Marks.{Begins, IsWide, SplitsMark}
use Rattle.lt_rows.specs.Records.{IsCsvRecord}
use Rattle.lt_rows.specs.Rows.{HasFewer, HasField, HasReturn, IsTextIn, separator}
use Rattle.lt_lines.specs.declared.bases.Basis.{Basis}
use Rattle.lt_lines.specs.declared.forms.LineForm.{LineForm}
use Rattle.lt_lines.specs.declared.forms.RowForm.{RowForm}
use Rattle.lt_lines.specs.declared.forms.LineForm.TheVariants as forms
use Rattle.lt_rows.specs.declared.rows.Separator.{Separator}
use Rattle.lt_rows.specs.declared.rows.Separator.TheVariants as separators
use Rattle.lt_stream.specs.Running.{longest_row}
use Rattle.lt_stream.specs.declared.faults.ToolFault.{ToolFault}
use Rattle.lt_stream.specs.declared.faults.ToolFault.TheVariants as faults
use Rattle.lt_lines.specs.declared.runs.Counts.{Counts}

-- What texts are answered by: the entries of a registry, and a table of codes. If a text begins with a code, it is read
-- with the registered subtag that the table has for the code.
pub record Ground : Type 0 where
  pub entries : List EntryParts
  pub codes : List Code

-- the codes of a table, if there is one
abbrev pub codes_in : Option (Bor (List Code)) → List Code
codes_in None = []
codes_in (Some table) = table.now

-- the entries of a registry and the codes of a table that a `Basis` holds
abbrev pub ground_of : {T : Type 0} → (T → List EntryParts) → Basis T → Ground
ground_of listed basis = record { entries = listed basis.checked.now; codes = codes_in basis.codes }

-- by what lines are answered: the entries and codes, and the form of lines (tags, TSV or CSV)
pub record Terms : Type 0 where
  pub ground : Ground
  pub form : LineForm

-- the `Terms` of these parts
abbrev pub terms : Ground → LineForm → Terms
terms ground form = record { ground = ground; form = form }

-- an answer: its bytes, and whether it is a refusal
pub record Reply : Type 0 where
  pub bytes : List ℕ
  pub refused : Bool

-- the `Reply` of these parts
abbrev pub reply : List ℕ → Bool → Reply
reply bytes refused = record { bytes = bytes; refused = refused }

-- ---- a line that is a tag

-- the text has a canonical text, and `line` is that, ended by a line feed (10)
pub record AnswersText (R : List EntryParts) (text line : List ℕ) : Type 0 where
  pub canonical : List ℕ
  pub is_canonical : IsCanonicalTextOf R text canonical
  pub line_is : line ≡ canonical ++ 10 ∷ []

-- the text is refused, and `line` says why
pub record RefusesText (R : List EntryParts) (text line : List ℕ) : Type 0 where
  pub refusal : TextRefusal
  pub is_refusal : IsTextRefusal R text refusal
  pub line_is : IsRefusalLine refusal line

-- whether a line says why a text is refused: it begins with `!` (33) and a space (32)
abbrev pub is_refusal : List ℕ → Bool
is_refusal [] = false
is_refusal (a ∷ []) = false
is_refusal (a ∷ b ∷ rest) = (a == 33) && (b == 32)

-- the answer that is owed for a text: its canonical text, or its refusal, which begins with `! ` as no canonical text
-- does (`marked`); OutOfMemory is never owed
pub record IsTextReply (R : List EntryParts) (text : List ℕ) (r : Reply) : Type 0 where
  pub owed : (AnswersText R text r.bytes × (r.refused ≡ false)) ⊎ (RefusesText R text r.bytes × (r.refused ≡ true))
  pub marked : r.refused ≡ is_refusal r.bytes

-- ---- a line that is a row, or a record of CSV

-- what ends a line: a carriage return (13), if the line has one, and a line feed (10)
abbrev pub end_of : List ℕ → List ℕ
end_of line = if ends_with_byte 13 line then 13 ∷ 10 ∷ [] else 10 ∷ []

-- the row with a further field `last`, ended as `line` is
abbrev pub row_line : Separator → List ℕ → List ℕ → List ℕ → List ℕ
row_line S row last line = row ++ separator S ∷ last ++ end_of line

-- the row; if rows are kept (true), with a further field, the canonical text of its tag
abbrev pub with_canonical : Bool → Separator → (row canonical : List ℕ) → List ℕ
with_canonical false S row canonical = row
with_canonical true S row canonical = row ++ separator S ∷ canonical

-- the row unchanged, with a last field that says why it is refused; if rows are kept, with an empty field before that
abbrev pub refused_line : Bool → Separator → (line told : List ℕ) → List ℕ
refused_line kept S line told = row_line S (with_canonical kept S (content_of line) []) told line

-- the answer to a row whose field, after `before` others, has a canonical text: the canonical text replaces the field's
-- text between its `quotes`, and an empty last field is added
pub record AnswersRow (S : Separator) (G : Ground) (before : ℕ) (line bytes : List ℕ) : Type 0 where
  pub front : List ℕ
  pub field : List ℕ
  pub after : List ℕ
  pub at : HasField S before (content_of line) front field after
  pub quotes : List ℕ
  pub text : List ℕ
  pub is_text : IsTextIn S field quotes text
  pub canonical : List ℕ
  pub is_canonical : IsCanonicalTextOf G.entries (registered_text G.codes text) canonical
  pub line_is : bytes ≡ row_line S ((front ++ quotes) ++ canonical ++ (quotes ++ after)) [] line

-- the answer to a row that is kept, whose field, after `before` others, has a canonical text: two fields are added,
-- that text and an empty one
pub record KeepsRow (S : Separator) (G : Ground) (before : ℕ) (line bytes : List ℕ) : Type 0 where
  pub front : List ℕ
  pub field : List ℕ
  pub after : List ℕ
  pub at : HasField S before (content_of line) front field after
  pub quotes : List ℕ
  pub text : List ℕ
  pub is_text : IsTextIn S field quotes text
  pub canonical : List ℕ
  pub is_canonical : IsCanonicalTextOf G.entries (registered_text G.codes text) canonical
  pub line_is : bytes ≡ row_line S (with_canonical true S (content_of line) canonical) [] line

-- the answer to a row whose field has a canonical text: this replaces the field's text, or, if rows are kept (true), it
-- is added as a further field
abbrev pub AnswersOrKeeps : Bool → Separator → Ground → ℕ → (line bytes : List ℕ) → Type 0
AnswersOrKeeps false S G before line bytes = AnswersRow S G before line bytes
AnswersOrKeeps true S G before line bytes = KeepsRow S G before line bytes

-- the answer to a row whose field, after `before` others, is refused: the last field says why; `kept` is whether rows
-- are kept
pub record RefusesRow (kept : Bool) (S : Separator) (G : Ground) (before : ℕ) (line bytes : List ℕ) : Type 0 where
  pub front : List ℕ
  pub field : List ℕ
  pub after : List ℕ
  pub at : HasField S before (content_of line) front field after
  pub quotes : List ℕ
  pub text : List ℕ
  pub is_text : IsTextIn S field quotes text
  pub refusal : TextRefusal
  pub is_refusal : IsTextRefusal G.entries (registered_text G.codes text) refusal
  pub told : List ℕ
  pub is_told : IsTold refusal told
  pub line_is : bytes ≡ refused_line kept S line told

-- the answer to a row of no more than `before` fields: the last field says `NoColumn`; `kept` is whether rows are kept
pub record LacksField (kept : Bool) (S : Separator) (before : ℕ) (line bytes : List ℕ) : Type 0 where
  pub fewer : HasFewer S before (content_of line)
  pub line_is : bytes ≡ refused_line kept S line (codes "NoColumn")

-- The answer that is owed for a row by what its field is: the canonical text is in it, or why the field is refused, or
-- `NoColumn`. None is owed where memory runs out.
abbrev pub IsFieldReply : Separator → Ground → RowForm → List ℕ → Reply → Type 0
IsFieldReply S G row line r =
    (AnswersOrKeeps row.is_kept S G row.before line r.bytes × (r.refused ≡ false))
    ⊎ ((RefusesRow row.is_kept S G row.before line r.bytes ⊎ LacksField row.is_kept S row.before line r.bytes)
    × (r.refused ≡ true))

-- the answer to a line with a carriage return outside of quotes: the last field says `BadReturn`; `kept` is whether
-- rows are kept
pub record RefusesReturn (kept : Bool) (S : Separator) (line : List ℕ) (r : Reply) : Type 0 where
  pub returns : HasReturn S (content_of line)
  pub line_is : r.bytes ≡ refused_line kept S line (codes "BadReturn")
  pub refused : r.refused ≡ true

-- the line has no carriage return outside of quotes, and `P` is true
pub record HasNoReturn (S : Separator) (line : List ℕ) (P : Type 0) : Type 0 where
  pub none : HasReturn S (content_of line) → ⊥
  pub owed : P

-- the answer that is owed for a row
abbrev pub IsRowReply : Separator → Ground → RowForm → List ℕ → Reply → Type 0
IsRowReply S G row line r =
    RefusesReturn row.is_kept S line r ⊎ HasNoReturn S line (IsFieldReply S G row line r)

-- the answer to a heading: the line, and the names of the fields that are added to rows
abbrev pub heading_line : Bool → Separator → List ℕ → List ℕ
heading_line kept S line =
    row_line S (with_canonical kept S (content_of line) (codes "langtag")) (codes "langtag_fault") line

-- the answer that is owed for a heading
abbrev pub IsHeadingReply : Bool → Separator → List ℕ → Reply → Type 0
IsHeadingReply kept S line r = RefusesReturn kept S line r
    ⊎ HasNoReturn S line ((r.bytes ≡ heading_line kept S line) × (r.refused ≡ false))

-- the answer that is owed for a line of a table, which is its heading or a row
abbrev pub IsReplyAmong : Separator → Ground → RowForm → (heading : Bool) → List ℕ → Reply → Type 0
IsReplyAmong S G row true line r = IsHeadingReply row.is_kept S line r
IsReplyAmong S G row false line r = IsRowReply S G row line r

-- ---- lines

-- the answer that is owed for a line; the first may be a heading, and a carriage return that ends a tag is no part of
-- it
abbrev pub IsReplyIn : Ground → LineForm → Bool → List ℕ → Reply → Type 0
IsReplyIn G forms.Tag first line r = IsTextReply G.entries (registered_text G.codes (content_of line)) r
IsReplyIn G (forms.Row row) first line r = IsReplyAmong separators.Tab G row (row.has_heading && first) line r
IsReplyIn G (forms.Csv row delimiter) first line r =
    IsReplyAmong (separators.Delimiter delimiter) G row (row.has_heading && first) line r

-- the answer that is owed for a line, by these terms
abbrev pub IsReplyTo : Terms → Bool → List ℕ → Reply → Type 0
IsReplyTo T first line r = IsReplyIn T.ground T.form first line r

-- the answers that are owed for lines, in order; `first` is whether the first of them is the first of the text
abbrev pub AreRepliesFrom : Terms → Bool → List (List ℕ) → List Reply → Type 0
AreRepliesFrom T first [] [] = Unit {0}
AreRepliesFrom T first [] (r ∷ more) = ⊥
AreRepliesFrom T first (line ∷ lines) [] = ⊥
AreRepliesFrom T first (line ∷ lines) (r ∷ more) = IsReplyTo T first line r × AreRepliesFrom T false lines more

-- the answers that are owed for the lines of a text, in order
abbrev pub AreReplies : Terms → List (List ℕ) → List Reply → Type 0
AreReplies T lines replies = AreRepliesFrom T true lines replies

-- the bytes of answers, one after another
abbrev pub bytes_in : List Reply → List ℕ
bytes_in [] = []
bytes_in (r ∷ replies) = r.bytes ++ bytes_in replies

-- how many of the answers are refusals
abbrev pub refused_in : List Reply → ℕ
refused_in replies = count_by (λ r. r.refused) replies

-- the lines of a text by their form; for CSV they are its records, in which line feeds may be quoted
abbrev pub units_of : LineForm → List ℕ → List (List ℕ)
units_of forms.Tag text = lines_of text
units_of (forms.Row row) text = lines_of text
units_of (forms.Csv row delimiter) text = records_from delimiter places.Fresh text

-- the text has no line feed (10) that ends a line of this form: none at all, or in CSV none outside of quotes
abbrev pub IsUnit : LineForm → List ℕ → Type 0
IsUnit forms.Tag text = IsOneLine text
IsUnit (forms.Row row) text = IsOneLine text
IsUnit (forms.Csv row delimiter) text = IsFreeOutside delimiter 10 places.Fresh text

-- the place at the end of a text: within quotes, or where in a field; it matters only in CSV
abbrev pub place_of : LineForm → List ℕ → Place
place_of forms.Tag text = places.Fresh
place_of (forms.Row row) text = places.Fresh
place_of (forms.Csv row delimiter) text = place_at delimiter places.Fresh text

-- whether a line of this form goes on after a line feed: a record of CSV does if it is within quotes
abbrev pub is_open : LineForm → List ℕ → Bool
is_open form text = is_quoted (place_of form text)

-- a row or record is not too long to be kept whole; a line that is a tag always is short, as only a part of it is kept
abbrev pub IsShort : LineForm → List ℕ → Type 0
IsShort forms.Tag text = Unit {0}
IsShort (forms.Row row) text = length text ≤ longest_row
IsShort (forms.Csv row delimiter) text = length text ≤ longest_row

-- a line without the line feed that ends it
pub record IsWhole (form : LineForm) (text : List ℕ) : Type 0 where
  pub unit : IsUnit form text
  pub closed : is_open form text ≡ false
  pub short : IsShort form text

-- the lines, each ended by a line feed (10)
abbrev pub ended : List (List ℕ) → List ℕ
ended [] = []
ended (line ∷ lines) = line ++ 10 ∷ ended lines

-- the text is these lines, each ended by a line feed (10), which the last may lack
abbrev pub AreLinesIn : (text : List ℕ) → List (List ℕ) → Type 0
AreLinesIn text lines = (text ≡ ended lines) ⊎ (text ++ 10 ∷ [] ≡ ended lines)

-- a line of this form is one of the grammar: in CSV a record in the words of RFC 4180 (2), unless the delimiter is a
-- quote (34) or a line feed (10); in other forms any line
abbrev pub IsOfGrammar : LineForm → List ℕ → Type 0
IsOfGrammar forms.Tag line = Unit {0}
IsOfGrammar (forms.Row row) line = Unit {0}
IsOfGrammar (forms.Csv row delimiter) line = delimiter ≢ 34 → delimiter ≢ 10 → IsCsvRecord delimiter line

-- how many line feeds (10) there are
abbrev pub feeds_in : List ℕ → ℕ
feeds_in text = count_by (λ byte. byte == 10) text

-- all that is owed for the bytes was written and counted; the bytes end outside of quotes, and each of their lines is
-- of the grammar and not too long
pub record IsOwed (T : Terms) (bytes written : List ℕ) (counts : Counts) : Type 0 where
  pub closed : is_open T.form bytes ≡ false
  pub lines_are : AreLinesIn bytes (units_of T.form bytes)
  pub grammar : AllByRecursion (IsOfGrammar T.form) (units_of T.form bytes)
  pub short : AllByRecursion (IsShort T.form) (units_of T.form bytes)
  pub owed : List Reply
  pub each : AreReplies T (units_of T.form bytes) owed
  pub all : written ≡ bytes_in owed
  pub lines : counts.lines ≡ length owed
  pub refused : counts.refused ≡ refused_in owed

-- what was written is what is owed for the bytes up to the last line feed that ends a line
pub record IsOwedToLastFeed (T : Terms) (bytes written : List ℕ) : Type 0 where
  pub lines : List (List ℕ)
  pub last : List ℕ
  pub cut : bytes ≡ ended lines ++ last
  pub each_one : AllByRecursion (IsWhole T.form) lines
  pub last_one : IsUnit T.form last
  pub owed : List Reply
  pub each : AreReplies T lines owed
  pub all : written ≡ bytes_in owed

-- the bytes end within the quotes of a record that begins in this line, counted from 1; what is owed for the records
-- before it was written
pub record EndsInQuotes (T : Terms) (bytes written : List ℕ) (line : ℕ) : Type 0 where
  pub owed : IsOwedToLastFeed T bytes written
  pub inside : is_open T.form owed.last ≡ true
  pub begins : line ≡ feeds_in (ended owed.lines) + 1

-- the fault of a row or a record that is too long
abbrev pub long_fault : LineForm → ℕ → ToolFault
long_fault forms.Tag line = faults.BadTsv line
long_fault (forms.Row row) line = faults.BadTsv line
long_fault (forms.Csv row delimiter) line = faults.BadCsv line

-- the row or record that begins in this line, counted from 1, is too long, as its front `begun` is; what is owed for
-- those before it was written
pub record EndsTooLong (T : Terms) (bytes written : List ℕ) (line : ℕ) : Type 0 where
  pub lines : List (List ℕ)
  pub begun : List ℕ
  pub rest : List ℕ
  pub cut : bytes ≡ ended lines ++ (begun ++ rest)
  pub each_one : AllByRecursion (IsWhole T.form) lines
  pub last_one : IsUnit T.form begun
  pub long : IsShort T.form begun → ⊥
  pub owed : List Reply
  pub each : AreReplies T lines owed
  pub all : written ≡ bytes_in owed
  pub begins : line ≡ feeds_in (ended lines) + 1

-- what was written is a front, that is, the first bytes, of `owed`, the answers that are owed for some first lines of
-- the bytes
pub record IsBegun (T : Terms) (bytes written : List ℕ) : Type 0 where
  pub lines : List (List ℕ)
  pub others : List (List ℕ)
  pub cut : units_of T.form bytes ≡ lines ++ others
  pub owed : List Reply
  pub each : AreReplies T lines owed
  pub rest : List ℕ
  pub front : bytes_in owed ≡ written ++ rest

-- ---- a byte order mark

-- a byte order mark is looked for before rows and records, and not before tags, since each of these lines is answered
-- as it is
abbrev pub MayHaveMark : LineForm → Type 0
MayHaveMark forms.Tag = ⊥
MayHaveMark (forms.Row row) = Unit {0}
MayHaveMark (forms.Csv row delimiter) = Unit {0}

-- the byte order mark at the beginning of the bytes, if one is looked for and there, and the text after it
abbrev pub SplitsText : LineForm → (bytes mark text : List ℕ) → Type 0
SplitsText forms.Tag bytes mark text = (mark ≡ []) × (text ≡ bytes)
SplitsText (forms.Row row) bytes mark text = SplitsMark bytes mark text
SplitsText (forms.Csv row delimiter) bytes mark text = SplitsMark bytes mark text

-- the byte order mark, if there is one, was written, and `P` is true of the text after it and of what else was written
pub record AfterMark (T : Terms) (P : (text written : List ℕ) → Type 0) (bytes written : List ℕ) : Type 0 where
  pub mark : List ℕ
  pub text : List ℕ
  pub split : SplitsText T.form bytes mark text
  pub narrow : MayHaveMark T.form → IsWide bytes → ⊥
  pub more : List ℕ
  pub written_is : written ≡ mark ++ more
  pub holds : P text more

-- what was written is a front of the byte order mark, or the mark and a front of what is owed for the text after it
pub record IsBegunText (T : Terms) (bytes written : List ℕ) : Type 0 where
  pub mark : List ℕ
  pub text : List ℕ
  pub split : SplitsText T.form bytes mark text
  pub front : Begins written mark ⊎ ((more : List ℕ) × (written ≡ mark ++ more) × IsBegun T text more)
