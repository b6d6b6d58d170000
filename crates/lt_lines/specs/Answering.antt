-- How the state of a run changes while lines come in pieces and are answered. A front of some bytes is the first of
-- them, perhaps none or all. No public contract cites this.
use Rattle.std.specs.Prelude.{◌≡◌, ◌<◌, ◌≤◌, ◌+◌, ◌-◌, ◌^◌, ◌⊎◌, ℕ, Bool, true, false, List, [], ◌∷◌, ◌++◌, length}
use Rattle.std.specs.Prelude.{take, Option, Some, None, Result, IfErr, IfOk}
use Rattle.std.specs.List.{All, AllByRecursion}
use Rattle.std.specs.Io.KnownBytes.{Appends}
use Rattle.lt_jar.specs.Devices.{HasFailed, failures_of, inner_of}
use Rattle.lt_jar.specs.declared.devices.Device.{Device}
use Rattle.lt_jar.specs.Lines.{IsOneLine, content_of}
use Rattle.lt_registry.specs.Parts.{EntryParts}
use Rattle.lt_canon.specs.Texts.{AppendsCanonicalText, IsCanonicalTextOf, IsTextRefusal}
use Rattle.lt_canon.specs.declared.refusals.TextRefusal.{TextRefusal}
use Rattle.lt_codes.specs.Codes.{registered_text}
use Rattle.lt_lines.specs.Refusals.{IsTold}
use Rattle.lt_rows.specs.Quotes.{is_quoted, place_at}
use Rattle.lt_rows.specs.declared.quotes.Place.{Place}
use Rattle.lt_rows.specs.declared.quotes.Place.TheVariants as places
use Rattle.lt_lines.specs.Owed.{AreLinesIn, AreReplies, Ground, IsBegun, IsHeadingReply, IsOfGrammar, IsReplyAmong}
use Rattle.lt_lines.specs.Owed.{IsReplyTo, IsRowReply, IsShort, IsTextReply, IsUnit, IsWhole, Reply, Terms, bytes_in}
use Rattle.lt_lines.specs.Owed.{ended, feeds_in, is_open, long_fault, place_of, refused_in, reply, row_line, units_of}
use Rattle.lt_lines.specs.Owed.{with_canonical}
use Rattle.lt_stream.specs.Running.{longest_row}
use Rattle.lt_stream.specs.DeviceOutput.{IsFrontOf}
use Rattle.lt_lines.specs.Tallied.{AreTalliesOf, OwesAll, TalliesInQuotes, TalliesTooLong}
use Rattle.lt_cache.specs.declared.recent.Kept.{Kept}
use Rattle.lt_cache.specs.Ends.{AreEnds}
use Rattle.lt_lines.specs.declared.recent_answers.RecentAnswers.{RecentAnswers}
use Rattle.lt_lines.specs.declared.answering.Answering.{Answering}
use Rattle.lt_lines.specs.declared.forms.LineForm.{LineForm}
use Rattle.lt_lines.specs.declared.forms.RowForm.{RowForm}
use Rattle.lt_lines.specs.declared.forms.LineForm.TheVariants as forms
use Rattle.lt_rows.specs.declared.rows.Separator.{Separator}
use Rattle.lt_lines.specs.declared.runs.Counts.{Counts}
use Rattle.lt_stream.specs.declared.faults.ToolFault.{ToolFault}
use Rattle.lt_stream.specs.declared.faults.ToolFault.TheVariants as faults

-- The most bytes that are kept of a line that is a tag: 1,027. The longest tag has 1,024. A code may be a byte longer
-- than the subtag that replaces it, one byte more tells that the line is too long, and a carriage return (13) may end
-- it.
abbrev pub longest_kept : ℕ
longest_kept = 1027

-- 1 if the test is true, else 0
abbrev pub one_if : Bool → ℕ
one_if true = 1
one_if false = 0

-- what is kept of an unfinished line: all of a row or record, and of a tag the first 1,027 bytes, which are enough to
-- know that a longer tag is too long
abbrev pub kept_of : LineForm → List ℕ → List ℕ
kept_of forms.Tag line = take longest_kept line
kept_of (forms.Row row) line = line
kept_of (forms.Csv row delimiter) line = line

-- the part of a line's next bytes that is kept, where `count` bytes of the line are kept already
abbrev pub part_kept : LineForm → ℕ → List ℕ → List ℕ
part_kept forms.Tag count part = take (longest_kept - count) part
part_kept (forms.Row row) count part = part
part_kept (forms.Csv row delimiter) count part = part

-- what is kept of a line, `new`, once its last bytes, `part`, are there: nothing if nothing was kept before them
-- (`old`), else what was kept and the part of the last bytes that is to be kept
abbrev pub KeepsPart : LineForm → (old part new : List ℕ) → Type 0
KeepsPart form [] part new = new ≡ []
KeepsPart form (byte ∷ old) part new = new ≡ (byte ∷ old) ++ part_kept form (length (byte ∷ old)) part

-- the place (within quotes or outside) after a line's next bytes, by the place before them; it changes only in CSV
abbrev pub place_then : LineForm → Place → List ℕ → Place
place_then forms.Tag place part = places.Fresh
place_then (forms.Row row) place part = places.Fresh
place_then (forms.Csv row delimiter) place part = place_at delimiter place part

-- a row or record of which `kept` bytes are kept becomes too long with `count` further bytes; a line that is a tag
-- never does
abbrev pub IsLongBy : LineForm → (kept count : ℕ) → Type 0
IsLongBy forms.Tag kept count = ⊥
IsLongBy (forms.Row row) kept count = longest_row < kept + count
IsLongBy (forms.Csv row delimiter) kept count = longest_row < kept + count

-- the number, counted from 1, of the line of the text in which the kept bytes begin
abbrev pub line_of : Answering → ℕ
line_of state = (state.feeds - feeds_in state.kept.items) + 1

-- `part` is the last bytes of a line of which `kept` is kept, and `place` is the place after that: the line ends
-- outside of quotes, and is short enough
pub record IsWholeAfter (form : LineForm) (kept : List ℕ) (place : Place) (part : List ℕ) : Type 0 where
  pub one : IsOneLine part
  pub closed : is_quoted (place_then form place part) ≡ false
  pub short : IsShort form (kept ++ part)

-- the answer to a text was appended to the answers that wait, `old`, which gives `new`; `refused` is whether it is a
-- refusal
pub record AppendsTextReply (R : List EntryParts) (text old new : List ℕ) (refused : Bool) : Type 0 where
  pub bytes : List ℕ
  pub grown : new ≡ old ++ bytes
  pub owed : IsTextReply R text (reply bytes refused)

-- The row `line` was appended to the answers `old`, which gives `new`, unchanged but for two further fields. These are
-- the canonical text of `text`, the text of the row's field, and an empty one; or, if it is refused, an empty one and
-- why. `G` is the entries and the codes by which texts are answered.
pub record AppendsKept (S : Separator) (G : Ground) (text line old new : List ℕ) (refused : Bool) : Type 0 where
  pub canonical : List ℕ
  pub told : List ℕ
  pub grown : new ≡ old ++ row_line S (with_canonical true S (content_of line) canonical) told line
  pub owed : (IsCanonicalTextOf G.entries (registered_text G.codes text) canonical × (told ≡ []) × (refused ≡ false))
      ⊎ ((refusal : TextRefusal) × IsTextRefusal G.entries (registered_text G.codes text) refusal × IsTold refusal told
      × (canonical ≡ []) × (refused ≡ true))

-- The answer to a row, `line`, was appended to the answers `old`, which gives `new`. `G` is the entries and the codes
-- by which texts are answered, `row` is the form of rows, and `refused` is whether the answer is a refusal.
pub record AppendsRowReply (S : Separator) (G : Ground) (row : RowForm) (line old new : List ℕ)
    (refused : Bool) : Type 0 where
  pub bytes : List ℕ
  pub grown : new ≡ old ++ bytes
  pub owed : IsRowReply S G row line (reply bytes refused)

-- the answer to a heading, `line`, was appended to the answers `old`, which gives `new`; `kept` is whether rows are
-- kept, and `refused` whether the answer is a refusal
pub record AppendsHeadingReply (kept : Bool) (S : Separator) (line old new : List ℕ) (refused : Bool) : Type 0 where
  pub bytes : List ℕ
  pub grown : new ≡ old ++ bytes
  pub owed : IsHeadingReply kept S line (reply bytes refused)

-- The answer to a line of a table was appended to the answers `old`, which gives `new`. `heading` is whether the line
-- is the table's heading, else it is a row. `G` is the entries and the codes by which texts are answered, and
-- `refused` is whether the answer is a refusal.
pub record AppendsReplyAmong (S : Separator) (G : Ground) (row : RowForm) (heading : Bool) (line old new : List ℕ)
    (refused : Bool) : Type 0 where
  pub bytes : List ℕ
  pub grown : new ≡ old ++ bytes
  pub owed : IsReplyAmong S G row heading line (reply bytes refused)

-- the answer to a line was appended to the answers `old`, which gives `new`: `first` is whether the line is the first
-- of the text, and `refused` whether the answer is a refusal
pub record AppendsReply (T : Terms) (first : Bool) (line old new : List ℕ) (refused : Bool) : Type 0 where
  pub bytes : List ℕ
  pub grown : new ≡ old ++ bytes
  pub owed : IsReplyTo T first line (reply bytes refused)

-- The answer to a line, of whose front `kept` was kept, and whose last bytes are `part`, was appended to the answers
-- `old`, which gives `new`. It answers each line of whose front, `last`, the same is kept. `first` is whether the line
-- is the first of the text, and `refused` whether the answer is a refusal.
pub record AppendsLine (T : Terms) (first : Bool) (kept part old new : List ℕ) (refused : Bool) : Type 0 where
  pub bytes : List ℕ
  pub grown : new ≡ old ++ bytes
  pub owed : (last : List ℕ) → kept ≡ kept_of T.form last → IsReplyTo T first (last ++ part) (reply bytes refused)

-- the canonical text of a field was appended to the answers `old`, which gives `new`, or the field is refused
abbrev pub FieldReply : List EntryParts → List ℕ → (old new : List ℕ) → Option TextRefusal → Type 0
FieldReply R field old new None = AppendsCanonicalText R field old new
FieldReply R field old new (Some refusal) = IsTextRefusal R field refusal × (new ≡ old)

-- the rest of a row, `text`, was appended, and a last field that says why the row's field is refused; `line` is the
-- row's line, whose end the answer keeps
pub record EndsRefused (S : Separator) (refusal : TextRefusal) (text line old new : List ℕ) : Type 0 where
  pub told : List ℕ
  pub is_told : IsTold refusal told
  pub grown : new ≡ old ++ row_line S text told line

-- what a cache has for a text is right, by the entries R: it is the answer to the text as a line that is a tag, or the
-- canonical text of the text as a row's field
abbrev pub IsRight : List EntryParts → LineForm → Kept → Type 0
IsRight R forms.Tag kept = IsTextReply R kept.line (reply kept.answer kept.refused)
IsRight R (forms.Row row) kept = IsCanonicalTextOf R kept.line kept.answer
IsRight R (forms.Csv row delimiter) kept = IsCanonicalTextOf R kept.line kept.answer

-- an entry of a cache is empty or right
abbrev pub IsRecent : List EntryParts → LineForm → Option Kept → Type 0
IsRecent R form None = Unit {0}
IsRecent R form (Some kept) = IsRight R form kept

-- all that the cache of recent answers has is right: its answers to whole texts, and its canonical ends of texts, for
-- example `-u-nu-latn`
pub record AreRecent (R : List EntryParts) (form : LineForm) (recent : RecentAnswers) : Type 0 where
  pub whole : All (IsRecent R form) recent.whole
  pub ends : AreEnds R recent.ends

-- The bytes `bytes` were read, and `written` was written. Their whole lines are `lines`, and the rest is `last`. The
-- whole lines have the answers `owed`, whose bytes were written or wait to be written (`all`), and they are counted and
-- tallied. Of `last`, which is not too long unless it ends within quotes, what is needed is kept, and the place at its
-- end is known. The line feeds are counted. The answers that were given lately are right (`recent`).
pub record IsTaken (T : Terms) (bytes written : List ℕ) (state : Answering) : Type 0 where
  pub lines : List (List ℕ)
  pub last : List ℕ
  pub cut : bytes ≡ ended lines ++ last
  pub each_one : AllByRecursion (IsWhole T.form) lines
  pub last_one : IsUnit T.form last
  pub kept : state.kept.items ≡ kept_of T.form last
  pub goes_on : state.place ≡ place_of T.form last
  pub short : is_quoted state.place ≡ false → IsShort T.form last
  pub feeds : state.feeds ≡ feeds_in bytes
  pub owed : List Reply
  pub each : AreReplies T lines owed
  pub all : written ++ state.owed.items ≡ bytes_in owed
  pub count : state.counts.lines ≡ length owed
  pub refused : state.counts.refused ≡ refused_in owed
  pub tallied : AreTalliesOf T.form lines owed state.tallies
  pub recent : AreRecent T.ground.entries T.form state.recent

-- The bytes `bytes` were read to their end, which is outside of quotes, and `written` was written. Each of their lines
-- is of the grammar and not too long, and has one of the answers `owed`, whose bytes were written or wait to be written
-- (`all`). The lines are counted and tallied.
pub record IsAnswered (T : Terms) (bytes written : List ℕ) (state : Answering) : Type 0 where
  pub closed : is_open T.form bytes ≡ false
  pub lines_are : AreLinesIn bytes (units_of T.form bytes)
  pub grammar : AllByRecursion (IsOfGrammar T.form) (units_of T.form bytes)
  pub short : AllByRecursion (IsShort T.form) (units_of T.form bytes)
  pub owed : List Reply
  pub each : AreReplies T (units_of T.form bytes) owed
  pub all : written ++ state.owed.items ≡ bytes_in owed
  pub count : state.counts.lines ≡ length owed
  pub refused : state.counts.refused ≡ refused_in owed
  pub tallied : AreTalliesOf T.form (units_of T.form bytes) owed state.tallies

-- the counts of a run have room for this many further lines: with them the counts of lines, of refused lines and of
-- line feeds stay below 2 to the 64
pub record HasRoom (state : Answering) (lines : ℕ) : Type 0 where
  pub room : state.counts.lines + lines < 2 ^ 64
  pub feeds : state.feeds + lines < 2 ^ 64
  pub refused : state.counts.refused ≤ state.counts.lines

-- one line feed was counted, and at most one line as answered
pub record CountsFeed (old new : Answering) : Type 0 where
  pub lines : new.counts.lines ≤ old.counts.lines + 1
  pub refused : new.counts.refused ≤ new.counts.lines
  pub feeds : new.feeds ≡ old.feeds + 1

-- a line goes on after a line feed (10), which is within quotes: its next bytes, `part`, and the line feed are kept,
-- and nothing is answered
pub record GoesOn (form : LineForm) (part : List ℕ) (old new : Answering) : Type 0 where
  pub kept : new.kept.items ≡ (old.kept.items ++ part_kept form (length old.kept.items) part)
      ++ part_kept form (length (old.kept.items ++ part_kept form (length old.kept.items) part)) (10 ∷ [])
  pub goes_on : new.place ≡ places.Quoted
  pub feeds : new.feeds ≡ old.feeds + 1
  pub owed : new.owed.items ≡ old.owed.items
  pub counts : new.counts ≡ old.counts
  pub tallies : new.tallies ≡ old.tallies
  pub recent : new.recent ≡ old.recent

-- the state of a run that has read nothing
pub record IsFresh (state : Answering) : Type 0 where
  pub items : (state.kept.items ≡ []) × (state.owed.items ≡ [])
  pub place : (state.place ≡ places.Fresh) × (state.feeds ≡ 0)
  pub counts : (state.counts.lines ≡ 0) × (state.counts.refused ≡ 0)
  pub tallies : state.tallies ≡ []
  pub recent : (R : List EntryParts) (form : LineForm) → AreRecent R form state.recent

-- the state is as before, apart from the answers that wait to be written
pub record KeepsLine (old new : Answering) : Type 0 where
  pub kept : new.kept.items ≡ old.kept.items
  pub goes_on : new.place ≡ old.place
  pub feeds : new.feeds ≡ old.feeds
  pub counts : new.counts ≡ old.counts
  pub tallies : new.tallies ≡ old.tallies
  pub recent : new.recent ≡ old.recent

-- A front of the answers that waited, `written`, was written, perhaps nothing. If no write failed, the rest of them
-- still waits (`done`); else the fault is Write (`stopped`). `contents` gives the bytes that an output was given, and
-- `before` and `after` are the output before and after.
pub record WritesOwed {W : Type 0} (contents : W → Option (List ℕ)) (old new : Answering) (before after : Device W)
    (result : Result (Unit {0}) ToolFault) : Type 0 where
  pub written : List ℕ
  pub appends : Appends (contents (inner_of before)) (contents (inner_of after)) written
  pub same : KeepsLine old new
  pub done : IfOk result (λ _. (old.owed.items ≡ written ++ new.owed.items) × (failures_of after ≡ failures_of before))
  pub stopped : IfErr result (λ f. (f ≡ faults.Write) × HasFailed before after × IsFrontOf written old.owed.items)

-- why a run that answers lines ends early: a write failed from the output `before` to `after`, or memory ran out
abbrev pub IsStop : {W : Type 0} → Device W → Device W → ToolFault → Type 0
IsStop before after f = ((f ≡ faults.Write) × HasFailed before after)
    ⊎ ((f ≡ faults.OutOfMemory) × (failures_of after ≡ failures_of before))

-- all answers that wait were written, and the kept row or record is too long; or a write failed. `old` and `before` are
-- the state and the output before that, `new` and `after` those after it
pub record StopsLong {W : Type 0} (form : LineForm) (contents : W → Option (List ℕ)) (old new : Answering)
    (before after : Device W) (f : ToolFault) : Type 0 where
  pub written : List ℕ
  pub appends : Appends (contents (inner_of before)) (contents (inner_of after)) written
  pub tallies : new.tallies ≡ old.tallies
  pub ends : ((f ≡ faults.Write) × HasFailed before after × IsFrontOf written old.owed.items)
      ⊎ ((f ≡ long_fault form (line_of old)) × (failures_of after ≡ failures_of before) × (written ≡ old.owed.items))

-- A row or record that goes on in this piece and begins in `line` is too long, and no write failed. If the state `old`
-- was right for the bytes read and the bytes `out` written before, then all answers that are owed before this row are
-- written, the last of them, `written`, from the output `before` to `after`, and the tallies count their refused lines.
pub record StopsTooLong {W : Type 0} (T : Terms) (piece : List ℕ) (old new : Answering) (before after : Device W)
    (written : List ℕ) (f : ToolFault) : Type 0 where
  pub line : ℕ
  pub fault : f ≡ long_fault T.form line
  pub same : failures_of after ≡ failures_of before
  pub ends : (bytes out : List ℕ) → IsTaken T bytes out old
      → TalliesTooLong T line new.tallies (bytes ++ piece) (out ++ written)

-- why a piece of the reader's bytes ends a run: a row or record is too long, a write failed, or memory ran out;
-- `written` was written from the output `before` to `after`
abbrev pub IsPieceStop : {W : Type 0} → Terms → List ℕ → (old new : Answering) → Device W → Device W → List ℕ
    → ToolFault → Type 0
IsPieceStop T piece old new before after written f = StopsTooLong T piece old new before after written f
    ⊎ (IsStop before after f ×
    ((bytes out : List ℕ) → IsTaken T bytes out old → IsBegun T (bytes ++ piece) (out ++ written)))

-- A piece of the reader's bytes was taken in, and all answers that wait were written (`done`); or a fault ended the run
-- (`stopped`). `old` and `before` are the state and the output before that, `new` and `after` those after it. A state
-- that was right for any `bytes` read and `out` written before is right with the piece and `written` too. The counts
-- lose room for at most one line for each byte (`room`).
pub record TakesPiece {W : Type 0} (T : Terms) (contents : W → Option (List ℕ)) (piece : List ℕ)
    (old new : Answering) (before after : Device W) (result : Result (Unit {0}) ToolFault) : Type 0 where
  pub written : List ℕ
  pub appends : Appends (contents (inner_of before)) (contents (inner_of after)) written
  pub done : IfOk result (λ _. (failures_of after ≡ failures_of before) × (new.owed.items ≡ [])
      × ((bytes out : List ℕ) → IsTaken T bytes out old → IsTaken T (bytes ++ piece) (out ++ written) new))
  pub room : IfOk result (λ _. (count : ℕ) → HasRoom old (length piece + count) → HasRoom new count)
  pub stopped : IfErr result (IsPieceStop T piece old new before after written)

-- The text ends within quotes, no write failed, and the fault names the `line` in which the unfinished record begins.
-- If the state `old` was right for the bytes read and the bytes `out` written before, and no answers waited, then what
-- is owed before that record is what was written, the last of it, `written`, from the output `before` to `after`, and
-- the tallies count its refused lines.
pub record StopsInQuotes {W : Type 0} (T : Terms) (old new : Answering) (before after : Device W) (written : List ℕ)
    (f : ToolFault) : Type 0 where
  pub line : ℕ
  pub fault : f ≡ faults.BadCsv line
  pub same : failures_of after ≡ failures_of before
  pub ends : (bytes out : List ℕ) → IsTaken T bytes out old → old.owed.items ≡ []
      → TalliesInQuotes T line new.tallies bytes (out ++ written)

-- why a run ends early after the reader's last byte: the text ends within quotes, a write failed, or memory ran out;
-- `written` was written from the output `before` to `after`
abbrev pub IsLastStop : {W : Type 0} → Terms → (old new : Answering) → Device W → Device W → List ℕ → ToolFault → Type 0
IsLastStop T old new before after written f = StopsInQuotes T old new before after written f
    ⊎ (IsStop before after f × ((bytes out : List ℕ) → IsTaken T bytes out old → IsBegun T bytes (out ++ written)))

-- A last line without a line feed was answered too, and all that is owed was written, counted and tallied (`done`); or
-- a fault ended the run (`stopped`). `old` and `before` are the state and the output before that, `new` and `after`
-- those after it.
pub record FinishesLines {W : Type 0} (T : Terms) (contents : W → Option (List ℕ)) (old new : Answering)
    (before after : Device W) (result : Result Counts ToolFault) : Type 0 where
  pub written : List ℕ
  pub appends : Appends (contents (inner_of before)) (contents (inner_of after)) written
  pub done : IfOk result (λ counts. (failures_of after ≡ failures_of before)
      × ((bytes out : List ℕ) → IsTaken T bytes out old → OwesAll T bytes (out ++ written) counts new.tallies))
  pub stopped : IfErr result (IsLastStop T old new before after written)
