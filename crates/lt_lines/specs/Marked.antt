-- How the state of a run changes where a text may begin with a byte order mark. No public contract cites this.
use Rattle.std.specs.Prelude.{◌≡◌, ◌+◌, ◌⊎◌, ℕ, true, false, List, [], ◌++◌, length, Option, Result, IfErr, IfOk}
use Rattle.std.specs.Io.KnownBytes.{Appends}
use Rattle.lt_jar.specs.Devices.{failures_of, inner_of}
use Rattle.lt_jar.specs.declared.devices.Device.{Device}
use Rattle.lt_rows.specs.Marks.{IsWide, MayBeMark, SplitsMark}
use Rattle.lt_lines.specs.Answering.{HasRoom, IsStop, IsTaken}
use Rattle.lt_lines.specs.Owed.{AfterMark, IsBegunText, MayHaveMark, SplitsText, Terms, long_fault}
use Rattle.lt_lines.specs.Tallied.{OwesAll, TalliesInQuotes, TalliesTooLong}
use Rattle.lt_lines.specs.declared.marked.Marked.{Marked}
use Rattle.lt_stream.specs.declared.tallies.Tally.{Tally}
use Rattle.lt_lines.specs.declared.runs.Counts.{Counts}
use Rattle.lt_stream.specs.declared.faults.ToolFault.{ToolFault}
use Rattle.lt_stream.specs.declared.faults.ToolFault.TheVariants as faults

-- The byte order mark of these bytes, if they have one, was written, and then `out`, answers to the text after it. That
-- text was taken in by the state that answers lines. Whatever bytes follow, the mark is the same (`split`) and is none
-- of UTF-16 (`narrow`).
pub record IsTakenAfter (T : Terms) (bytes written : List ℕ) (state : Marked) : Type 0 where
  pub begun : state.is_begun ≡ true
  pub emptied : state.front.items ≡ []
  pub mark : List ℕ
  pub text : List ℕ
  pub split : (more : List ℕ) → SplitsText T.form (bytes ++ more) mark (text ++ more)
  pub narrow : (more : List ℕ) → MayHaveMark T.form → IsWide (bytes ++ more) → ⊥
  pub out : List ℕ
  pub written_is : written ≡ mark ++ out
  pub taken : IsTaken T text out state.answering

-- these first bytes are kept, since they may be part of a mark, and nothing is written or answered yet
pub record IsKeptFront (T : Terms) (bytes written : List ℕ) (state : Marked) : Type 0 where
  pub looked : MayHaveMark T.form
  pub begun : state.is_begun ≡ false
  pub kept : state.front.items ≡ bytes
  pub may_be : MayBeMark bytes
  pub nothing : written ≡ []
  pub none_refused : state.answering.tallies ≡ []
  pub taken : IsTaken T [] [] state.answering

-- `bytes` of a text were read, and `written` was written: the mark of the bytes is passed, or they are kept as perhaps
-- a part of one
abbrev pub IsTakenText : Terms → List ℕ → List ℕ → Marked → Type 0
IsTakenText T bytes written state = IsTakenAfter T bytes written state ⊎ IsKeptFront T bytes written state

-- the state of a run over a text that has read nothing and has no answers that wait
pub record IsNew (T : Terms) (state : Marked) : Type 0 where
  pub taken : IsTakenText T [] [] state
  pub emptied : state.answering.owed.items ≡ []

-- the counts have room for the lines of the bytes that are kept and of this many further ones
abbrev pub HasRoomFor : Marked → ℕ → Type 0
HasRoomFor state count = HasRoom state.answering (length state.front.items + count)

-- Why a run over a text ends early: a write failed or memory ran out, and `written` is a front of what is owed for
-- `bytes`; or `bytes` begin with a mark of UTF-16, and nothing was written or tallied; or a row or record is too long,
-- and what is owed before it was written and tallied. `before` and `after` are the output before the last step and
-- after it: only Write says that a write failed in between.
abbrev pub EndsText : {W : Type 0} → Terms → Device W → Device W → (bytes written : List ℕ) → List Tally
    → ToolFault → Type 0
EndsText T before after bytes written tallies f = (IsStop before after f × IsBegunText T bytes written)
    ⊎ (((f ≡ faults.Utf16) × (failures_of after ≡ failures_of before) × IsWide bytes × (written ≡ []) × (tallies ≡ [])
    × MayHaveMark T.form)
    ⊎ ((line : ℕ) × (f ≡ long_fault T.form line) × (failures_of after ≡ failures_of before)
    × AfterMark T (TalliesTooLong T line tallies) bytes written))

-- The kept first bytes were split: their mark was written, and what follows it was taken in (`done`); or a fault ended
-- the run (`stopped`). `old` and `before` are the state and the output before that, `new` and `after` those after it.
-- If the counts had room for the kept bytes and `count` further ones, they have room for `count` after it (`room`).
pub record BeginsText {W : Type 0} (T : Terms) (contents : W → Option (List ℕ)) (old new : Marked)
    (before after : Device W)
    (result : Result (Unit {0}) ToolFault) : Type 0 where
  pub written : List ℕ
  pub appends : Appends (contents (inner_of before)) (contents (inner_of after)) written
  pub mark : List ℕ
  pub text : List ℕ
  pub split : SplitsMark old.front.items mark text
  pub done : IfOk result (λ _. (failures_of after ≡ failures_of before) × (new.answering.owed.items ≡ [])
      × (new.is_begun ≡ true) × (new.front.items ≡ [])
      × ((out : List ℕ) × (written ≡ mark ++ out) × (IsTaken T [] [] old.answering → IsTaken T text out new.answering)))
  pub room : IfOk result (λ _. (count : ℕ) → HasRoomFor old count → HasRoom new.answering count)
  pub stopped : IfErr result (λ f. MayHaveMark T.form → (IsWide old.front.items → ⊥) → IsTaken T [] [] old.answering
      → EndsText T before after old.front.items written new.answering.tallies f)

-- A piece of the reader's bytes was taken in, and all answers that wait were written (`done`); or a fault ended the run
-- (`stopped`). `old` and `before` are the state and the output before that, `new` and `after` those after it. What is
-- said is true of any `bytes` read and `out` written before, for which the state `old` was right.
pub record TakesText {W : Type 0} (T : Terms) (contents : W → Option (List ℕ)) (piece : List ℕ) (old new : Marked)
    (before after : Device W) (result : Result (Unit {0}) ToolFault) : Type 0 where
  pub written : List ℕ
  pub appends : Appends (contents (inner_of before)) (contents (inner_of after)) written
  pub done : IfOk result (λ _. (failures_of after ≡ failures_of before)
      × ((bytes out : List ℕ) → IsTakenText T bytes out old → old.answering.owed.items ≡ []
      → IsTakenText T (bytes ++ piece) (out ++ written) new × (new.answering.owed.items ≡ [])))
  pub stopped : IfErr result (λ f. (bytes out : List ℕ) → IsTakenText T bytes out old
      → EndsText T before after (bytes ++ piece) (out ++ written) new.answering.tallies f)

-- The bytes `bytes` of a text end within quotes, and the fault names the `line` in which the unfinished record begins.
-- No write failed from the output `before` to `after` (`same`). All that was written for the text, `written`, is its
-- byte order mark, if it has one, and what is owed for the records before that one, and the tallies count the refused
-- ones of these (`ends`).
pub record EndsTextInQuotes {W : Type 0} (T : Terms) (before after : Device W) (bytes written : List ℕ)
    (tallies : List Tally) (f : ToolFault) : Type 0 where
  pub line : ℕ
  pub fault : f ≡ faults.BadCsv line
  pub same : failures_of after ≡ failures_of before
  pub ends : AfterMark T (TalliesInQuotes T line tallies) bytes written

-- A last line without a line feed was answered too, and all that is owed was written, counted and tallied (`done`); or
-- a fault ended the run (`stopped`). `old` and `before` are the state and the output before that, `new` and `after`
-- those after it. What is said is true of any `bytes` read and `out` written before, for which the state `old` was
-- right.
pub record FinishesText {W : Type 0} (T : Terms) (contents : W → Option (List ℕ)) (old new : Marked)
    (before after : Device W) (result : Result Counts ToolFault) : Type 0 where
  pub written : List ℕ
  pub appends : Appends (contents (inner_of before)) (contents (inner_of after)) written
  pub done : IfOk result (λ counts. (failures_of after ≡ failures_of before)
      × ((bytes out : List ℕ) → IsTakenText T bytes out old
      → AfterMark T (λ text more. OwesAll T text more counts new.answering.tallies) bytes (out ++ written)))
  pub stopped : IfErr result (λ f. (bytes out : List ℕ) → IsTakenText T bytes out old → old.answering.owed.items ≡ []
      → EndsTextInQuotes T before after bytes (out ++ written) new.answering.tallies f
      ⊎ EndsText T before after bytes (out ++ written) new.answering.tallies f)
