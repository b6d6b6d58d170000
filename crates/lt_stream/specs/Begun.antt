-- The state of a run over a text that may begin with a byte order mark. No public contract cites this. As in Lined, Q
-- tells what is answered, `longest` is how many bytes are kept of a line, `contents` tells what a writer has taken,
-- `start` is the output at the beginning of the run, and `now` the output here.
use Rattle.std.specs.Prelude.{◌≡◌, ◌⊎◌, ◌++◌, ℕ, List, [], true, false, Option, Result, Ok, Err}
use Rattle.lt_jar.specs.declared.devices.Device.{Device}
use Rattle.lt_rows.specs.Marks.{IsWide, MayBeMark, SplitsMark}
use Rattle.lt_stream.specs.Lined.{IsAll, IsCutOff, IsTaken, Stops}
use Rattle.lt_stream.specs.Lines.{Answered, IsBegun}
use Rattle.lt_stream.specs.Pieces.{TakesPiece}
use Rattle.lt_stream.specs.declared.faults.ToolFault.{ToolFault}
use Rattle.lt_stream.specs.declared.faults.ToolFault.TheVariants as faults
use Rattle.lt_stream.specs.declared.texts.Text.{Text}

-- The mark of these bytes is passed over, if they have one, and the text after it is taken as lines. Whatever bytes
-- follow, the mark is the same (`split`) and is none of UTF-16 (`narrow`).
pub record IsPast {A W : Type 0} (Q : Answered A) (longest : ℕ) (contents : W → Option (List ℕ))
    (start now : Device W) (bytes : List ℕ) (state : Text A) : Type 0 where
  pub begun : state.is_begun ≡ true
  pub mark : List ℕ
  pub text : List ℕ
  pub split : (more : List ℕ) → SplitsMark (bytes ++ more) mark (text ++ more)
  pub narrow : (more : List ℕ) → IsWide (bytes ++ more) → ⊥
  pub taken : IsTaken Q longest contents start now text state.lined

-- these bytes may be a part of a mark, and wait, no line is taken, and nothing was written
pub record IsWaiting {A W : Type 0} (Q : Answered A) (longest : ℕ) (contents : W → Option (List ℕ))
    (start now : Device W) (bytes : List ℕ) (state : Text A) : Type 0 where
  pub begun : state.is_begun ≡ false
  pub kept : state.front.items ≡ bytes
  pub may_be : MayBeMark bytes
  pub untouched : now ≡ start
  pub taken : IsTaken Q longest contents start now [] state.lined

-- These bytes were read. They are past the mark, and the answers to their whole lines are written; or they wait, since
-- they may be a part of a mark.
abbrev pub IsTakenText : {A W : Type 0} → Answered A → ℕ → (W → Option (List ℕ)) → (start now : Device W) → List ℕ
    → Text A → Type 0
IsTakenText Q longest contents start now bytes state =
    IsPast Q longest contents start now bytes state ⊎ IsWaiting Q longest contents start now bytes state

-- A write failed or memory ran out, and what was written is a front of the answers to the text after the mark. If the
-- bytes begin with a mark of UTF-16, nothing is written, so only memory can run out (`narrow`).
pub record IsCutAfter {A W : Type 0} (Q : Answered A) (contents : W → Option (List ℕ)) (start now : Device W)
    (bytes : List ℕ) (fault : ToolFault) : Type 0 where
  pub mark : List ℕ
  pub text : List ℕ
  pub split : SplitsMark bytes mark text
  pub narrow : IsWide bytes → fault ≡ faults.OutOfMemory
  pub cut : IsCutOff Q contents start now text fault

-- The fault is Utf16: the bytes begin with a byte order mark of UTF-16, and nothing was written. So the empty list that
-- was written is a front of the answers to any text (`begun`).
pub record IsStoppedWide {A W : Type 0} (Q : Answered A) (start now : Device W) (bytes : List ℕ)
    (fault : ToolFault) : Type 0 where
  pub named : fault ≡ faults.Utf16
  pub wide : IsWide bytes
  pub untouched : now ≡ start
  pub begun : (text : List ℕ) → IsBegun Q text []

-- a piece can end a run only by a fault: a failed write, lack of memory or a mark of UTF-16
abbrev pub StopsText : {A W : Type 0} → Answered A → (W → Option (List ℕ)) → (start now : Device W) → List ℕ
    → Result (Unit {0}) ToolFault → Type 0
StopsText Q contents start now bytes (Ok _) = ⊥
StopsText Q contents start now bytes (Err fault) =
    IsCutAfter Q contents start now bytes fault ⊎ IsStoppedWide Q start now bytes fault

-- all lines of the text after the mark, which is none of UTF-16, are answered, and all answers are written
pub record IsAllAfter {A W : Type 0} (Q : Answered A) (contents : W → Option (List ℕ)) (start now : Device W)
    (bytes : List ℕ) (answers : A) : Type 0 where
  pub mark : List ℕ
  pub text : List ℕ
  pub split : SplitsMark bytes mark text
  pub narrow : IsWide bytes → ⊥
  pub all : IsAll Q contents start now text answers

-- How a run ends after the reader's last byte, by its result: all answers are written, or a write failed or memory ran
-- out.
abbrev pub FinishesText : {A W : Type 0} → Answered A → (W → Option (List ℕ)) → (start now : Device W) → List ℕ
    → Text A → Result (Unit {0}) ToolFault → Type 0
FinishesText Q contents start now bytes state (Ok _) = IsAllAfter Q contents start now bytes state.lined.answers
FinishesText Q contents start now bytes state (Err fault) = IsCutAfter Q contents start now bytes fault

-- The first bytes were split into a mark, which is passed over, and a text, which was taken as lines, with this
-- result. `before` and `after` are the output, `old` and `new` the state.
pub record Begins {A W : Type 0} (Q : A → Answered A) (longest : ℕ) (contents : W → Option (List ℕ))
    (old new : Text A) (before after : Device W) (result : Result (Option (Unit {0})) ToolFault) : Type 0 where
  pub mark : List ℕ
  pub text : List ℕ
  pub split : SplitsMark old.front.items mark text
  pub begun : new.is_begun ≡ true
  pub takes : TakesPiece (λ first. IsTaken (Q first.answers) longest contents)
      (λ first start now read _ end. Stops (Q first.answers) contents start now read end) text before after
      old.lined new.lined result
