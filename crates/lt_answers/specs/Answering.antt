-- What a run of `json` over the lines of a reader wrote, and how it ended.
use Rattle.std.specs.Prelude.{◌≡◌, ◌||◌, ℕ, Bool, false, List, [], ◌∷◌, ◌++◌, take, Option, Result}
use Rattle.lt_jar.specs.Lines.{content_of}
use Rattle.lt_jar.specs.declared.devices.Device.{Device}
use Rattle.lt_registry.specs.Parts.{EntryParts}
use Rattle.lt_stream.specs.Lines.{RunsOverLines}
use Rattle.lt_stream.specs.declared.faults.ToolFault.{ToolFault}
use Rattle.lt_answers.specs.Objects.{IsObjectFor}

-- the most bytes of a line that are looked at: 16 MiB, which bounds the memory for a line
abbrev pub longest_line : ℕ
longest_line = 16777216

-- the text of a line: its first bytes, at most `longest_line`, without a carriage return (13) that may end them
abbrev pub text_of : List ℕ → List ℕ
text_of line = content_of (take longest_line line)

-- `bytes` are the object for `line`, a line feed (10), and then bytes for the lines after it, of which `Others` is
-- true; `refused` is whether one of all these lines is refused
pub record AreOwed (R : List EntryParts) (line : List ℕ) (Others : List ℕ → Bool → Type 0) (bytes : List ℕ)
    (refused : Bool)
    : Type 0 where
  pub object : List ℕ
  pub is_refused : Bool
  pub is_object : IsObjectFor R (text_of line) object is_refused
  pub more : List ℕ
  pub others_refused : Bool
  pub others : Others more others_refused
  pub bytes_are : bytes ≡ object ++ 10 ∷ more
  pub refused_is : refused ≡ (is_refused || others_refused)

-- `bytes` are the objects for the lines, in order, each ended by a line feed; `refused` is whether one of the lines is
-- refused
abbrev pub AreObjects : List EntryParts → List (List ℕ) → (bytes : List ℕ) → (refused : Bool) → Type 0
AreObjects R [] bytes refused = (bytes ≡ []) × (refused ≡ false)
AreObjects R (line ∷ lines) bytes refused = AreOwed R line (AreObjects R lines) bytes refused

-- A run answered the lines of a reader by their objects. `remaining` is what a reader has left and `contents` what a
-- writer holds, where they are known; `refused` is whether a line was refused, and `result` how the run ended.
abbrev pub AnswersByObjects : {I O : Type 0} → List EntryParts → (I → Option (List ℕ)) → (O → Option (List ℕ))
    → (input input' : Device I) → (output output' : Device O) → (refused : Bool) → Result (Unit {0}) ToolFault → Type 0
AnswersByObjects R remaining contents input input' output output' refused result =
    RunsOverLines (λ (refused : Bool) lines bytes. AreObjects R lines bytes refused)
    remaining contents input input' output output' refused result

-- the object for the text of a line and a line feed (10) were appended to `old`, which gave `new`; `front` is the first
-- bytes of the line, at most `longest_line`, and `refused` is whether the text is refused
pub record AppendsLine (R : List EntryParts) (front old new : List ℕ) (refused : Bool) : Type 0 where
  pub object : List ℕ
  pub grown : new ≡ old ++ (object ++ 10 ∷ [])
  pub is_object : IsObjectFor R (content_of front) object refused
