-- What is true of a run while it reads a text, and when that ends. No public contract cites this.
use Rattle.std.specs.Prelude.{◌≡◌, ◌⊎◌, ℕ, List, [], Option, Result, Ok, Err}
use Rattle.std.specs.Io.KnownBytes.{Appends}
use Rattle.lt_jar.specs.Devices.{failures_of, inner_of}
use Rattle.lt_jar.specs.declared.devices.Device.{Device}
use Rattle.lt_stream.specs.declared.faults.ToolFault.{ToolFault}
use Rattle.lt_lines.specs.Marked.{EndsText, EndsTextInQuotes, IsTakenText}
use Rattle.lt_lines.specs.Owed.{AfterMark, Terms}
use Rattle.lt_lines.specs.Tallied.{OwesAll}
use Rattle.lt_lines.specs.declared.marked.Marked.{Marked}
use Rattle.lt_lines.specs.declared.runs.Counts.{Counts}
use Rattle.lt_stream.specs.declared.tallies.Tally.{Tally}

-- The bytes `read` were read, no write failed, and the answers to all whole lines among them were written. `start` is
-- the output at the beginning of the run, and `now` the output here; `contents` gives the bytes that an output was
-- given.
pub record IsReading {W : Type 0} (T : Terms) (contents : W → Option (List ℕ)) (start now : Device W)
    (read : List ℕ) (state : Marked) : Type 0 where
  pub written : List ℕ
  pub appends : Appends (contents (inner_of start)) (contents (inner_of now)) written
  pub same : failures_of now ≡ failures_of start
  pub taken : IsTakenText T read written state
  pub emptied : state.answering.owed.items ≡ []

-- from the output `start` to the output `now` some bytes were written, of which `P` is true; `contents` gives the bytes
-- that an output was given
pub record HasWritten {W : Type 0} (contents : W → Option (List ℕ)) (start now : Device W)
    (P : (written : List ℕ) → Type 0) : Type 0 where
  pub written : List ℕ
  pub appends : Appends (contents (inner_of start)) (contents (inner_of now)) written
  pub holds : P written

-- a piece of the text ended the run, which it does only by a fault; `start` and `now` are the output at the beginning
-- and now
abbrev pub StopsReading : {W : Type 0} → Terms → (W → Option (List ℕ)) → (start now : Device W) → List ℕ → List Tally
    → Result Counts ToolFault → Type 0
StopsReading T contents start now read tallies (Ok counts) = ⊥
StopsReading T contents start now read tallies (Err f) =
    HasWritten contents start now (λ written. EndsText T start now read written tallies f)

-- The end of the text ended the run: with its counts, and then all that is owed was written and no write failed; or
-- with a fault. `start` and `now` are the output at the beginning and now.
abbrev pub EndsReading : {W : Type 0} → Terms → (W → Option (List ℕ)) → (start now : Device W) → List ℕ → List Tally
    → Result Counts ToolFault → Type 0
EndsReading T contents start now read tallies (Ok counts) =
    HasWritten contents start now (λ written. (failures_of now ≡ failures_of start)
    × AfterMark T (λ text more. OwesAll T text more counts tallies) read written)
EndsReading T contents start now read tallies (Err f) =
    HasWritten contents start now (λ written. EndsTextInQuotes T start now read written tallies f
    ⊎ EndsText T start now read written tallies f)
