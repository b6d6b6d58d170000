-- The devices that a run of the program reads and writes, before and after it.
use Rattle.std.specs.Prelude.{◌≡◌, ℕ, List, [], Option, Some}
use Rattle.lt_jar.specs.declared.devices.Device.{Device}
use Rattle.lt_tool.specs.declared.streams.Source.{Source}
use Rattle.lt_tool.specs.declared.streams.Source.TheVariants as sources

-- a device that a run reads or writes, before and after the run, and `bytes`, which gives its bytes where they are
-- known
pub record Stream (T : Type 0) : Type 0 where
  pub bytes : T → Option (List ℕ)
  pub before : Device T
  pub after : Device T

-- a `Stream` of these parts
abbrev pub stream : {T : Type 0} → (T → Option (List ℕ)) → (before after : Device T) → Stream T
stream bytes before after = record { bytes = bytes; before = before; after = after }

-- nothing was read from the device or written to it
abbrev pub IsUntouched : {T : Type 0} → Stream T → Type 0
IsUntouched s = s.after ≡ s.before

-- the bytes of a source, where those of a file are known: no bytes where there is no file
abbrev pub bytes_of : {F : Type 0} → (F → Option (List ℕ)) → Source F → Option (List ℕ)
bytes_of bytes (sources.File file) = bytes file
bytes_of bytes sources.Empty = Some []
