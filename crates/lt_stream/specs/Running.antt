-- How long a row may be that a run reads, and how many reads a run has made.
use Rattle.std.specs.Prelude.{◌≡◌, ℕ}
use Rattle.lt_jar.specs.Devices.{after_reads, reads_of}
use Rattle.lt_jar.specs.declared.devices.Device.{Device}

-- the most bytes of a row of TSV or a record of CSV: 16 MiB
abbrev pub longest_row : ℕ
longest_row = 16777216

-- the device counts this many further reads after than before
abbrev pub HasRead : {T : Type 0} → Device T → Device T → ℕ → Type 0
HasRead before after reads = reads_of after ≡ after_reads (reads_of before) reads
