-- What one further read of a device does, for the loops of runs: which bytes it gives, and how many reads the device
-- counts then.
use Rattle.std.proofs.Common.{◌≡◌, ◌+◌, ◌++◌, ◌∙◌, ℕ, List, Option, length, take, drop, sym, ap, add-one}
use Rattle.std.specs.Io.KnownBytes.{Consumes}
use Rattle.std.proofs.Math.Seq.{take-append_seam}
use Rattle.lt_jar.specs.Devices.{after_reads, failures_of, inner_of, one_more, reads_of}
use Rattle.lt_jar.specs.declared.devices.Device.{Device}
use Rattle.lt_stream.specs.Running.{HasRead}

-- one read gave these bytes
pub record ReadsPiece {I : Type 0} (remaining : I → Option (List ℕ)) (before after : Device I) (piece : List ℕ) : Type 0 where
  pub consumes : Consumes (remaining (inner_of before)) (remaining (inner_of after)) piece
  pub calls : reads_of after ≡ one_more (reads_of before)
  pub failures : failures_of after ≡ failures_of before

-- after one read more, the device counts `turn` + 1 reads since `input`
pub read_more : {I : Type 0} (input before after : Device I) (turn : ℕ) → HasRead input before turn
    → reads_of after ≡ one_more (reads_of before) → HasRead input after (turn + 1)
read_more input before after turn has more = more ∙ ap one_more has ∙ ap (after_reads (reads_of input)) (sym (add-one turn))

-- if a read puts `buffer` over all `items` of a vector, which has `count` of them, its first `count` bytes are then
-- `buffer`
pub refilled : (count : ℕ) (items buffer : List ℕ) → count ≡ length items → length buffer ≡ length items
    → take count (buffer ++ drop (length buffer) items) ≡ buffer
refilled count items buffer is same = ap (λ (n : ℕ). take n (buffer ++ drop (length buffer) items)) (is ∙ sym same)
    ∙ take-append_seam buffer (drop (length buffer) items)
