-- Where a byte occurs in a row of at most 64 bytes, as the bits of a number.
use Rattle.std.specs.Prelude.{◌≡◌, ◌<◌, ◌≤◌, ◌↔◌, ℕ, List, length, slice_index}
use Rattle.std.specs.Int.{bit_at}

-- Bit `k` of the number `bits` is set exactly if the byte stands at place `k` of the row and `k` is `start` or more.
-- The row is no longer than the 64 bits of a `u64`.
pub record AreBitsFrom (byte start : ℕ) (row : List ℕ) (bits : ℕ) : Type 0 where
  pub short : length row ≤ 64
  pub each : (k : ℕ) → (bit_at bits k ≡ 1) ↔ ((start ≤ k) × (k < length row) × (slice_index row k ≡ byte))
