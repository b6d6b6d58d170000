-- What contracts see of the reader and the writer for tests: what they give and take, and which call fails.
use Rattle.std.specs.Prelude.{◌≡◌, ℕ, zero, suc, ◌&&◌, List, [], length, drop, min, if◌then◌else◌, nat_eq, nat_le}
use Rattle.std.specs.Prelude.{Option, Some, None}
use Rattle.lt_jar.specs.Devices.{one_more}
use Rattle.lt_jar.specs.declared.pieces.Pieces.{Pieces}
use Rattle.lt_jar.specs.declared.pieces.Takes.{Takes}

-- the bytes that a reader gives, once or again and again
abbrev pub bytes_of : Pieces → List ℕ
bytes_of reader = reader.bytes.now

-- the bytes, of those left, that a reader still gives in pieces of this length: all, but none in pieces of no bytes
abbrev pub given_in : ℕ → List ℕ → List ℕ
given_in zero bytes = []
given_in (suc more) bytes = bytes

-- the bytes that the further reads give; None for a reader without an end
abbrev pub remaining_of : Pieces → Option (List ℕ)
remaining_of reader = if reader.endless then None else Some (given_in reader.piece (drop reader.at (bytes_of reader)))

-- the place in the bytes where the next read begins: a reader without an end begins again after the last byte
abbrev pub next_place : Pieces → ℕ
next_place reader = if reader.endless && nat_le (length (bytes_of reader)) reader.at then 0 else reader.at

-- the bytes from the place on where the next read begins
abbrev pub next_bytes : Pieces → List ℕ
next_bytes reader = drop (next_place reader) (bytes_of reader)

-- how many bytes the next read gives into a buffer with this room
abbrev pub next_count : Pieces → ℕ → ℕ
next_count reader room = min (min (length (next_bytes reader)) reader.piece) room

-- the next read is the one that is made to fail
abbrev pub ReadFails : Pieces → Type 0
ReadFails reader = one_more reader.calls ≡ reader.fails_at

-- a reader of these bytes, at most `piece` in a call, that was not read yet, and does not fail
pub record IsUnread (reader : Pieces) (bytes : List ℕ) (piece : ℕ) : Type 0 where
  pub bytes_is : bytes_of reader ≡ bytes
  pub at : reader.at ≡ 0
  pub piece_is : reader.piece ≡ piece
  pub calls : reader.calls ≡ 0
  pub fails_at : reader.fails_at ≡ 0

-- the bytes that a writer took
abbrev pub taken_by : Takes → List ℕ
taken_by writer = writer.taken.items

-- the next write is the one that is made to fail
abbrev pub WriteFails : Takes → Type 0
WriteFails writer = one_more writer.calls ≡ writer.fails_at

-- how many of `count` bytes the next write takes
abbrev pub take_count : Takes → ℕ → ℕ
take_count writer count = if nat_eq (one_more writer.calls) writer.full_at then 0 else min count writer.piece

-- a writer that takes at most `piece` bytes in a call, has taken none yet, and does not fail
pub record IsUnwritten (writer : Takes) (piece : ℕ) : Type 0 where
  pub taken : taken_by writer ≡ []
  pub piece_is : writer.piece ≡ piece
  pub calls : writer.calls ≡ 0
  pub fails_at : writer.fails_at ≡ 0
  pub full_at : writer.full_at ≡ 0
