-- What is before and after the first place of a byte.
use Rattle.std.specs.Prelude.{◌≡◌, ◌≢◌, ◌≤◌, ◌<◌, ◌+◌, ℕ, List, ◌∷◌, ◌++◌, Option, MatchOption, drop, length, take}
use Rattle.std.specs.Borrow.{Bor}
use Rattle.std.specs.List.{All}

-- the byte is not among `bytes`
abbrev pub IsFreeOf : ℕ → List ℕ → Type 0
IsFreeOf byte bytes = All (λ other. other ≢ byte) bytes

-- `parts` is what is before the first place of the byte, and what is after it, each a slice whose bytes are its `now`;
-- or None where the byte is not there
abbrev pub SplitsAt : ℕ → List ℕ → Option (Bor (List ℕ) × Bor (List ℕ)) → Type 0
SplitsAt byte bytes parts = MatchOption parts (IsFreeOf byte bytes)
    (λ p. IsFreeOf byte p.0.now × (bytes ≡ p.0.now ++ byte ∷ p.1.now))

-- the first place of the byte, counted from 0; None where the byte is not there
abbrev pub IsPlaceOf : ℕ → List ℕ → Option ℕ → Type 0
IsPlaceOf byte bytes place = MatchOption place (IsFreeOf byte bytes)
    (λ i. (i < length bytes) × IsFreeOf byte (take i bytes) × (bytes ≡ take i bytes ++ byte ∷ drop (i + 1) bytes))

-- `front` is a front of the text that has its first `count` bytes and may have more
abbrev pub IsNear : ℕ → (text front : List ℕ) → Type 0
IsNear count text front = (n : ℕ) × (count ≤ n) × (n ≤ length text) × (front ≡ take n text)
