-- A short text, padded with zeros to 32 bytes.
use Rattle.std.specs.Prelude.{◌++◌, ◌-◌, ℕ, List, length, replicate}

-- the bytes of a text, and then zeros up to 32 bytes
abbrev pub padded : List ℕ → List ℕ
padded s = s ++ replicate (32 - length s) 0
