-- What a text keeps while more is added.
use Rattle.std.specs.Prelude.{ℕ, ◌≡◌, List, length, take}

-- the new text begins with the old one
abbrev pub IsKept : List ℕ → List ℕ → Type 0
IsKept old new = take (length old) new ≡ old
