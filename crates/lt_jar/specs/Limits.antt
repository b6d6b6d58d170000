-- How long a line may be, and how many records a text may have.
use Rattle.std.specs.Prelude.{ℕ}

-- The most bytes of a line, counted with a carriage return (13) at its end and without the line feed (10). A text with
-- a longer one is no registry, or lacks its line feeds.
abbrev pub longest_line : ℕ
longest_line = 65536

-- the most records of a text: IANA's registry of May 2025 has less than a tenth of them
abbrev pub most_records : ℕ
most_records = 100000
