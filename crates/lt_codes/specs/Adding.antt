-- How the lines of a table of codes are added to its codes. No public contract cites this.
use Rattle.std.specs.Prelude.{◌≡◌, ℕ, List, ◌++◌, Result, Ok, Err}
use Rattle.std.specs.List.{All}
use Rattle.lt_codes.specs.Rows.{codes_in}
use Rattle.lt_codes.specs.Tables.{AddsLine, Agrees}
use Rattle.lt_codes.specs.declared.codes.Code.{Code}
use Rattle.lt_codes.specs.declared.faults.TableFaultKind.{TableFaultKind}
use Rattle.lt_codes.specs.declared.faults.TableFaultKind.TheVariants as kinds
use Rattle.lt_codes.specs.declared.rows.Row.{Row}

-- What adding a row did, by its answer: its codes follow those before; or they don't agree with those, or memory ran
-- out. No other fault is answered (⊥). `before` and `after` are the codes of the table before and after.
abbrev pub AddsRow : (before after : List Code) → Row → Result (Unit {0}) TableFaultKind → Type 0
AddsRow before after row (Ok done) = All (Agrees before) (codes_in row) × (after ≡ before ++ codes_in row)
AddsRow before after row (Err kinds.RepeatedCode) = All (Agrees before) (codes_in row) → ⊥
AddsRow before after row (Err kinds.OutOfMemory) = Unit {0}
AddsRow before after row (Err kind) = ⊥

-- What adding a line did, by its answer: its codes follow those before, or it is refused with its fault.
abbrev pub AddsCodes : (before after : List Code) → List ℕ → Result (Unit {0}) TableFaultKind → Type 0
AddsCodes before after line (Ok done) = (more : List Code) × AddsLine before line (Ok more) × (after ≡ before ++ more)
AddsCodes before after line (Err kind) = AddsLine before line (Err kind)
