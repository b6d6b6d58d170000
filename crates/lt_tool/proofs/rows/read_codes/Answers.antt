use Rattle.std.proofs.Common.{Err, Ok, refl}
use Rattle.lt_tool.proofs.rows.read_codes.Goals as goal

-- no table is named, and the file is not read
pub returns-then-not-is_named : goal.returns-then-not-is_named
returns-then-not-is_named g c = rw c.if-not-is_named.true (refl, refl)

-- a table is named, and the file gives one
pub returns-in-Ok : goal.returns-in-Ok
returns-in-Ok g c = rw c.if-not-is_named.false (Ok c.in-Ok.codes, c.in-Ok.ensures, refl)

-- a table is named, and the file gives none
pub returns-in-Err : goal.returns-in-Err
returns-in-Err g c = rw c.if-not-is_named.false (Err c.in-Err.fault, c.in-Err.ensures, refl)
