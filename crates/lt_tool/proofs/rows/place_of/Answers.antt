use Rattle.std.proofs.Common.{refl}
use Rattle.lt_tool.proofs.rows.place_of.Goals as goal

-- a column with a number is not looked for, and nothing of the input is read
pub returns-in-Number : goal.returns-in-Number
returns-in-Number g c = rw c.in-Number.is (refl, refl)

-- the name is found in the heading: the place is its number, with the bytes that were read
pub returns-in-Ok : goal.returns-in-Ok
returns-in-Ok g c = rw c.in-Name.is (c.find_column.result, rw c.deref.ensures at c.find_column.ensures, rw c.in-Ok.is refl)

-- no heading was read, or the name is not in it once: that fault is given
pub returns-in-Err : goal.returns-in-Err
returns-in-Err g c = rw c.in-Name.is (
  c.find_column.result,
  rw c.deref.ensures at c.find_column.ensures,
  rw (c.in-Err.is, c.from.ensures) refl,
)
