-- What a call of `next` on a `JarReader` does to it, once the record that it lent is no longer borrowed.
use Rattle.std.specs.Prelude.{◌≡◌, ℕ, List, [], Option, Result, Ok, Err, Bool, IfOk, IfSome, is_some}
use Rattle.std.specs.Borrow.{Fml, RattleType, MutBor}
use Rattle.std.specs.Io.BufRead.{Rests}
use mir.Syntax.{named}
use Rattle.lt_jar.specs.declared.faults.JarFault.{JarFault}
use Rattle.lt_jar.specs.declared.readers.JarReader.{JarReader}
use Rattle.lt_jar.specs.declared.readers.RecordRef.{RecordRef}
use Rattle.lt_jar.specs.declared.sources.JarSource.{JarSource}
use Rattle.lt_jar.specs.contracts.readers.JarReader.{the_row}
use Rattle.lt_jar.specs.contracts.sources.JarSource.{the_row as source_row}
use Rattle.lt_jar.specs.Sources.{Advances, record_in}

-- the answer of a call, in which a Boolean in place of the record tells whether one came
abbrev pub came : Result (Option RecordRef) JarFault → Result Bool JarFault
came (Ok lent) = Ok (is_some lent)
came (Err fault) = Err fault

-- the call moved the reader from `old` to `new`, and lent the record that `new` holds; `remaining` tells which bytes
-- the device's own reader has still to give
pub record Moves {R : Type 0} (remaining : R → Option (List ℕ)) (old : JarReader R JarSource)
    (result : Result (Option RecordRef) JarFault) (new : JarReader R JarSource) : Type 0 where
  pub same_reference : new.device.ghost_name ≡ old.device.ghost_name
  pub advances : Advances remaining old.source new.source old.device.now new.device.now (came result)
  pub fields : IfOk result (λ lent. IfSome lent (λ r. r.fields.now ≡ record_in new.source))

-- Once the record of this answer is no longer borrowed, the reader is what the call made of it. R is the type of the
-- device's own reader, which has still to give what `remaining` tells. `the_row` is the type `JarReader` with its
-- parameters: its lifetime, the first (0) of the call, R, and `JarSource`.
abbrev pub LendsAs : (R : RattleType) → (R.Denot → Option (List ℕ))
    → MutBor (JarReader R.Denot JarSource) → Result (Option RecordRef) JarFault → Fml
LendsAs R remaining reader result =
    Rests (the_row (record { mir = named 0; lft = [] }) R source_row) reader (Moves remaining reader.now result)
