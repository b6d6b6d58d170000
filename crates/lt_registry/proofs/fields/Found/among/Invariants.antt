use Rattle.std.proofs.Common.{take}
use Rattle.lt_registry.specs.RecordSteps.{HasFound}
use Rattle.lt_registry.proofs.fields.Found.among.Given as goal

-- `found` is true of the fields before `place`, those that were looked at so far
abbrev pub invariant-loop-place : goal.invariant-loop-place
invariant-loop-place l = HasFound (take l.place l.fields) l.found
