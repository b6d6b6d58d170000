use Rattle.std.proofs.Common.{inr, subst}
use Rattle.lt_check.specs.Checking.{IsVerdict}
use Rattle.lt_check.specs.Conditions.{IsFinding}
use Rattle.lt_check.proofs.Judging.{none_that_passes}
use Rattle.lt_check.proofs.checked.Checked.new.Goals as goal

-- a table that is rejected for a finding does not pass: the finding names a record that fails a condition
pub returns-in-Ok-Some-clause-rejects : goal.returns-in-Ok-Some-clause-rejects
returns-in-Ok-Some-clause-rejects g c =
    let R = g.L.Lookup.listed c.args.table in
    let finding = c.in-Ok-Some.finding in
    let found : IsFinding R finding.condition finding.number = subst (IsVerdict R) c.in-Ok-Some.field-0-is c.in-Ok-Some.ensures in
    inr (none_that_passes R finding.condition finding.number found.fault)
