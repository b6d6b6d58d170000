use Rattle.std.proofs.Common.{None, Ok}
use Rattle.lt_check.proofs.Judging.{by_record, judged}
use Rattle.lt_check.proofs.checking.lowest_fault.Goals as goal

-- the search is called only for a condition that is decided record by record: C1, C8, C10 and C11 have arms of their
-- own
pub first_failing-requires-clause-by_record : goal.first_failing-requires-clause-by_record
first_failing-requires-clause-by_record g c = by_record c.args.condition c.in_default.not-OwnName
    c.in_default.not-FittingGrandfathered c.in_default.not-RestingWhole c.in_default.not-AgreeingWhole

-- The answer is the verdict on all conditions up to the one asked for: what the search for a taken name finds is the
-- lowest fault of C1.
pub returns-in-OwnName : goal.returns-in-OwnName
returns-in-OwnName g c =
    judged _ c.args.condition c.requires.lower (λ e. let k = c.in-OwnName.is in cc) _ (rw c.in-OwnName.is c.first_taken_name.ensures)

-- the same: what the search for a misfit finds is the lowest fault of C8
pub returns-in-FittingGrandfathered : goal.returns-in-FittingGrandfathered
returns-in-FittingGrandfathered g c =
    judged {E = Unit {0}} _ c.args.condition c.requires.lower (λ e. let k = c.in-FittingGrandfathered.is in cc)
    (Ok c.first_misfit.result) (rw c.in-FittingGrandfathered.is c.first_misfit.ensures)

-- None is the verdict: all records meet each condition that is decided record by record, and this is one of them
pub returns-in_default : goal.returns-in_default
returns-in_default g c =
    judged {E = Unit {0}} _ c.args.condition c.requires.lower c.in_default.not-RestingWhole (Ok None)
    (c.requires.all c.if-all_meet.true c.args.condition
    (by_record c.args.condition c.in_default.not-OwnName c.in_default.not-FittingGrandfathered
    c.in_default.not-RestingWhole c.in_default.not-AgreeingWhole))

-- the same: what the search record by record finds is the lowest fault of the condition
pub returns-in_default-2 : goal.returns-in_default-2
returns-in_default-2 g c =
    judged {E = Unit {0}} _ c.args.condition c.requires.lower c.in_default.not-RestingWhole (Ok c.first_failing.result)
    c.first_failing.ensures
