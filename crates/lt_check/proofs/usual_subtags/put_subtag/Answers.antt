use Rattle.std.proofs.Common.{Some, None}
use Rattle.lt_check.proofs.FlagLemmas.{same_place}
use Rattle.lt_check.proofs.usual_subtags.put_subtag.Goals as goal

-- Whatever test the flags told, they tell the same but for this subtag: two subtags have one place only if they are the
-- same, letter case aside, so the one flag that is written is this subtag's.
pub returns-in-Some : goal.returns-in-Some
returns-in-Some c = λ test tell k s n h.
    let same = same_place c.args.kind k c.args.subtag.now s n (Some c.in-Some.place) c.requires.form (cc) h in
    let written = c.put.ensures n in
    let before = tell k s n h in
    cc

-- the same where the subtag has no place: no subtag with a place is the same, so no answer changes
pub returns-in_default : goal.returns-in_default
returns-in_default c = λ test tell k s n h.
    rw (same_place c.args.kind k c.args.subtag.now s n None c.requires.form (cc) h) (tell k s n h)
