use Rattle.std.proofs.Common.{arith}
use Rattle.lt_check.specs.Staying.{has_no_value}
use Rattle.lt_check.proofs.FlagLemmas.{first_named, first_unnamed}
use Rattle.lt_check.proofs.usual_subtags.put_single.Goals as goal

-- If the flags told of the records `es`, they tell of `es` with this record in front: it comes before those read so
-- far, so of its subtag it is the one that counts.
pub returns-in-Single : goal.returns-in-Single
returns-in-Single c = λ es tell k s n h.
    let told = c.put_subtag.ensures (has_no_value es) tell k s n h in
    grind (arith, first_named)

-- the same of a record of a range or a whole tag: it names no single subtag, so no flag changes
pub returns-in_default : goal.returns-in_default
returns-in_default c = λ es tell k s n h. let told = tell k s n h in grind (arith, first_unnamed)
