use Rattle.std.proofs.lemmas.Slice.Eq.{slice_eq-Decides}
use Rattle.lt_check.proofs.Deciding.{Decides-list}
use Rattle.lt_upgrade.proofs.upgrade_checks.same_prefixes.Goals as goal

-- true exactly if the lists are the same: they are if their elements compare as equal one by one
pub returns : goal.returns
returns c = slice_eq-Decides Decides-list c.args.left.now c.args.right.now c.eq.result c.eq.ensures
