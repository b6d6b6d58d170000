use Rattle.std.proofs.Common.{true, false}
use Rattle.lt_upgrade.proofs.UpgradeChecks.{languages_compared}
use Rattle.lt_upgrade.proofs.upgrade_checks.same_languages.Goals as goal

-- true exactly if the Prefixes of one subtag are the same: those on the left are among those on the right, so the other
-- way round decides
pub returns-then-are_among : goal.returns-then-are_among
returns-then-are_among c = languages_compared c.args.left.now.prefixes c.args.right.now.prefixes true
    c.are_among-then-are_among.result (cc) (cc)

-- false is right: a Prefix of one subtag on the left is not among those on the right
pub returns-else-are_among : goal.returns-else-are_among
returns-else-are_among c = languages_compared c.args.left.now.prefixes c.args.right.now.prefixes false c.are_among.result (cc) (cc)
