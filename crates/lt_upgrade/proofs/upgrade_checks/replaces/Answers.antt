use Rattle.std.proofs.Common.{Some, sym, ap, ◌∙◌}
use Rattle.lt_tag.specs.OrderLaws.{same_exactly, tag_total, tags_apart}
use Rattle.lt_upgrade.proofs.upgrade_checks.replaces.Goals as goal

-- where true is answered, the newer registry has this value for the tag: tags that compare as equal are the same
pub returns-in-Some : goal.returns-in-Some
returns-in-Some g c =
    λ h. sym c.in-Some.ensures
    ∙ ap Some ((same_exactly tag_total tags_apart c.in-Some.other.now c.args.value.now c.eq.result c.eq.ensures).0
    h)
