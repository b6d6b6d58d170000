use Rattle.std.proofs.Common.{refl, sym, ap, ◌∙◌, arith}
use Rattle.std.specs.Option.{option_copied}
use Rattle.lt_rewrite.specs.CoreSteps.{at_region}
use Rattle.lt_rewrite.proofs.CoreLeading.{first_part}
use Rattle.lt_rewrite.proofs.core_explaining.region_step.Goals as goal

-- there is a region, and it has a value, so this is the one Region step
pub returns : goal.returns
returns g c =
    first_part (g.L.Lookup.listed c.args.table.now) c.args.start c.args.core.now _ at_region c.in_ok-region.region.now
    c.in_ok-value.field-0.now tt refl
    (omega (arith, c.before_region.ensures.value))
    c.record_number.ensures
    (sym c.region.ensures.value ∙ ap option_copied c.in_ok-region.was)
    (sym c.value.ensures.value ∙ ap option_copied c.in_ok-value.was)
