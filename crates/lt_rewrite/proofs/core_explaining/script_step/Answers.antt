use Rattle.std.proofs.Common.{refl, sym, ap, ◌∙◌, arith}
use Rattle.std.specs.Option.{option_copied}
use Rattle.lt_rewrite.specs.CoreSteps.{at_script}
use Rattle.lt_rewrite.proofs.CoreLeading.{first_part}
use Rattle.lt_rewrite.proofs.core_explaining.script_step.Goals as goal

-- there is a script, and it has a value, so this is the one Script step
pub returns : goal.returns
returns g c =
    first_part (g.L.Lookup.listed c.args.table.now) c.args.start c.args.core.now _ at_script c.in_ok-script.script.now
    c.in_ok-value.field-0.now tt refl
    (omega (arith, c.before_script.ensures.value))
    c.record_number.ensures
    (sym c.script.ensures.value ∙ ap option_copied c.in_ok-script.was)
    (sym c.value.ensures.value ∙ ap option_copied c.in_ok-value.was)
