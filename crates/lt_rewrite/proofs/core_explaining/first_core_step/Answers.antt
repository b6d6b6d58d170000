use Rattle.lt_rewrite.proofs.CoreLeading.{first_after, last}
use Rattle.lt_rewrite.proofs.core_explaining.first_core_step.Goals as goal

-- the Extlang step comes before those of all other kinds
pub returns-in-Some : goal.returns-in-Some
returns-in-Some g c = first_after (g.L.Lookup.listed c.args.table.now) c.args.start c.args.core.now 0 c.in-Some.step tt c.in-Some.ensures

-- there is no Extlang step, so the Language step is the first
pub returns-in-Some-language_step : goal.returns-in-Some-language_step
returns-in-Some-language_step g c =
    first_after (g.L.Lookup.listed c.args.table.now) c.args.start c.args.core.now 1 c.in-Some-language_step.step
    (tt, c.in_default.ensures) c.in-Some-language_step.ensures

-- there is no step of the kinds before Script, so the Script step is the first
pub returns-in-Some-script_step : goal.returns-in-Some-script_step
returns-in-Some-script_step g c =
    first_after (g.L.Lookup.listed c.args.table.now) c.args.start c.args.core.now 2 c.in-Some-script_step.step
    ((tt, c.in_default.ensures), c.in_default-language_step.ensures) c.in-Some-script_step.ensures

-- there is no step of the kinds before Region, so the Region step is the first
pub returns-in-Some-region_step : goal.returns-in-Some-region_step
returns-in-Some-region_step g c =
    first_after (g.L.Lookup.listed c.args.table.now) c.args.start c.args.core.now 3 c.in-Some-region_step.step
    (((tt, c.in_default.ensures), c.in_default-language_step.ensures), c.in_default-script_step.ensures)
    c.in-Some-region_step.ensures

-- there is no step of the kinds before Variant, so the leftmost Variant step is the first
pub returns-in-Some-variant_step : goal.returns-in-Some-variant_step
returns-in-Some-variant_step g c =
    first_after (g.L.Lookup.listed c.args.table.now) c.args.start c.args.core.now 4 c.in-Some-variant_step.step (
      (((tt, c.in_default.ensures), c.in_default-language_step.ensures), c.in_default-script_step.ensures),
      c.in_default-region_step.ensures,
    ) c.in-Some-variant_step.ensures

-- there is no step of another kind, so a VariantLanguage step is the first, and without one there is no step
pub returns : goal.returns
returns g c =
    last (g.L.Lookup.listed c.args.table.now) c.args.start c.args.core.now (
      (
        (((tt, c.in_default.ensures), c.in_default-language_step.ensures), c.in_default-script_step.ensures),
        c.in_default-region_step.ensures,
      ),
      c.in_default-variant_step.ensures,
    ) c.variant_language_step.result
    c.variant_language_step.ensures
