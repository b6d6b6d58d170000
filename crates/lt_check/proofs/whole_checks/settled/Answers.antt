use Rattle.std.proofs.Common.{sym, subst}
use Rattle.lt_registry.specs.Validity.{IsProperCore}
use Rattle.lt_check.proofs.WholeRecords.{core_below, form_spells_none}
use Rattle.lt_check.proofs.whole_checks.settled.Goals as goal

-- `settle_core` may be called, which asks that each chain of values ends: C3 is met
pub settle_core-requires-clause-chains : goal.settle_core-requires-clause-chains
settle_core-requires-clause-chains g c = (core_below (g.L.Lookup.listed c.args.table.now) c.requires.lower).chains

-- the text of the form is no grandfathered tag: the core is proper and C8 is met, so no core that steps reach spells
-- one
pub returns-clause-spelled : goal.returns-clause-spelled
returns-clause-spelled g c =
    let proper = subst (IsProperCore (g.L.Lookup.listed c.args.table.now)) (sym c.in_ok-form.ensures) c.requires.proper in
    form_spells_none _ c.requires.lower _ _ proper c.settle_core.ensures.reached c.language.ensures.core.shaped
