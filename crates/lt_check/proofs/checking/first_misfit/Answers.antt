use Rattle.lt_check.specs.declared.conditions.Condition.TheVariants as conditions
use Rattle.lt_check.proofs.FirstFaults.{item_at, found_fault}
use Rattle.lt_check.proofs.checking.first_misfit.Goals as goal

-- the record that is named is the lowest that fails C8: all entries before fit, and later ones have higher numbers
pub returns-then-not-fits_grandfathered : goal.returns-then-not-fits_grandfathered
returns-then-not-fits_grandfathered g c =
    let at = item_at _ _ _ _ c.entries-entry-items.ensures.value c.loop-entry-test.true c.entry-item.is in
    found_fault _ c.entries-entry-items.ensures.rising conditions.FittingGrandfathered _ _ _ at
    c.number-number.ensures.value c.loop-entry.invariant
    (λ met. cc (c.if-not-fits_grandfathered.true, c.fits_grandfathered.ensures.1 met))
