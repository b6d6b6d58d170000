use Rattle.lt_range.proofs.PreferenceLaws.{best_determined}
use Rattle.lt_range.proofs.laws.best_is_determined.Goals as goal

-- Preferences and tags determine which tag is served, or that none is: of two answers neither is before the other, so
-- they are one.
pub returns : goal.returns
returns c = best_determined
