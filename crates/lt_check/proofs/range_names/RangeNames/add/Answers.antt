use Rattle.lt_check.proofs.SeenRanges.{new_or_there, added_to}
use Rattle.lt_check.proofs.range_names.RangeNames.add.Goals as goal

-- true exactly if the set didn't have the range: only equal ranges tie in its order, so it adds a range exactly then
pub returns-clause-added : goal.returns-clause-added
returns-clause-added c = rw (← c.self.view_is, ← c.new.ensures)
    (new_or_there c.self.inside.names.keys c.new.result c.in_ok-insert.field-0 c.in_ok-insert.ensures.added)

-- afterwards the set has the added range and what it had before, for the same reason
pub returns-clause-names : goal.returns-clause-names
returns-clause-names c name = rw (← c.self.view_is, ← c.new.ensures)
    (added_to c.self.inside.names.keys c.insert.new.self.keys c.new.result c.in_ok-insert.ensures.updates.0 name)
