use Rattle.lt_rewrite.proofs.applying.change_core.Goals as goal

-- the copy was the core, so the step leads from the core to what the copy is now
pub returns-then-apply_to_core : goal.returns-then-apply_to_core
returns-then-apply_to_core g c = rw c.in_ok-changed.ensures at c.if-apply_to_core.ensures

-- the copy was the core, so the step leads from the core nowhere
pub returns-else-apply_to_core : goal.returns-else-apply_to_core
returns-else-apply_to_core g c = rw c.in_ok-changed.ensures at c.if-apply_to_core.ensures
