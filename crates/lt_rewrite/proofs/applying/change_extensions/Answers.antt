use Rattle.lt_rewrite.proofs.applying.change_extensions.Goals as goal

-- the copy was the extensions, so the step leads from these to what the copy is now
pub returns-then-branch : goal.returns-then-branch
returns-then-branch g c = rw (c.if-branch.true, c.in_ok-changed.ensures) at c.in_ok-apply_to_extensions.ensures

-- the copy was the extensions, so the step leads from these nowhere
pub returns-else-branch : goal.returns-else-branch
returns-else-branch g c = rw (c.if-branch.false, c.in_ok-changed.ensures) at c.in_ok-apply_to_extensions.ensures
