-- For their ghost argument `registry` the call of `take` gets the registry that the older handle holds, and that of
-- `check_newer` the newer one.
use Rattle.bcp47_c.proofs.bcp47_handle_upgrade_check.Given as goal

abbrev pub ghost-take : goal.ghost-take
ghost-take g a = g.registry.0

abbrev pub ghost-check_newer : goal.ghost-check_newer
ghost-check_newer g a = g.registry.1
