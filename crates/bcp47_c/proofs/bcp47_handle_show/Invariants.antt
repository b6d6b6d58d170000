-- For its ghost argument `registry` the call of `take` gets the registry that the handle holds before the call.
use Rattle.bcp47_c.proofs.bcp47_handle_show.Given as goal

abbrev pub ghost-take : goal.ghost-take
ghost-take g a = g.registry
