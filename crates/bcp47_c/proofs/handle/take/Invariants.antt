-- For its ghost argument `registry` the call of `into_block` gets the registry that the handle holds before the call.
use Rattle.bcp47_c.proofs.handle.take.Given as goal

abbrev pub ghost-into_block : goal.ghost-into_block
ghost-into_block g a = g.registry
