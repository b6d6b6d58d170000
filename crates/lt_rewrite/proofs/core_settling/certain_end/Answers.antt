use Rattle.lt_rewrite.proofs.Entries.{chains_end}
use Rattle.lt_rewrite.proofs.core_settling.certain_end.Goals as goal

-- this arm is never reached: Err says that the chain has no end, but in this registry all chains have one
pub unreachable-requires : goal.unreachable-requires
unreachable-requires g c =
    c.in-Err.ensures.cycle (chains_end (g.L.Lookup.listed c.args.table.now) c.requires.chains c.args.kind c.args.subtag.now)
