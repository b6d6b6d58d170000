use Rattle.std.proofs.Common.{sym}
use Rattle.lt_rewrite.proofs.ShortcutWalks.{onward_endless}
use Rattle.lt_rewrite.proofs.shortcuts.Shortcuts.end_of_chain.Goals as goal

-- Cycle is right: a value follows even after as many values as there are records, so the chain has no end
pub returns-in-Some-clause-cycle : goal.returns-in-Some-clause-cycle
returns-in-Some-clause-cycle g c =
    onward_endless (g.L.Lookup.listed c.args.table.now) c.args.kind c.args.subtag.now c.further-end.result.now
    c.in-Some.field-0.now c.further-end.ensures.onward (sym c.in-Some.ensures)
