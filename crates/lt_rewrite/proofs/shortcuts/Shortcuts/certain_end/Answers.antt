use Rattle.std.proofs.Common.{sym, subst}
use Rattle.lt_rewrite.specs.CoreSteps.{EndsIn}
use Rattle.lt_rewrite.specs.Conditions.{next_value}
use Rattle.lt_rewrite.proofs.Entries.{chains_end}
use Rattle.lt_rewrite.proofs.ShortcutWalks.{onward_end}
use Rattle.lt_rewrite.proofs.shortcuts.Shortcuts.certain_end.Goals as goal

-- a chain that ends does so within as many values as there are records, so the copy is its end
pub returns-clause-end : goal.returns-clause-end
returns-clause-end g c =
    let R = g.L.Lookup.listed c.args.table.now in
    let a = c.further.ensures.onward in
    subst (EndsIn (next_value R c.args.kind) c.args.subtag.now) (sym c.copy.ensures) (
      a.0,
      a.2,
      onward_end R c.args.kind c.args.subtag.now c.further.result.now a
          (chains_end R c.requires.chains c.args.kind c.args.subtag.now),
    )
