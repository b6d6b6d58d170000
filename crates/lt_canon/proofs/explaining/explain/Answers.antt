use Rattle.lt_canon.proofs.TraceLemmas.{explained}
use Rattle.lt_canon.proofs.explaining.explain.Goals as goal

-- the steps and the canonical form are the explanation of the tag: the steps lead to a tag from which none leads on,
-- and the canonical form is the only one
pub returns-clause-ok : goal.returns-clause-ok
returns-clause-ok g c =
    explained (g.L.Lookup.listed c.args.checked.now) c.table.ensures.checked c.args.tag.now c.in_ok-last.last
    c.in_ok-steps.steps.items (c.in_ok-last.ensures {u = tt}).ok
    (rw (c.table.ensures.value, c.new.ensures.items) at (c.in_ok-steps.ensures {u = tt}))
