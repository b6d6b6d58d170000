use Rattle.std.proofs.Common.{◌∙◌}
use Rattle.lt_canon.specs.Settled.{IsSettledTag}
use Rattle.lt_canon.proofs.CanonicalForms.{settled_canonical, coreless_settled}
use Rattle.lt_canon.proofs.canonical_tags.canonical_of.Goals as goal
use Rattle.lt_canon.proofs.canonical_tags.canonical_of.Goals.{in-Ok+in_ok-settled-in-Ok, in-Err}

-- the answer is the canonical form: the parts of the tag are in their normal forms already, so with its value taken, if
-- it has one, it is canonical
pub returns-then-not-branch : goal.returns-then-not-branch
returns-then-not-branch g c =
    rw (← c.table-table.ensures.value) (settled_canonical (g.L.Lookup.listed c.table-table.result.now)
    (rw c.table-table.ensures.value c.table-table.ensures.checked) c.args.tag c.args.tag
    c.in_ok-replaced_whole.field-0 c.in_ok-needs_settling.ensures.valid
    (c.in_ok-needs_settling.ensures.settled c.if-not-branch.true) (c.in_ok-replaced_whole.ensures {u = tt}))

-- the answer is the canonical form: the settled tag has its parts in their normal forms, so with its value taken, if it
-- has one, it is canonical
pub returns : goal.returns
returns g c =
    let t = c.args.tag in
    let R = g.L.Lookup.listed c.table-table.result.now in
    let settled : IsSettledTag R t c.match-into_parts.settled = elim c.match-into_parts.branch [
      | in-Ok+in_ok-settled-in-Ok w ↦ rw (w.settled-is, (w.in-Ok.ensures {u = tt}).parts) (w.in_ok-settled-in-Ok.ensures {u = tt}).settled
      | in-Err w ↦ let other = (w.in-Err.ensures {u = tt}).other in
          coreless_settled R t c.match-into_parts.settled other.1 (w.settled-is ∙ other.0)
    ] in
    rw (← c.table-table.ensures.value)
    (settled_canonical R (rw c.table-table.ensures.value c.table-table.ensures.checked) t c.match-into_parts.settled
    c.in_ok-replaced_whole-2.field-0 c.in_ok-needs_settling.ensures.valid settled
    (c.in_ok-replaced_whole-2.ensures {u = tt}))
