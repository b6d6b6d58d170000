use Rattle.lt_registry.proofs.ValidityLaws.{proper_law}
use Rattle.lt_rewrite.proofs.TagLeading.{not_proper}
use Rattle.lt_rewrite.proofs.applying.apply.Goals as goal

-- NoSuchStep is right: `change` found no tag to which the step leads, so it leads to no proper one
pub returns-in_default-clause-err : goal.returns-in_default-clause-err
returns-in_default-clause-err g c =
    let none = rw c.in_default.is at c.in_ok-changed.ensures in
    λ u m. none u m.0.to.tag (m.0.change, m.1)

-- the tag that is given is the one to which the step leads, and is proper
pub returns-then-branch-clause-ok : goal.returns-then-branch-clause-ok
returns-then-branch-clause-ok g c =
    let R = g.L.Lookup.listed c.args.table.now in
    let leads = rw c.in-Some.is at c.in_ok-changed.ensures in (
      record {
        from = c.requires;
        to = (proper_law R c.in-Some.changed c.extensions.ensures.tag).1
            (c.in_ok-proper.ensures.answer.0 c.if-branch.true);
        change = leads.0;
      },
      leads.1,
    )

-- NoSuchStep is right: the step leads to at most one tag, and this tag is not proper
pub returns-else-branch-clause-err : goal.returns-else-branch-clause-err
returns-else-branch-clause-err g c =
    let R = g.L.Lookup.listed c.args.table.now in
    let leads = rw c.in-Some.is at c.in_ok-changed.ensures in
    not_proper R c.args.tag.now c.args.step.now c.requires c.in-Some.changed leads
    (λ h.
    let yes = c.in_ok-proper.ensures.answer.1 ((proper_law R c.in-Some.changed c.extensions.ensures.tag).0 h) in
    let no = c.if-branch.false in
    cc)
