use Rattle.std.proofs.Common.{sym, ◌∙◌}
use Rattle.lt_registry.proofs.TagFaultLemmas.{told_duplicate}
use Rattle.lt_registry.proofs.validity.check_extensions.Goals as goal

-- DuplicateSingleton is the first fault: what is before the extension has none, and its singleton is there again
pub returns-then-has_singleton : goal.returns-then-has_singleton
returns-then-has_singleton g c =
    let again = sym c.has_singleton.ensures ∙ c.if-has_singleton.true in
    told_duplicate (g.L.Lookup.listed c.args.table.now) c.args.may_repeat c.args.first c.args.extensions.now
    c.loop-index.place c.loop-index.index c.index-extensions-index.result c.loop-index-test.true
    c.index-extensions-index.is c.loop-index.invariant.1
    (rw (← c.singleton.ensures.value) again)
