use Rattle.lt_canon.proofs.RepeatedVariants.{source_refused}
use Rattle.lt_canon.proofs.canonical_tags.settled_langtag.Goals as goal

-- the refusal is right, as steps can repeat a variant and this is the one to name: the core repeats none, and it is the
-- first that a source repeats
pub returns-in-Some-clause-refusal : goal.returns-in-Some-clause-refusal
returns-in-Some-clause-refusal g c =
    source_refused (g.L.Lookup.listed c.args.table.now) c.requires.checked c.args.core c.settle_core.new.core
    c.args.extensions.items c.settle_extensions.new.extensions.items c.args.private.items c.in-Some.variant
    c.requires.valid c.in_ok-settle_core.ensures.form c.in_ok-settle_extensions.ensures.ok
    (rw (c.in-Some.is, c.deref.ensures.value) at c.in_ok-variant.ensures)
