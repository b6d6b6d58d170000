use Rattle.std.proofs.Common.{List}
use Rattle.lt_registry.specs.Parts.{EntryParts}
use Rattle.lt_tag.specs.Parts.{TagForm}
use Rattle.lt_registry.proofs.ValidityLaws.{proper_law}
use Rattle.lt_canon_tests.proofs.rewriting.applying.leads.Goals as goal

-- the tag is proper, as was asked before, so its extensions can be settled
pub applied-answer-requires : goal.applied-answer-requires
applied-answer-requires g c =
    let R : List EntryParts = g.L.Lookup.listed c.args.table.now in
    let t : TagForm = c.in_ok-tag.tag in
    (proper_law R t c.extensions.ensures.tag).1 (c.in_ok-is_proper.ensures.0 c.if-not-is_proper.false)
