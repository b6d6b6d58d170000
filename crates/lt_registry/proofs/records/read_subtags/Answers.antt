use Rattle.std.proofs.Common.{sym, ◌∙◌}
use Rattle.lt_registry.proofs.RecordTexts.{subtag_named}
use Rattle.lt_registry.proofs.records.read_subtags.Goals as goal

-- the subtag is what the definition gives, which looks for two full stops first: a subtag has no full stop, so its text
-- is no range
pub returns-in-Some-clause-named : goal.returns-in-Some-clause-named
returns-in-Some-clause-named c =
    sym (subtag_named c.args.kind c.args.text.now c.in-Some.subtag (sym c.read_formed.ensures ∙ c.in-Some.is))
