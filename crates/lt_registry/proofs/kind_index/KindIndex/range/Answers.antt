use Rattle.std.proofs.Common.{sym, ◌∙◌}
use Rattle.lt_registry.proofs.RangeLemmas.{none_holds}
use Rattle.lt_registry.proofs.kind_index.KindIndex.range.Goals as goal

-- None is right of a subtag with a digit: ranges hold subtags of letters alone, so none holds this one
pub returns-then-not-is_alphabetic : goal.returns-then-not-is_alphabetic
returns-then-not-is_alphabetic c = sym (none_holds c.args.entries.now c.args.self.now.kind c.args.subtag.now
    (sym c.is_alphabetic.ensures ∙ c.if-not-is_alphabetic.true))
