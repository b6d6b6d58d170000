use Rattle.std.proofs.Common.{◌==◌, ℕ, rules}
use Rattle.std.proofs.lemmas.Iterator.Consumers.{map_from_collect}
use Rattle.std.proofs.lemmas.Iterator.Splits.{YieldsList-from_slice_split}
use Rattle.lt_range.proofs.elements.cut_at_commas.Goals as goal

-- what is collected are the pieces between the commas: the split is at the bytes 44, which are these
pub returns : goal.returns
returns c = map_from_collect _ c.collect.ensures.ran
    (YieldsList-from_slice_split _ (λ (b : ℕ). b == 44) c.args.text.now c.split.ensures.rest c.split.ensures.done
    c.split.ensures.closure (λ x b q k. search rules))
