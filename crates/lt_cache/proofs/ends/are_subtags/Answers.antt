use Rattle.std.proofs.Common.{◌∙◌, ◌==◌, List, ℕ, rules, tests}
use Rattle.std.proofs.lemmas.Iterator.Search.{all_from_yields_List}
use Rattle.std.proofs.lemmas.Iterator.Splits.{YieldsList-from_slice_split}
use Rattle.std.proofs.lemmas.List.Folds.{list_all-map}
use Rattle.lt_subtag.specs.Bytes.{folded, is_subtag}
use Rattle.lt_cache.proofs.ends.are_subtags.Goals as goal

-- True exactly if each subtag of the text's list is one: the pieces between hyphens are the list, and each is tried.
pub returns : goal.returns
returns c =
    all_from_yields_List (λ (s : List ℕ). is_subtag (folded s)) _ _ c.all.result c.all.ensures.ran
    (YieldsList-from_slice_split _ (λ (b : ℕ). b == 45) c.args.text.now c.split.ensures.rest c.split.ensures.done
    c.split.ensures.closure (λ x r q k. search (rules, tests)))
    (λ x b q k. search (rules, tests))
    ∙ simp list_all-map
