use Rattle.std.proofs.Common.{◌≡◌, ltb, rules, subst}
use Rattle.std.specs.List.{IsAllAdjacentAnswer}
use Rattle.std.proofs.lemmas.List.Sorted.{answers_always}
use Rattle.lt_registry.proofs.NumberLemmas.{rising_differ}
use Rattle.lt_registry.proofs.subtag_numbers.differ.Goals as goal

-- if each of the sorted numbers is less than the next, no two are equal, nor were they before the sort
pub returns : goal.returns
returns c all =
    let ns = c.sort_unstable.new.self in
    rising_differ c.args.numbers.now ns c.sort_unstable.ensures.permutation
    (subst (IsAllAdjacentAnswer (λ m n b. b ≡ ltb m n) ns) all
    (c.is_sorted_by.ensures.cases ltb (answers_always _ _ _ (λ f a r f' k. search rules))))
