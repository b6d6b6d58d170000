use Rattle.std.proofs.Common.{rules, of_calls}
use Rattle.std.proofs.lemmas.Cmp.{nat_cmp_total}
use Rattle.std.proofs.lemmas.Fn.{always_returns_same}
use Rattle.std.proofs.lemmas.List.Sorted.{ranks_by, IsStrictWeakOrder-flip}
use Rattle.lt_range.specs.declared.elements.WeightedRange.{WeightedRange}
use Rattle.lt_range.proofs.PriorityLemmas.{comes_first, sorted_is_priority}
use Rattle.lt_range.proofs.headers.by_priority.Goals as goal

-- the answer is the priority list of the elements: the sort is by falling weights, and stable, so it leaves those of
-- one weight in their order
pub returns : goal.returns
returns c =
    let order = IsStrictWeakOrder-flip _ (ranks_by nat_cmp_total (λ (e : WeightedRange). e.weight)) in
    let by = always_returns_same _ _ _ (λ a r f called. search (rules, of_calls)) in
    sorted_is_priority c.args.elements.now c.in_ok-found.found.items c.sort_by.new.self.items c.in_ok-found.ensures
    c.in_ok-sort_by.ensures.permutation
    (c.in_ok-sort_by.ensures.sorted comes_first order by) (c.in_ok-sort_by.ensures.stable comes_first order by)
