use Rattle.std.proofs.Common.{rules, Bool, ◌==◌, sym, ap, ◌∙◌}
use Rattle.std.specs.List.{dedup}
use Rattle.std.proofs.lemmas.Cmp.{nat_cmp_total}
use Rattle.std.proofs.lemmas.Fn.{dedup_same}
use Rattle.lt_registry.specs.Sorted.{single_row}
use Rattle.lt_registry.specs.declared.rows.Row.{Row}
use Rattle.lt_registry.proofs.SortedLemmas.{indexed, nats_equal}
use Rattle.lt_registry.proofs.IndexLemmas.{single_placed}
use Rattle.lt_registry.proofs.kind_index.sorted_rows.Goals as goal

-- The sorted rows, of each number the first alone, are the index of the single subtags (`IsSingles`). The sort puts
-- rows of one number in the order of their places, so the first of the file is the one that stays.
pub returns : goal.returns
returns c = λ R kind are.
    let kept = dedup_same _ (λ (p q : Row). p.number == q.number) _ (λ x y b f' x' y' k. search rules) _ _
    c.dedup_by_key.ensures.filtered in
    let sorted = c.sort.new.self.items in
    indexed nat_cmp_total (λ (row : Row). row.number) (λ (row : Row). row.place) (single_row kind) (single_placed kind) R
    c.args.rows.items sorted c.dedup_by_key.new.self.items are c.in_ok-sort.ensures.permutation c.in_ok-sort.ensures.sorted
    (kept ∙ ap (λ (E : Row → Row → Bool). dedup E sorted) (λ i p q. sym (nats_equal p.number q.number) i))
