use Rattle.std.proofs.Common.{rules, of_calls}
use Rattle.std.specs.Ordering.{is_lt}
use Rattle.std.proofs.lemmas.Fn.{always_returns_same, dedup_same}
use Rattle.std.proofs.lemmas.List.Sorted.{ranks_by}
use Rattle.lt_registry.specs.Sorted.{whole_key, whole_row, whole_cmp}
use Rattle.lt_registry.specs.declared.rows.Row.{Row}
use Rattle.lt_registry.proofs.SortedLemmas.{same_key, row_total, indexed}
use Rattle.lt_registry.proofs.IndexLemmas.{whole_placed, key_total}
use Rattle.lt_registry.proofs.whole_index.WholeIndex.of_entries.Goals as goal

-- The sorted rows, of each tag the first alone, are the index of the whole tags (`IsWholes`). The sort puts rows of one
-- tag in the order of their places, so the first of the file is the one that stays.
pub returns : goal.returns
returns c =
    let R = c.args.entries.now in
    let order = row_total key_total (whole_key R) (λ (w : Row). w.place) in
    let up = c.in_ok-sort_by.ensures.sorted (λ v w. is_lt (whole_cmp R v w)) (ranks_by order (λ w. w))
    (always_returns_same _ _ _ (λ a r f called. search (rules, of_calls))) in
    let kept = dedup_same _ (same_key key_total (whole_key R) (λ (w : Row). w.place)) _
    (λ x y b f' x' y' k. search rules) _ _ c.dedup_by.ensures.filtered in
    indexed key_total (whole_key R) (λ (w : Row). w.place) whole_row whole_placed R c.in_ok-rows.rows.items
    c.sort_by.new.self.items c.dedup_by.new.self.items c.in_ok-rows.ensures c.in_ok-sort_by.ensures.permutation up
    kept
