use Rattle.std.proofs.Common.{rules, of_calls, sym, ◌∙◌, Some}
use Rattle.std.proofs.lemmas.Fn.{always_returns_same}
use Rattle.lt_registry.specs.Sorted.{whole_key_cmp, whole_key}
use Rattle.lt_registry.specs.declared.rows.Row.{Row}
use Rattle.lt_registry.proofs.IndexLemmas.{whole_found, whole_absent}
use Rattle.lt_registry.proofs.whole_index.WholeIndex.find.Goals as goal

-- the entry in the row that was found is the first of the tag, since of the tag's records only the first has a row
pub returns-in-Ok : goal.returns-in-Ok
returns-in-Ok c =
    let R = c.args.entries.now in
    let at = c.in-Ok.ensures.position
    (λ (row : Row). whole_key_cmp (whole_key R row) (c.language_number-number.result, Some c.args.tag.now))
    (always_returns_same _ _ _ (λ a r f called. search (rules, of_calls))) in
    let tied = rw (c.deref.ensures.value, c.language_number-number.ensures) at at in
    let within = rw c.deref.ensures.value at c.in-Ok.ensures.bound in
    c.entry_at.ensures
    ∙ sym (whole_found R c.args.self.now.rows.items c.args.tag.now c.requires c.in-Ok.found c.index.result.now
    within c.index.ensures tied)

-- None is right: before the place where the search ended the rows are less than the tag, from it on greater, so none is
-- of it
pub returns-in-Err : goal.returns-in-Err
returns-in-Err c =
    let R = c.args.entries.now in
    let at = c.in-Err.ensures.position
    (λ (row : Row). whole_key_cmp (whole_key R row) (c.language_number-number.result, Some c.args.tag.now))
    (always_returns_same _ _ _ (λ a r f called. search (rules, of_calls))) in
    let point = rw (c.deref.ensures.value, c.language_number-number.ensures) at at in
    sym (whole_absent R c.args.self.now.rows.items c.args.tag.now c.requires c.in-Err.field-0 point)
