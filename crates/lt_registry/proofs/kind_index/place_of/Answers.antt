use Rattle.std.proofs.Common.{rules}
use Rattle.std.proofs.lemmas.List.Sorted.{answers_always}
use Rattle.lt_registry.specs.declared.rows.Row.{Row}
use Rattle.lt_registry.proofs.SpanLemmas.{place_found, place_missing, searchable}
use Rattle.lt_registry.proofs.kind_index.place_of.Goals as goal

-- the place in the row that was found is that of the number: the numbers rise, so it is the only row with this one
pub returns-in-Ok : goal.returns-in-Ok
returns-in-Ok c =
    let at = c.in-Ok.ensures.position (λ (row : Row). row.number) (answers_always _ _ _ (λ f a r g called. search rules)) in
    place_found c.args.rows.now c.args.number c.in-Ok.found c.requires c.in-Ok.ensures.bound (record { number = 0; place = 0 }) at

-- before the place where the search ended the numbers are less, from it on greater: no row has this one
pub returns-in-Err : goal.returns-in-Err
returns-in-Err c =
    let at = c.in-Err.ensures.position (λ (row : Row). row.number) (answers_always _ _ _ (λ f a r g called. search rules)) in
    place_missing c.args.rows.now c.args.number c.in-Err.field-0 (at (searchable c.args.rows.now c.args.number c.requires))
