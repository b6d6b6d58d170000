use Rattle.lt_rows.specs.declared.rows.Separator.TheVariants as separators
use Rattle.lt_rows.proofs.FieldLemmas.{end_by_parts}
use Rattle.lt_rows.proofs.rows.end_outside.Goals as goal

-- the clause EndsField, where a delimiter is found: none is outside of quotes before it, so it ends the field
pub returns-in-Some : goal.returns-in-Some
returns-in-Some c =
    let e = c.in-Some.ensures in
    end_by_parts (separators.Delimiter c.args.delimiter) c.args.rest.now c.in-Some.field.now c.in-Some.field-0-1.now
    (record { field = e.0; closed = e.1 }) e.2
