use Rattle.std.proofs.Common.{ℕ, List, Some, arith, length-take-le, subst, take, drop}
use Rattle.lt_rows.specs.Rows.{EndsField, IsRowField}
use Rattle.lt_rows.proofs.FieldLemmas.{left_is, skips_one}
use Rattle.lt_rows.proofs.RowLemmas.{skips_last}
use Rattle.lt_rows.proofs.rows.skip_fields.Goals as goal

-- the clause HasFewer where the answer is None: no separator ends this field, and one more was to come
pub returns-in-None : goal.returns-in-None
returns-in-None c =
    let at = c.loop-field.at in
    let row = take c.args.count c.args.text.now in
    skips_last c.args.separator c.loop-field._field c.args.before row (drop at row) c.loop-field.invariant.1
    (subst (IsRowField c.args.separator) (left_is c.args.text.now c.args.count at c.loop-field.invariant.0)
    c.in-None.ensures) (omega (arith, c.loop-field-test.true))

-- a turn keeps the invariant: it skips one field more, with the separator that ends it
pub loop-field-preserved : goal.loop-field-preserved
loop-field-preserved c =
    let at = c.loop-field.at in
    let row = take c.args.count c.args.text.now in
    let ends = subst (λ (l : List ℕ). EndsField c.args.separator l (Some c.in-Some.end))
    (left_is c.args.text.now c.args.count at c.loop-field.invariant.0) c.in-Some.ensures in
    let one = skips_one c.args.separator c.loop-field._field at c.in-Some.end row c.loop-field.invariant.1 ends in
    (omega (arith, one.0, length-take-le c.args.count c.args.text.now c.requires.count), one.1)
