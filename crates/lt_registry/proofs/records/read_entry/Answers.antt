use Rattle.std.proofs.Common.{◌≡◌, false, sym, ◌∙◌}
use Rattle.std.proofs.lemmas.Result.{err_from_is_err_and}
use Rattle.lt_registry.specs.Records.{repeats_field, HasKind}
use Rattle.lt_registry.proofs.RecordLaws.{kind_there, value_refused, prefix_refused}
use Rattle.lt_registry.proofs.records.read_entry.Goals as goal

-- no field is repeated, and kind and name are there, so the value's fault is the first
pub returns-in_err-value-clause-err : goal.returns-in_err-value-clause-err
returns-in_err-value-clause-err c =
    let p = err_from_is_err_and c.from_residual-in_err-value.result c.from_residual-in_err-value.ensures.1 in
    let once : repeats_field c.args.fields.now.all.now ≡ false = sym c.repeat.ensures ∙ c.if-repeat.false in
    let kind : HasKind c.args.fields.now.all.now c.in_ok-kind.kind = kind_there c.args.fields.now.all.now
    c.in_ok-kind.kind (sym c.read_kind.ensures ∙ c.in_ok-kind.was) in
    rw (p.1, p.2) (value_refused c.args.fields.now.all.now c.in_ok-kind.kind once kind c.in_ok-name.name
    c.in_ok-name.ensures.ok c.in_err-value.field-0.0 c.in_err-value.ensures.err)

-- no field is repeated, and kind, name and value have no fault, so that of the Prefix is the first
pub returns-in_err-prefixes-clause-err : goal.returns-in_err-prefixes-clause-err
returns-in_err-prefixes-clause-err c =
    let p = err_from_is_err_and c.from_residual-in_err-prefixes.result c.from_residual-in_err-prefixes.ensures.1 in
    let once : repeats_field c.args.fields.now.all.now ≡ false = sym c.repeat.ensures ∙ c.if-repeat.false in
    let kind : HasKind c.args.fields.now.all.now c.in_ok-kind.kind = kind_there c.args.fields.now.all.now
    c.in_ok-kind.kind (sym c.read_kind.ensures ∙ c.in_ok-kind.was) in
    rw (p.1, p.2) (prefix_refused c.args.fields.now.all.now c.in_ok-kind.kind once kind c.in_ok-name.name
    c.in_ok-name.ensures.ok c.in_ok-value.value c.in_ok-value.ensures.ok c.in_err-prefixes.field-0.0
    (rw c.all.ensures at c.in_err-prefixes.ensures.err))
