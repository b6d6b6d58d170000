use Rattle.std.proofs.lemmas.Result.{err_from_is_err_and}
use Rattle.lt_tag.proofs.PartsLemmas.{t_split, source_fault, field_fault}
use Rattle.lt_tag.proofs.splitting.split_t.Goals as goal

-- what is before the first separator is no core, so no parts spell the extension
pub returns-in_err-read_source-clause-fault : goal.returns-in_err-read_source-clause-fault
returns-in_err-read_source-clause-fault c =
    let p = err_from_is_err_and c.from_residual.result c.from_residual.ensures.1 in
    rw (p.1, p.2) (source_fault c.in_err-read_source.field-0.0 c.args.extension.now.subtags _ _
    c.subtags-subtags.ensures.value c.before_separator.ensures.front c.in_err-read_source.ensures.fault)

-- a field has no values, or one of another form, so no parts spell the extension
pub returns-in_err-read_fields-clause-fault : goal.returns-in_err-read_fields-clause-fault
returns-in_err-read_fields-clause-fault c =
    let p = err_from_is_err_and c.from_residual-in_err-read_fields.result c.from_residual-in_err-read_fields.ensures.1 in
    rw (p.1, p.2) (field_fault c.in_err-read_fields.field-0.0 c.args.extension.now.subtags _ _
    c.subtags-subtags.ensures.value c.before_separator.ensures.rest c.in_err-read_fields.ensures.fault)

-- the source is before the first separator, and the fields from it on: together they spell the extension
pub returns-clause-parts : goal.returns-clause-parts
returns-clause-parts c =
    t_split c.args.extension.now _ _ _ _ _ c.subtags-subtags.ensures.extension c.subtags-subtags.ensures.value
    c.before_separator.ensures.front c.before_separator.ensures.rest c.in_ok-read_source.ensures.source
    c.in_ok-read_fields.ensures.fields c.in_ok-read_fields.ensures.values

-- the parts spell the subtags of the extension, which are at most 1,024
pub returns-clause-few : goal.returns-clause-few
returns-clause-few c =
    let parts = t_split c.args.extension.now _ _ _ _ _ c.subtags-subtags.ensures.extension
    c.subtags-subtags.ensures.value c.before_separator.ensures.front c.before_separator.ensures.rest
    c.in_ok-read_source.ensures.source c.in_ok-read_fields.ensures.fields c.in_ok-read_fields.ensures.values in
    rw parts.spelled c.subtags-subtags.ensures.extension.subtags
