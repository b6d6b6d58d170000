use Rattle.std.proofs.Common.{◌∙◌, ap, sym}
use Rattle.lt_tag.specs.Splitting.{are_values}
use Rattle.lt_tag.proofs.SplitLemmas.{fields_begin, fields_next, fields_fail, fields_end}
use Rattle.lt_tag.proofs.splitting.read_fields.Goals as goal

-- before the loop no field is read, and the subtags from the first separator on are left
pub loop-separator-init : goal.loop-separator-init
loop-separator-init c = fields_begin c.args.subtags.now _ _ c.new-fields.ensures.items c.before_separator.ensures.rest

-- BadTransform is right: this separator has no values after it, or one of another form, so not all fields have values
pub returns-then-not-are_values-clause-fault : goal.returns-then-not-are_values-clause-fault
returns-then-not-are_values-clause-fault c =
    fields_fail _ _ _ c.in-Some.separator.now c.in-Some.others.now _ c.loop-separator.invariant
    c.in-Some.ensures.cases.0 c.before_separator-in-Some.ensures.front (sym c.are_values.ensures
    ∙ c.if-not-are_values.true)

-- a turn reads one field more: the separator, and the subtags up to the next separator
pub loop-separator-preserved : goal.loop-separator-preserved
loop-separator-preserved c =
    let split = c.in-Some.ensures.cases in
    fields_next _ _ _ _ c.in-Some.separator.now c.in-Some.others.now _ _ c.loop-separator.invariant split.0
    (c.in_ok-copy_subtags.ensures ∙ c.before_separator-in-Some.ensures.front) c.before_separator-in-Some.ensures.rest
    (ap are_values c.in_ok-copy_subtags.ensures ∙ sym c.are_values.ensures ∙ c.if-not-are_values.false)
    (rw c.copy.ensures at c.in_ok-push.ensures.items)

-- no subtag is left, so the fields read are all
pub returns-clause-fields : goal.returns-clause-fields
returns-clause-fields c = (fields_end _ _ _ c.loop-separator.invariant c.in_default.ensures.cases).0

-- each field was read only after its values had been checked
pub returns-clause-values : goal.returns-clause-values
returns-clause-values c = (fields_end _ _ _ c.loop-separator.invariant c.in_default.ensures.cases).1
