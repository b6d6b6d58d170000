use Rattle.std.proofs.Common.{◌≡◌, None, Some, ap, ◌∙◌, arith}
use Rattle.lt_tag.specs.Values.{core_of}
use Rattle.lt_check.proofs.CheckedRegistry.{value_plain}
use Rattle.lt_canon.proofs.TraceLemmas.{value_rests_by}
use Rattle.lt_canon.proofs.explaining.explain_whole.Goals as goal

-- the arm of a value without a core is never reached: that of a whole record is a core alone (C9)
pub returns-in_default-core : goal.returns-in_default-core
returns-in_default-core g c =
    let found = c.in-Some.ensures {u = tt} in
    let gives = c.in-Some-tag_value.ensures {u = tt} in
    let plain = value_plain (g.L.Lookup.listed c.args.table.now) c.requires.checked c.args.tag.now
    c.in-Some-tag_value.value.now (grind arith) in
    let none : None ≡ Some plain.core = (c.in_default-core.ensures {u = tt}).value ∙ ap core_of plain.is in
    cc

-- The steps that were added lead, each the first, to a tag at rest: Whole comes first, since the core is at rest, and
-- after the steps on the core of the value none leads on (C10).
pub returns : goal.returns
returns g c =
    let given = c.in_ok-steps.ensures {u = tt} in
    value_rests_by (g.L.Lookup.listed c.args.table.now) c.requires.checked c.args.tag.now c.in-Some-tag_value.value.now
    c.in-Some.entry.now c.in-Some-core.core.now _ c.in_ok-steps.field-0-0 _ c.args.steps.items c.push.new.self.items
    c.in_ok-steps.steps.items c.requires.proper c.requires.plain c.requires.at_rest
    (c.in-Some.ensures {u = tt}) (c.in-Some-tag_value.ensures {u = tt}) (c.in-Some-core.ensures {u = tt}).value
    (c.in_ok-copy.ensures {u = tt}) c.number.ensures.value (c.in_ok-push.ensures {u = tt}).items given.adds
    given.at_rest
