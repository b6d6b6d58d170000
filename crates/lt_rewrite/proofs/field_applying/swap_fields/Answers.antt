use Rattle.lt_rewrite.proofs.ExtensionLeading.{to_fields, fields_answers}
use Rattle.lt_rewrite.proofs.field_applying.swap_fields.Goals as goal

-- false is right: a SwapFields step uses no record, so its number is 0
pub returns-then-step-ne0 : goal.returns-then-step-ne0
returns-then-step-ne0 c = λ R q l. c.if-step-ne0.true
    (to_fields R c.args.start c.args.parts.now c.args.step q c.requires.kind l).0.unnumbered

-- a SwapFields step is an exchange on the fields, which begin after the source
pub returns : goal.returns
returns c = λ R.
    rw c.parts.view_is at
    (fields_answers R c.args.start (record { source = c.parts.inside.source; fields = c.parts.inside.fields.items })
    c.args.step c.requires.kind c.if-step-ne0.false c.swap_at.new.parts.items c.swap_at.result
    (rw c.source_length.ensures.value at c.swap_at.ensures))
