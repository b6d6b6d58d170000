use Rattle.lt_tag.specs.Faults.{HasTag}
use Rattle.lt_canon.proofs.TextRefusals.{validity_refused}
use Rattle.bcp47_c.proofs.texts.validity.Goals as goal

-- the text is a tag, and its refusal is that of `validate`, as a refusal of a text
pub returns-clause-refusal : goal.returns-clause-refusal
returns-clause-refusal c =
    let read : HasTag c.args.text.now c.in_ok-tag.tag = (c.in_ok-tag.ensures {u = tt}).tag in
    rw (c.from-in-Err.ensures, c.from.ensures) (validity_refused c.args.registry.now c.args.text.now c.in_ok-tag.tag
    c.in-Err.refused read ((c.in-Err.ensures {u = tt}).err))
