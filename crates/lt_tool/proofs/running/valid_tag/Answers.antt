use Rattle.std.proofs.Common.{subst}
use Rattle.lt_tag.specs.Faults.{HasTag}
use Rattle.lt_registry.specs.Validity.{IsValid}
use Rattle.lt_registry.proofs.ValidityLaws.{valid_law}
use Rattle.lt_canon.specs.Refusals.{of_refusal, of_valid}
use Rattle.lt_canon.specs.TextAnswers.{IsValidityRefusal}
use Rattle.lt_canon.proofs.TextRefusals.{validity_refused}
use Rattle.lt_tool.proofs.running.valid_tag.Goals as goal

-- `validate` finds no fault, so the tag is valid: it has the form of a tag, as the clause `tag` of `extensions` says
pub returns-in-Ok-clause-valid : goal.returns-in-Ok-clause-valid
returns-in-Ok-clause-valid g c =
    subst (λ l. IsValid (g.L.Lookup.listed l) c.in_ok-tag.tag) c.table.ensures.value
    ((valid_law (g.L.Lookup.listed c.table.result.now) c.in_ok-tag.tag c.extensions.ensures.tag).1 c.in-Ok.ensures.ok)

-- the text is the tag, and its refusal is that of `validate`, as a refusal of a text
pub returns-in-Err-clause-refusal : goal.returns-in-Err-clause-refusal
returns-in-Err-clause-refusal g c =
    let a = c.in_ok-tag.ensures {u = tt} in
    let read : HasTag c.args.text.now c.in_ok-tag.tag = record { short = a.short; tag = a.tag; spelled = a.spelled } in
    let refused = validity_refused (g.L.Lookup.listed c.table.result.now) c.args.text.now c.in_ok-tag.tag
    c.in-Err.refused read (c.in-Err.ensures {u = tt}).err in
    rw (c.from-in-Err.ensures, c.from.ensures)
    (subst (λ l. IsValidityRefusal (g.L.Lookup.listed l) c.args.text.now (of_refusal (of_valid c.in-Err.refused)))
    c.table.ensures.value refused)
