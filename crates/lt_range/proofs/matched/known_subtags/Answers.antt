use Rattle.lt_canon.specs.declared.refusals.TextRefusal.TheVariants as refusals
use Rattle.lt_range.proofs.PlainRanges.{none_of}
use Rattle.lt_range.proofs.matched.known_subtags.Goals as goal

-- the text is no tag, so it has no extlang form
pub returns-in-Err-NotATag : goal.returns-in-Err-NotATag
returns-in-Err-NotATag g c =
    let a = c.in-Err-NotATag in
    none_of (g.L.Lookup.listed c.args.table.now) c.args.text.now a.field-0 (refusals.NotATag a.field-0-0) a.field-0-is
    a.ensures.refusal (λ e. cc)

-- the text is no valid tag, so it has no extlang form
pub returns-in-Err-Invalid : goal.returns-in-Err-Invalid
returns-in-Err-Invalid g c =
    let a = c.in-Err-Invalid in
    none_of (g.L.Lookup.listed c.args.table.now) c.args.text.now a.field-0 (refusals.Invalid a.field-0-0) a.field-0-is
    a.ensures.refusal (λ e. cc)

-- steps can repeat a variant of the tag, so it has no extlang form
pub returns-in-Err-ReplacementRepeats : goal.returns-in-Err-ReplacementRepeats
returns-in-Err-ReplacementRepeats g c =
    let a = c.in-Err-ReplacementRepeats in
    none_of (g.L.Lookup.listed c.args.table.now) c.args.text.now a.field-0 (refusals.ReplacementRepeats a.field-0-0)
    a.field-0-is a.ensures.refusal (λ e. cc)
