use Rattle.std.proofs.Common.{◌≡◌, None, sym, ap, ◌∙◌, arith}
use Rattle.lt_tag.specs.Parts.{TForm}
use Rattle.lt_canon.proofs.RepeatedVariants.{of_parts, of_source, distinct_subtags}
use Rattle.lt_canon.proofs.repeats.second_in_source.Goals as goal

-- what is found is the variant that the extension repeats, or it repeats none: the source of the parts is the one
-- source of the extension
pub returns-in-Some : goal.returns-in-Some
returns-in-Some c =
    of_source c.args.extension.now c.in-Ok.parts c.in-Some.source c.variants.result.now
    c.second_occurrence-in-Some.result (omega arith) c.in-Ok.ensures.parts
    (sym (ap (λ (t : TForm). t.source) c.parts.view_is) ∙ c.in-Some.is) c.variants.ensures.value c.second_occurrence-in-Some.ensures

-- None is right: the parts have no source, so the extension repeats no variant in one
pub returns-in-Ok : goal.returns-in-Ok
returns-in-Ok c =
    of_parts c.args.extension.now c.in-Ok.parts c.in-Ok.ensures.parts
    (rw (sym (ap (λ (t : TForm). t.source) c.parts.view_is) ∙ c.in-None.is) tt)

-- None is right: no subtag of the extension occurs twice, so no variant of its source does
pub returns-then-is_none : goal.returns-then-is_none
returns-then-is_none c =
    let none : c.second_occurrence.result ≡ None = let told = c.if-is_none.ensures {u = tt} in grind arith in
    distinct_subtags c.args.extension.now (rw (none, c.subtags.ensures.value) at c.second_occurrence.ensures)
