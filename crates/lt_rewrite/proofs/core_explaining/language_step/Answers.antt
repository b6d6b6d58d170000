use Rattle.std.proofs.Common.{Some, refl, sym, ap, ◌∙◌}
use Rattle.std.specs.Option.{option_copied}
use Rattle.lt_registry.specs.Entries.{entry, preferred_value, number_of}
use Rattle.lt_registry.specs.declared.entries.Kind.TheVariants as kinds
use Rattle.lt_rewrite.specs.CoreSteps.{at_language}
use Rattle.lt_rewrite.proofs.CoreSteps.{none_of, there_alone}
use Rattle.lt_rewrite.proofs.CoreLeading.{first_part}
use Rattle.lt_rewrite.proofs.core_explaining.language_step.Goals as goal

-- there are no extlangs, and the language has a value, so this is the one Language step
pub returns : goal.returns
returns g c =
    let R = g.L.Lookup.listed c.args.table.now in
    let core = c.args.core.now in
    let same = c.language-language.ensures.value in
    first_part R c.args.start core _ at_language core.language c.in_ok-value.field-0.now tt refl refl
    (c.record_number.ensures ∙ ap (λ l. number_of (entry R kinds.Language l)) same)
    (there_alone core (Some core.language) core.language (sym c.extlangs.ensures.value
    ∙ none_of c.extlangs.result.now (sym c.is_empty.ensures ∙ c.if-not-is_empty.false)) refl)
    (ap (preferred_value R kinds.Language) (sym same) ∙ sym c.value.ensures.value ∙ ap option_copied c.in_ok-value.was)
