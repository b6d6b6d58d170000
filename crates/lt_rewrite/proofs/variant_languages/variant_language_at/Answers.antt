use Rattle.std.proofs.Common.{sym, ap, ◌∙◌}
use Rattle.std.specs.Option.{option_copied}
use Rattle.lt_registry.specs.declared.entries.Kind.TheVariants as kinds
use Rattle.lt_rewrite.proofs.Forms.{form_under, short_value_form}
use Rattle.lt_rewrite.proofs.variant_languages.variant_language_at.Goals as goal

-- the value is that of a variant, and short, so it has the form of a language
pub returns-in-Some-one_value-clause-form : goal.returns-in-Some-one_value-clause-form
returns-in-Some-one_value-clause-form g c =
    short_value_form c.in-Some-one_value.value.now
    (form_under (g.L.Lookup.listed c.args.table.now) kinds.Variant c.args._variant.now c.in-Some.entry.now
    c.in-Some-one_value.value.now (sym c.requires ∙ sym c.entry_at.ensures ∙ ap option_copied c.in-Some.is)
    c.in-Some-one_value.ensures.form)
    (sym c.is_short.ensures ∙ c.if-is_short.true)
