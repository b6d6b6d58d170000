use Rattle.std.proofs.Common.{sym, ap, ◌∙◌}
use Rattle.std.specs.Option.{option_copied}
use Rattle.lt_rewrite.proofs.Forms.{each_form_under}
use Rattle.lt_rewrite.proofs.core_applying.value_by.Goals as goal

-- the value has the form of the values of its entry's kind, which is the kind under which the entry was found
pub returns-in-Some-clause-form : goal.returns-in-Some-clause-form
returns-in-Some-clause-form g c =
    each_form_under (g.L.Lookup.listed c.args.table.now) c.args.kind c.args.subtag.now c.in-Some.entry.now
    c.one_value.result (sym c.entry.ensures ∙ ap option_copied c.in-Some.is) c.one_value.ensures.form
