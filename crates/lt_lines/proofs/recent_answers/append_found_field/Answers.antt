use Rattle.std.proofs.Common.{◌∙◌}
use Rattle.lt_lines.specs.declared.forms.LineForm.TheVariants as forms
use Rattle.lt_lines.proofs.TextLemmas.{put_appended}
use Rattle.lt_lines.proofs.recent_answers.append_found_field.Goals as goal

-- the clause `recent` where a canonical text was worked out: what is put with the others is the text that was appended,
-- so all stay right
pub returns-in-Ok-clause-recent : goal.returns-in-Ok-clause-recent
returns-in-Ok-clause-recent g c = λ recent.
    let a = c.in-Ok.ensures.appended recent.ends in
    record {
      whole = put_appended (g.L.Lookup.listed c.args.checked.now) (forms.Row c.args.row) _ _ _ a.canonical
          c.args.lines.now.items c.append_canonical_text.new.texts.items c.deref.result.now c.len-start.result _
          c.put.ensures
          c.deref.ensures.value (c.len-start.ensures ∙ c.args.lines.now.ok.0) a.grown a.is_canonical recent.whole;
      ends = c.in-Ok.ensures.ends recent.ends;
    }
