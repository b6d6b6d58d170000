use Rattle.std.proofs.Common.{◌∙◌}
use Rattle.lt_lines.specs.declared.forms.LineForm.TheVariants as forms
use Rattle.lt_lines.proofs.TextLemmas.{put_appended}
use Rattle.lt_lines.proofs.recent_answers.append_found.Goals as goal

-- the clause `recent` where an answer was worked out: it is right, so with it all stay so
pub returns-clause-recent : goal.returns-clause-recent
returns-clause-recent g c = λ recent.
    let a = (c.in_ok-refused.ensures {u = tt}).owed recent.ends in
    record {
      whole = put_appended (g.L.Lookup.listed c.args.checked.now) forms.Tag _ _ _ a.bytes c.args.lines.now.items
          c.append_answer.new.lines.items c.deref.result.now c.len-start.result c.in_ok-refused.refused c.put.ensures
          c.deref.ensures.value (c.len-start.ensures ∙ c.args.lines.now.ok.0) a.grown a.owed recent.whole;
      ends = c.append_answer.ensures.ends recent.ends;
    }
