use Rattle.std.proofs.Common.{subst}
use Rattle.lt_answers.specs.Answering.{AreObjects}
use Rattle.lt_answers.proofs.AnsweringLemmas.{run_mapped}
use Rattle.lt_answers.proofs.answering.write_objects.Goals as goal

-- the clause AnswersByObjects: the run answered the lines as its last state tells, and the result is whether a line was
-- refused in that state
pub returns : goal.returns
returns g c =
    run_mapped (λ a. a.refused) _ (λ refused lines bytes. AreObjects (g.L.Lookup.listed c.args.checked.now) lines bytes refused)
    (λ a lines bytes q. subst (λ table. AreObjects (g.L.Lookup.listed table) lines bytes a.refused) q.0 q.1)
    g.R.Read.remaining g.W.Write.contents c.args.input.now c.run_lines-end.new.input c.args.output.now c.run_lines-end.new.output
    c.run_lines-end.result.0 c.run_lines-end.result.1 c.run_lines-end.ensures
