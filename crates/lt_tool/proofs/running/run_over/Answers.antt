use Rattle.std.proofs.Common.{subst}
use Rattle.lt_lines.specs.Owed.{terms}
use Rattle.lt_lines.specs.Running.{RunsLines}
use Rattle.lt_tool.proofs.ResultLemmas.{codes_lent}
use Rattle.lt_tool.proofs.running.run_over.Goals as goal

-- the lines are answered by the registry and the table of the ground: the basis that is given to `run_tallied`
-- borrows both
pub returns : goal.returns
returns g c = record {
  end = c.run_tallied-end.result;
  all = c.run_tallied-end.new.tallies;
  runs = subst (λ l. RunsLines (terms (record { entries = c.args.ground.now.checked; codes = l }) c.args.form)
      g.I.Read.remaining g.O.Write.contents c.args.input.now c.run_tallied-end.new.input c.args.output.now
      c.run_tallied-end.new.output c.run_tallied-end.new.tallies c.run_tallied-end.result)
      (codes_lent c.as_ref.result c.args.ground.now.codes c.as_ref.ensures.value) c.run_tallied-end.ensures;
  tallied = c.drop_unknown.ensures;
  ends = c.counted.ensures;
}
