use Rattle.std.proofs.Common.{◌∙◌, ap, refl}
use Rattle.lt_tool.specs.Codes.{code_of}
use Rattle.lt_terminal.proofs.run.run_for_people.Goals as goal

-- the words name no command: nothing is opened or read, and the report says why
pub returns-in-Err-clause-runs : goal.returns-in-Err-clause-runs
returns-in-Err-clause-runs g c = rw c.in-Err.is (record {
  outcome = c.report.result;
  comes_to = (refl, c.report.ensures.unread, c.report.ensures.ends);
  status_is = c.code.ensures ∙ ap code_of c.status.ensures;
})

-- the words name a command, and the run comes to what the program does, whatever people are told besides
pub returns-clause-runs : goal.returns-clause-runs
returns-clause-runs g c = rw c.in-Ok.is (record {
  outcome = c.run_program-outcome.result;
  comes_to = c.run_program-outcome.ensures;
  status_is = c.code-2.ensures ∙ ap code_of c.status-2.ensures;
})
