use Rattle.std.proofs.Common.{◌∙◌, ap}
use Rattle.lt_tool.specs.Codes.{code_of}
use Rattle.lt_tool.proofs.program.perform.Goals as goal

-- what the call did is what `carry_out` did, and the number is the code of the status in which that run ended
pub returns : goal.returns
returns g c =
    record {
      outcome = c.carry_out-outcome.result;
      performs = c.carry_out-outcome.ensures;
      status_is = c.code.ensures
          ∙ ap code_of c.status.ensures;
    }
