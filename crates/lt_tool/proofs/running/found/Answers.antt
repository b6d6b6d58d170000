use Rattle.std.proofs.Common.{refl}
use Rattle.lt_tool.proofs.ResultLemmas.{gives_no_memory}
use Rattle.lt_tool.proofs.running.found.Goals as goal

-- memory ran out for the line feed
pub returns-in_err-text : goal.returns-in_err-text
returns-in_err-text c = gives_no_memory _ _ _ c.from_residual.ensures.1

-- the text is the line with a line feed after it
pub returns : goal.returns
returns c = (c.in_ok-text.text, c.in_ok-text.ensures, refl)
