use Rattle.std.proofs.Common.{inl, refl}
use Rattle.lt_tool.proofs.ResultLemmas.{gives_no_memory}
use Rattle.lt_tool.proofs.tag_commands.classify.Goals as goal

-- the text is no tag, and that is the fault
pub returns-in-Err : goal.returns-in-Err
returns-in-Err c = inl (c.in-Err.fault, (c.in-Err.ensures {u = tt}).fault, rw c.from.ensures refl)

-- the text is a tag, but memory ran out for the line
pub returns-in_err-line : goal.returns-in_err-line
returns-in_err-line c = gives_no_memory _ _ _ c.from_residual.ensures.1

-- the text is a tag, and the line tells its class
pub returns : goal.returns
returns c =
    let a = c.in-Ok.ensures {u = tt} in
    (c.in-Ok.tag, record { short = a.short; tag = a.tag; spelled = a.spelled }, (c.in_ok-line.line, c.in_ok-line.ensures, refl))
