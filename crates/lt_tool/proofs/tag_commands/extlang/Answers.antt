use Rattle.std.proofs.Common.{refl}
use Rattle.lt_tool.proofs.ResultLemmas.{gives_no_memory, gives_text_fault, registry_had, registry_refused}
use Rattle.lt_tool.proofs.tag_commands.extlang.Goals as goal

-- the registry is refused, and that is the fault
pub returns-in_err-checked : goal.returns-in_err-checked
returns-in_err-checked g c = registry_refused _ _ _ _ c.in_err-checked.ensures c.from_residual.ensures.1

-- the registry is had, but the text has no extlang form
pub returns-in_err-extlang : goal.returns-in_err-extlang
returns-in_err-extlang g c =
    registry_had _ _ _ _ c.in_ok-checked.ensures (gives_text_fault _ _ _ _ c.in_err-extlang.ensures.refusal
    c.from_residual-in_err-extlang.ensures.1)

-- the registry is had, but memory ran out for the line
pub returns-in_err-line : goal.returns-in_err-line
returns-in_err-line g c = registry_had _ _ _ _ c.in_ok-checked.ensures (gives_no_memory _ _ _ c.from_residual-in_err-line.ensures.1)

-- the registry is had, and the line is the extlang form with a line feed after it
pub returns : goal.returns
returns g c = registry_had _ _ _ _ c.in_ok-checked.ensures (
  c.in_ok-extlang.extlang.items,
  c.in_ok-extlang.ensures.written,
  (c.in_ok-line.line, c.in_ok-line.ensures, refl),
)
