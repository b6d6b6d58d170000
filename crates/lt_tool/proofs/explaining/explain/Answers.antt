use Rattle.std.proofs.Common.{inl, refl}
use Rattle.lt_tool.proofs.ExplainedLemmas.{explained}
use Rattle.lt_tool.proofs.ResultLemmas.{is_fault}
use Rattle.lt_tool.proofs.explaining.explain.Goals as goal

-- the text has no explanation: its refusal is given, and nothing is written
pub returns-in_err-left : goal.returns-in_err-left
returns-in_err-left g c =
    inl (c.in_err-left.field-0.0, (c.in_err-left.ensures {u = tt}).refusal, refl, is_fault _ _ c.from_residual.ensures.1)

-- the text has an explanation, and all of it is written, or what can be before a write fails or memory runs out
pub returns : goal.returns
returns g c =
    rw c.written.ensures (explained _ _ _ _ _ (c.in_ok-left.ensures {u = tt}).whole (rw c.new-2.ensures.items at c.write_lines.ensures))
