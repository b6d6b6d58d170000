use Rattle.std.proofs.Common.{inl, inr, refl}
use Rattle.std.proofs.lemmas.Result.{err_from_is_err_and}
use Rattle.lt_tool.proofs.ResultLemmas.{registry_had, registry_refused}
use Rattle.lt_tool.proofs.headers.plan_serve.Goals as goal

-- the registry is refused, and the header is not read
pub returns-in_err-checked : goal.returns-in_err-checked
returns-in_err-checked g c = registry_refused _ _ _ _ c.in_err-checked.ensures c.from_residual.ensures.1

-- the registry is had, but memory runs out before it is prepared
pub returns-in_err-table : goal.returns-in_err-table
returns-in_err-table g c =
    let p = err_from_is_err_and c.from_residual-in_err-table.result c.from_residual-in_err-table.ensures.1 in
    registry_had _ _ _ _ c.in_ok-checked.ensures (rw (p.1, p.2) (inr c.in_err-table.ensures.fault))

-- the registry is had, and the header gives the preferences
pub returns-in-Ok : goal.returns-in-Ok
returns-in-Ok g c =
    registry_had _ _ _ _ c.in_ok-checked.ensures (
      c.in-Ok.preferences,
      rw c.in_ok-table.ensures.table at c.in-Ok.ensures.preferences,
      rw c.in_ok-table.ensures.table refl,
    )

-- the registry is had, but the header is refused
pub returns : goal.returns
returns g c =
    registry_had _ _ _ _ c.in_ok-checked.ensures (inl
    (c.in-Err.refusal, rw c.in_ok-table.ensures.table at c.in-Err.ensures.refusal, c.fault_of.ensures))
