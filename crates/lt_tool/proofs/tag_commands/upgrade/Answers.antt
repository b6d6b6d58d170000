use Rattle.std.proofs.Common.{Err, Ok, inl, inr, refl}
use Rattle.lt_tool.proofs.ResultLemmas.{is_fault}
use Rattle.lt_tool.proofs.tag_commands.upgrade.Goals as goal

-- the older registry is refused, and the newer one is not read
pub returns-in_err-older : goal.returns-in_err-older
returns-in_err-older g c = record {
  older = Err c.in_err-older.field-0.0;
  reads_older = c.in_err-older.ensures;
  unread = refl;
  goes_on = is_fault _ _ c.from_residual.ensures.1;
}

-- the older registry is had, but the newer one is refused
pub returns-in_err-newer : goal.returns-in_err-newer
returns-in_err-newer g c = record {
  older = Ok c.in_ok-older.older;
  reads_older = c.in_ok-older.ensures;
  unread = tt;
  goes_on = (Err c.in_err-newer.field-0.0, c.in_err-newer.ensures, is_fault _ _ c.from_residual-in_err-newer.ensures.1);
}

-- both registries are had, and the newer one upgrades the older one
pub returns-in-Ok : goal.returns-in-Ok
returns-in-Ok g c = record {
  older = Ok c.in_ok-older.older;
  reads_older = c.in_ok-older.ensures;
  unread = tt;
  goes_on = (Ok c.in_ok-newer.newer, c.in_ok-newer.ensures, ((c.in-Ok.ensures {u = tt}).upgrades, refl));
}

-- both registries are had, and this condition fails by this record
pub returns-in-Err-Fails : goal.returns-in-Err-Fails
returns-in-Err-Fails g c = record {
  older = Ok c.in_ok-older.older;
  reads_older = c.in_ok-older.ensures;
  unread = tt;
  goes_on = (
    Ok c.in_ok-newer.newer,
    c.in_ok-newer.ensures,
    inl (
      c.in-Err-Fails.condition,
      c.in-Err-Fails.number,
      rw c.in-Err-Fails.field-0-is at
          (c.in-Err-Fails.ensures {u = tt}).fault,
      refl,
    ),
  );
}

-- both registries are had, but memory ran out in the comparison
pub returns : goal.returns
returns g c = record {
  older = Ok c.in_ok-older.older;
  reads_older = c.in_ok-older.ensures;
  unread = tt;
  goes_on = (Ok c.in_ok-newer.newer, c.in_ok-newer.ensures, inr c.from.ensures);
}
