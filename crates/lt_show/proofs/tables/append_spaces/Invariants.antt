use Rattle.std.proofs.Common.{◌≡◌, ◌++◌, replicate}
use Rattle.lt_show.proofs.tables.append_spaces.Given as goal

-- as many spaces as turns so far were appended
abbrev pub invariant-loop : goal.invariant-loop
invariant-loop l = l.told.items ≡ l.fn.told.items ++ replicate l.counter 32
