use Rattle.std.proofs.Common.{◌≡◌, ◌++◌, map, take, drop}
use Rattle.lt_rewrite.specs.ExtensionSettling.{untrue}
use Rattle.lt_rewrite.proofs.extension_settling.settle_u.Given as goal

-- the keywords before the index have lost an only type `true`, and those from the index on are as they were
abbrev pub invariant-loop-keyword : goal.invariant-loop-keyword
invariant-loop-keyword l = l.keyword-items ≡ map untrue (take l.keyword-index l.initial.keyword-items)
    ++ drop l.keyword-index l.initial.keyword-items
