use Rattle.std.proofs.Common.{◌≡◌, ◌++◌, drop}
use Rattle.std.specs.List.{filter_map}
use Rattle.lt_registry.specs.Prefixes.{single_of}
use Rattle.lt_registry.proofs.prefixes.singles.Given as goal

-- the numbers so far, and those of the Prefixes that are left, are those of all Prefixes that are one subtag
abbrev pub invariant-loop-prefix : goal.invariant-loop-prefix
invariant-loop-prefix l = l.numbers.items ++ filter_map single_of (drop l.prefix-index l.prefixes) ≡ filter_map single_of l.prefixes
