use Rattle.std.proofs.Common.{take}
use Rattle.std.specs.List.{AllByRecursion}
use Rattle.lt_registry.specs.Validity.{HasDistinctSource}
use Rattle.lt_canon.proofs.repeats.second_in_sources.Given as goal

-- the sources so far repeat no variant
abbrev pub invariant-loop-extension : goal.invariant-loop-extension
invariant-loop-extension l = AllByRecursion HasDistinctSource (take l.extension-index l.extensions)
