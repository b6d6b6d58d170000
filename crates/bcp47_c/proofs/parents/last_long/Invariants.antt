use Rattle.std.proofs.Common.{◌≡◌, drop}
use Rattle.std.specs.Prelude.{None}
use Rattle.std.specs.Option.{option_copied}
use Rattle.bcp47_c.specs.Parents.{last_long}
use Rattle.bcp47_c.proofs.parents.last_long.Given as goal

-- what is found so far, and in the parts that are left, is what is found
abbrev pub invariant-loop-part : goal.invariant-loop-part
invariant-loop-part l = last_long (option_copied l.last) (drop l.part-index l.parts) ≡ last_long None l.parts
