use Rattle.std.proofs.Common.{◌≡◌, None, drop}
use Rattle.lt_rewrite.specs.RisingKeys.{keys_rise}
use Rattle.lt_rewrite.proofs.rising_keys.keys_rise.Given as goal

-- the subtags that are left pass the test, after the key `last`, exactly if all subtags pass it from the start
abbrev pub invariant-loop-subtag : goal.invariant-loop-subtag
invariant-loop-subtag l = keys_rise l.last (drop l.subtag-index l.subtags) ≡ keys_rise None l.subtags
