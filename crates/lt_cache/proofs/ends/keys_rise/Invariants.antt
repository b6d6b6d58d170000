use Rattle.std.proofs.Common.{◌≡◌, None, length, map}
use Rattle.lt_subtag.specs.Bytes.{folded}
use Rattle.lt_tag.specs.Lists.{list_of}
use Rattle.lt_tag.specs.Rest.{pieces_left}
use Rattle.lt_rewrite.specs.RisingKeys.{keys_rise}
use Rattle.lt_cache.proofs.ends.keys_rise.Given as goal

-- the keys of the text rise exactly if those that are left do, after the last key
abbrev pub invariant-loop-rest : goal.invariant-loop-rest
invariant-loop-rest l = keys_rise l.last (map folded (pieces_left l.rest)) ≡ keys_rise None (list_of l.fn.text)

-- a turn takes one of the pieces that are left
abbrev pub decreases-loop-rest : goal.decreases-loop-rest
decreases-loop-rest l = length (pieces_left l.rest)
