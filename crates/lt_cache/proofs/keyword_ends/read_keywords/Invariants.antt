use Rattle.std.proofs.Common.{◌≡◌, ◌++◌, length, map}
use Rattle.std.specs.Prelude.{flat_map}
use Rattle.std.specs.List.{AllByRecursion}
use Rattle.lt_subtag.specs.Bytes.{folded}
use Rattle.lt_tag.specs.Extensions.{spell_keyword, IsKeyword}
use Rattle.lt_tag.specs.Lists.{list_of}
use Rattle.lt_tag.specs.Rest.{pieces_left}
use Rattle.lt_cache.proofs.keyword_ends.read_keywords.Given as goal

-- the keywords so far, and what is left, are the text
abbrev pub invariant-loop-rest : goal.invariant-loop-rest
invariant-loop-rest l = (flat_map spell_keyword l.keywords.items ++ map folded (pieces_left l.rest) ≡ list_of l.fn.text)
    × AllByRecursion IsKeyword l.keywords.items

-- a turn takes one of the pieces that are left
abbrev pub decreases-loop-rest : goal.decreases-loop-rest
decreases-loop-rest l = length (pieces_left l.rest)
