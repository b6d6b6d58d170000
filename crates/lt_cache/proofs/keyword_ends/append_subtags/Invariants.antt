use Rattle.std.proofs.Common.{◌≡◌, ◌++◌, take}
use Rattle.std.specs.Prelude.{flat_map}
use Rattle.lt_cache.specs.KeywordEnds.{hyphened}
use Rattle.lt_cache.proofs.keyword_ends.append_subtags.Given as goal

-- `texts` are what they were, and then the subtags so far, each after a hyphen
abbrev pub invariant-loop-subtag : goal.invariant-loop-subtag
invariant-loop-subtag l = l.texts.items ≡ l.initial.texts.items ++ flat_map hyphened (take l.subtag-index l.subtags)
