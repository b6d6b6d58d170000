use Rattle.std.proofs.Common.{◌≡◌, ◌++◌, take}
use Rattle.std.specs.Prelude.{flat_map}
use Rattle.lt_tag.specs.Extensions.{spell_keyword}
use Rattle.lt_cache.specs.KeywordEnds.{hyphened}
use Rattle.lt_cache.proofs.keyword_ends.append_keywords.Given as goal

-- `texts` are what they were, and then the subtags of the keywords so far, each after a hyphen
abbrev pub invariant-loop-keyword : goal.invariant-loop-keyword
invariant-loop-keyword l = l.texts.items ≡ l.initial.texts.items ++ flat_map hyphened (flat_map spell_keyword
    (take l.keyword-index l.keywords))
