use Rattle.std.proofs.Common.{length}
use Rattle.lt_tag.specs.Splitting.{keywords_of}
use Rattle.lt_tag.proofs.SplitLemmas.{AreKeywords}
use Rattle.lt_tag.proofs.splitting.read_keywords.Given as goal

-- the keywords so far and those of what is left are all
abbrev pub invariant-loop-key : goal.invariant-loop-key
invariant-loop-key l = AreKeywords (keywords_of l.fn.subtags) l.keywords.items l.rest

-- the subtags that are left get fewer with each turn, so the loop ends
abbrev pub decreases-loop-key : goal.decreases-loop-key
decreases-loop-key l = length l.rest
