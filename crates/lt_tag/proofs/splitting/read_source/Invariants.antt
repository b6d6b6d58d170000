use Rattle.lt_tag.proofs.CompleteLemmas.{IsSourceSoFar}
use Rattle.lt_tag.proofs.splitting.read_source.Given as goal

-- the core has grown by the subtags so far
abbrev pub invariant-loop-subtag : goal.invariant-loop-subtag
invariant-loop-subtag l = IsSourceSoFar l.fn.subtags l.others l.subtag-index l.core
