use Rattle.lt_rewrite.proofs.PartRuns.{IsBareSoFar}
use Rattle.lt_rewrite.proofs.unicode_explaining.drop_trues.Given as goal

-- the keywords before the index have lost an only type `true`, and the steps of that are added
abbrev pub invariant-loop-index : goal.invariant-loop-index
invariant-loop-index l = IsBareSoFar l.start l.fn.keywords.items l.keywords.items l.fn.steps.items l.steps.items l.index l.here
