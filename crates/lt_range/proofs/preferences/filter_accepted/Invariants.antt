use Rattle.lt_range.proofs.PreferenceLemmas.{AcceptsOn}
use Rattle.lt_range.proofs.preferences.filter_accepted.Given as goal

-- the places so far, with any after them that the ranges left accept, are what all ranges accept
abbrev pub invariant-loop-index : goal.invariant-loop-index
invariant-loop-index l = AcceptsOn l.all l.tags l.index l.places.items
