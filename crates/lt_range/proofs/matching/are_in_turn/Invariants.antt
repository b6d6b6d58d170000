use Rattle.std.proofs.Common.{drop}
use Rattle.lt_range.specs.Matching.{AreInTurn}
use Rattle.lt_range.proofs.matching.are_in_turn.Given as goal

-- all subtags are in turn in the list exactly if those left are in turn in what is left of it
abbrev pub invariant-loop-subtag : goal.invariant-loop-subtag
invariant-loop-subtag l = record {
  next : AreInTurn l.named l.list → AreInTurn (drop l.subtag-index l.named) l.rest;
  back : AreInTurn (drop l.subtag-index l.named) l.rest → AreInTurn l.named l.list;
}
