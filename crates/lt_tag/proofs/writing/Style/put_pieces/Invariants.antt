use Rattle.std.proofs.Common.{◌≡◌, ◌++◌, List, ℕ, length}
use Rattle.lt_tag.specs.Lists.{pieces}
use Rattle.lt_tag.specs.Keeping.{IsKept}
use Rattle.lt_tag.specs.Printing.{Prints}
use Rattle.lt_tag.proofs.writing.Style.put_pieces.Given as goal

-- some first pieces, `front`, were printed, and `rest` has the others; the sink keeps what it held
abbrev pub invariant-loop-others : goal.invariant-loop-others
invariant-loop-others g l = record {
  put : (front : List (List ℕ)) × (front ++ pieces l.rest ≡ pieces l.bytes)
      × Prints g.S.Sink.took l.initial.text l.initial.self front l.text l.self;
  kept : IsKept (g.S.Sink.held l.initial.text) (g.S.Sink.held l.text);
}

-- the bytes that are left get fewer with each turn, so the loop ends
abbrev pub decreases-loop-others : goal.decreases-loop-others
decreases-loop-others g l = length l.rest
