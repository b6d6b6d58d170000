use Rattle.std.proofs.Common.{take}
use Rattle.lt_tag.specs.Keeping.{IsKept}
use Rattle.lt_tag.specs.Printing.{Prints}
use Rattle.lt_tag.proofs.writing.Style.put_all.Given as goal

-- the subtags so far were printed, and the sink keeps what it held
abbrev pub invariant-loop-subtag : goal.invariant-loop-subtag
invariant-loop-subtag g l = record {
  put : Prints g.S.Sink.took l.initial.text l.initial.self (take l.subtag-index l.subtags) l.text l.self;
  kept : IsKept (g.S.Sink.held l.initial.text) (g.S.Sink.held l.text);
}
