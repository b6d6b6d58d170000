use Rattle.std.proofs.Common.{take}
use Rattle.lt_tag.specs.Spelling.{spell_extensions}
use Rattle.lt_tag.specs.Keeping.{IsKept}
use Rattle.lt_tag.specs.Printing.{Prints}
use Rattle.lt_tag.proofs.writing.Style.put_extensions.Given as goal

-- the extensions so far were printed, and the sink keeps what it held
abbrev pub invariant-loop-extension : goal.invariant-loop-extension
invariant-loop-extension g l = record {
  put : Prints g.S.Sink.took l.initial.text l.initial.self (spell_extensions (take l.extension-index l.extensions)) l.text l.self;
  kept : IsKept (g.S.Sink.held l.initial.text) (g.S.Sink.held l.text);
}
