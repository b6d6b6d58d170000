use Rattle.std.proofs.Common.{[], ◌∷◌, inl, inr, refl}
use Rattle.lt_stream.proofs.LinedLemmas.{taken_none}
use Rattle.lt_stream.proofs.TextRunLemmas.{runs_text}
use Rattle.lt_stream.proofs.texts.run_text.Goals as goal

-- `run_pieces` requires `IsTakenText` of a run that has not begun: no byte waits, and no bytes may become a mark, as
-- that of UTF-8 (239, 187, 191)
pub run_pieces-end-requires : goal.run_pieces-end-requires
run_pieces-end-requires g c = inr (record {
  begun = refl;
  kept = c.new.ensures.items;
  may_be = inl (239, 187 ∷ 191 ∷ [], refl);
  untouched = refl;
  taken = taken_none g.A.Lines.answered c.new-2.result.answers _ _ _ c.new-2.result c.requires.some c.new-2.ensures.kept
      c.new-2.ensures.owed (rw c.new-2.ensures.answers c.requires.first);
})

-- the clause `RunsOverText`: the run over pieces that `run_pieces` promises is a run over the lines of the text
pub returns : goal.returns
returns g c = rw (c.into_answers.ensures, ← c.new-2.ensures.answers) (runs_text _ _ _ _ _ _ _ _ _ _ c.run_pieces-end.ensures)
