use Rattle.lt_stream.proofs.LinedLemmas.{taken_none}
use Rattle.lt_stream.proofs.LineRunLemmas.{runs_over}
use Rattle.lt_stream.proofs.lines.run_lines.Goals as goal

-- `run_pieces` requires `IsTaken` of a run that has not begun: nothing is read, kept or answered
pub run_pieces-end-requires : goal.run_pieces-end-requires
run_pieces-end-requires g c =
    let made = c.new-lined.ensures in
    taken_none g.A.Lines.answered c.new-lined.result.answers _ _ _ c.new-lined.result c.requires.some made.kept
    made.owed (rw made.answers c.requires.first)

-- the clause `RunsOverLines`: the run over pieces that `run_pieces` promises is a run over their lines
pub returns : goal.returns
returns g c = rw (c.into_answers.ensures, ← c.new-lined.ensures.answers) (runs_over _ _ _ _ _ _ _ _ _ _ c.run_pieces-end.ensures)
