use Rattle.std.proofs.Common.{refl}
use Rattle.lt_lines.specs.Owed.{ground_of, terms}
use Rattle.lt_lines.proofs.RunLemmas.{reading_none, runs_lines}
use Rattle.lt_lines.proofs.runs.run_tallied.Goals as goal

-- what `run_pieces` requires at the beginning, IsReading: nothing is read or written
pub run_pieces-end-requires : goal.run_pieces-end-requires
run_pieces-end-requires g c = (refl, reading_none _ _ _ _ (c.new.ensures _ refl))

-- the clause RunsLines: the run over the pieces is one over the lines, and its tallies are those that are given
pub returns : goal.returns
returns g c =
    rw c.swap.ensures.x_after (runs_lines (terms (ground_of g.L.Lookup.listed c.args.basis.now) c.args.form)
    (λ here. terms (ground_of g.L.Lookup.listed here.basis.now) here.form) (λ here. here.text)
    g.R.Read.remaining g.W.Write.contents _ _ _ _ _ _ c.run_pieces-end.ensures)
