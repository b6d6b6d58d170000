use Rattle.lt_lines.proofs.TagLemmas.{runs_tags}
use Rattle.lt_lines.proofs.runs.run_lines.Goals as goal

-- the clause RunsTags, from RunsLines: in a run over tags without codes each line is read as it is
pub returns : goal.returns
returns g c = runs_tags (g.L.Lookup.listed c.args.checked.now) g.R.Read.remaining g.W.Write.contents _ _ _ _ _ _ c.run_tallied.ensures
