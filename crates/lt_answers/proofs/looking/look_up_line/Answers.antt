use Rattle.std.proofs.Common.{◌∙◌, sym}
use Rattle.std.proofs.lemmas.Result.{err_from_is_err_and}
use Rattle.lt_answers.specs.LookedUp.{LooksUp}
use Rattle.lt_answers.proofs.LookingLemmas.{found_is}
use Rattle.lt_answers.proofs.SearchLemmas.{search_ended, searched}
use Rattle.lt_answers.proofs.looking.look_up_line.Goals as goal

-- The clause of `look_up_line`, SearchesLines by LooksUp, at its two ends.

-- the fault that ended the run is the result; a write into memory that failed is a lack of memory
pub returns-in_err-in_memory : goal.returns-in_err-in_memory
returns-in_err-in_memory g c =
    let R = g.L.Lookup.listed c.args.table.now in
    let p = err_from_is_err_and c.from_residual.result c.from_residual.ensures.1 in
    rw (p.1, p.2) (search_ended (LooksUp R c.args.ranges.now) _ _ _ _ _ _ _ _ _ _
    (sym c.in_memory.ensures ∙ c.in_err-in_memory.was) c.run_text-looking.ensures)

-- all lines were read, so the closest of them is the one that lookup finds
pub returns : goal.returns
returns g c =
    let R = g.L.Lookup.listed c.args.table.now in
    searched (LooksUp R c.args.ranges.now) _ _ _ _ _ _ _ _ _ _
    (sym c.in_memory.ensures ∙ c.in_ok-in_memory.was) c.run_text-looking.ensures c.into_line.result
    (λ each bytes q. found_is R c.args.ranges.now each _ (rw (q.0, q.1) at q.3) _ c.into_line.ensures)
