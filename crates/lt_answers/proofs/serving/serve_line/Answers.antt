use Rattle.std.proofs.Common.{◌∙◌, sym}
use Rattle.std.proofs.lemmas.Result.{err_from_is_err_and}
use Rattle.lt_answers.specs.Served.{ServesAmong}
use Rattle.lt_answers.proofs.SearchLemmas.{search_ended, searched}
use Rattle.lt_answers.proofs.serving.serve_line.Goals as goal

-- The clause of `serve_line`, SearchesLines by ServesAmong, at its two ends.

-- the fault that ended the run is the result; a write into memory that failed is a lack of memory
pub returns-in_err-in_memory : goal.returns-in_err-in_memory
returns-in_err-in_memory g c =
    let R = g.L.Lookup.listed c.args.table.now in
    let p = err_from_is_err_and c.from_residual.result c.from_residual.ensures.1 in
    rw (p.1, p.2) (search_ended (ServesAmong R c.args.preferences.now) _ _ _ _ _ _ _ _ _ _
    (sym c.in_memory.ensures ∙ c.in_err-in_memory.was) c.run_text-keeping.ensures)

-- all lines were read, so the kept ones are those that are tags, and the preferences serve one of these or none
pub returns : goal.returns
returns g c =
    let R = g.L.Lookup.listed c.args.table.now in
    searched (ServesAmong R c.args.preferences.now) _ _ _ _ _ _ _ _ _ _
    (sym c.in_memory.ensures ∙ c.in_ok-in_memory.was) c.run_text-keeping.ensures c.served.result
    (λ each bytes q. (rw c.deref.ensures.value at c.served.ensures) R each (rw q.0 at q.2))
