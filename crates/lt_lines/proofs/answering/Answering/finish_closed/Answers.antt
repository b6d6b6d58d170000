use Rattle.std.proofs.Common.{[], inl, inr, refl, sym, append-nil}
use Rattle.std.proofs.KnownBytes.{Appends-nil}
use Rattle.std.proofs.lemmas.Result.{err_from_is_err_and}
use Rattle.lt_lines.proofs.EndLemmas.{begun_answered, owed_all}
use Rattle.lt_lines.proofs.TakenLemmas.{begun_nothing}
use Rattle.lt_lines.proofs.answering.Answering.finish_closed.Goals as goal

-- The clause of `finish_closed`, FinishesLines, at its three ends.

-- memory ran out for the last answer, and nothing more was written
pub returns-in_err-end_last : goal.returns-in_err-end_last
returns-in_err-end_last g c =
    let p = err_from_is_err_and c.from_residual.result c.from_residual.ensures.1 in
    rw (p.1, p.2) (record {
      written = [];
      appends = Appends-nil _;
      done = tt;
      stopped = inr (inr (refl, refl), λ bytes out t. rw append-nil (begun_nothing _ bytes out [] bytes _ t (sym (append-nil bytes))));
    })

-- all lines are answered, but a write failed: a front of the answers was written
pub returns-in_err-write : goal.returns-in_err-write
returns-in_err-write g c =
    let p = err_from_is_err_and c.from_residual-in_err-write.result c.from_residual-in_err-write.ensures.1 in
    let w = c.in_err-write.ensures.writes in
    rw (p.1, p.2) (record {
      written = w.written;
      appends = w.appends;
      done = tt;
      stopped = inr (
        inl (w.stopped.0, w.stopped.1),
        λ bytes out t. begun_answered _ bytes out w.written
            c.end_last.new.self (c.in_ok-end_last.ensures bytes out t) w.stopped.2,
      );
    })

-- all lines are answered, and all answers are written
pub returns : goal.returns
returns g c =
    let w = c.in_ok-write.ensures.writes in
    record {
      written = w.written;
      appends = w.appends;
      done = (
        w.done.1,
        λ bytes out t. owed_all _ bytes out w.written c.end_last.new.self c.write.new.self
            (c.in_ok-end_last.ensures bytes out t) w.same w.done.0 c.in_ok-write.ensures.emptied,
      );
      stopped = tt;
    }
