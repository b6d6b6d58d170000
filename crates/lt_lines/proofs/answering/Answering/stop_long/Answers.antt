use Rattle.std.proofs.Common.{◌≡◌, ◌++◌, ◌∙◌, ℕ, List, append-nil, ap, inl, inr, refl, sym}
use Rattle.lt_lines.specs.Answering.{line_of}
use Rattle.lt_lines.specs.Owed.{long_fault}
use Rattle.lt_lines.proofs.answering.Answering.stop_long.Goals as goal

-- What `kept_from` requires, and the clause of `stop_long`, StopsLong, at its two ends.

-- a write changes neither the counts nor the line feeds, so there is room as before
pub kept_from-requires : goal.kept_from-requires
kept_from-requires g c =
    let same = c.in-Ok.ensures.writes.same in
    record { room = rw same.counts c.requires.room; feeds = rw same.feeds c.requires.feeds; refused = rw same.counts c.requires.refused }

-- all answers that wait were written, and the line is the one in which the kept bytes begin
pub returns-in-Ok : goal.returns-in-Ok
returns-in-Ok g c =
    let w = c.in-Ok.ensures.writes in
    let line : line_of c.write.new.self ≡ line_of c.args.self.now = rw (w.same.kept, w.same.feeds) refl in
    record {
      written = w.written;
      appends = w.appends;
      tallies = w.same.tallies;
      ends = inr (
        c.long_fault.ensures ∙ ap (long_fault c.args.form) (c.kept_from.ensures ∙ line),
        w.done.1,
        sym (w.done.0 ∙ ap (λ (l : List ℕ). w.written ++ l) c.in-Ok.ensures.emptied ∙ append-nil w.written),
      );
    }

-- the write failed, and its fault is what ends the run
pub returns-in-Err : goal.returns-in-Err
returns-in-Err g c =
    let w = c.in-Err.ensures.writes in
    record { written = w.written; appends = w.appends; tallies = w.same.tallies; ends = inl (w.stopped.0, w.stopped.1, w.stopped.2) }
