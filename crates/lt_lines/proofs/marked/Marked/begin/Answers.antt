use Rattle.std.proofs.Common.{◌∙◌, ap, arith, length, length-append, refl}
use Rattle.std.proofs.lemmas.Result.{err_from_is_err_and}
use Rattle.lt_lines.proofs.TextRunLemmas.{begin_done, begin_stopped, begin_unwritten}
use Rattle.lt_lines.proofs.marked.Marked.begin.Goals as goal

-- What `take_piece` requires, and the clause of `begin`, BeginsText, at its three ends.

-- the text has no more bytes than were kept, so there is room for its lines
pub take_piece-requires : goal.take_piece-requires
take_piece-requires g c =
    let text = c.split_mark.result.1.now in
    let long = ap length c.split_mark.ensures.whole ∙ length-append c.split_mark.result.0.now text in
    record {
      room = omega (arith, c.requires.room, long, ap length c.deref.ensures.value);
      feeds = omega (arith, c.requires.feeds, long, ap length c.deref.ensures.value);
      refused = c.requires.refused;
    }

-- the mark could not be written, and no line is answered
pub returns-in_err-write_text : goal.returns-in_err-write_text
returns-in_err-write_text g c =
    let p = err_from_is_err_and c.from_residual.result c.from_residual.ensures.1 in
    rw (p.1, p.2) (begin_unwritten _ g.W.Write.contents c.args.self.now _ c.args.output.now c.args.output.now _ _ _
    (rw c.deref.ensures.value at c.split_mark.ensures) _ c.in_err-write_text.ensures)

-- the mark was written, and the text after it ended the run
pub returns-in_err-take_piece : goal.returns-in_err-take_piece
returns-in_err-take_piece g c =
    let p = err_from_is_err_and c.from_residual-in_err-take_piece.result c.from_residual-in_err-take_piece.ensures.1 in
    rw (p.1, p.2) (begin_stopped _ g.W.Write.contents c.args.self.now _ _ _ _ _ _
    (rw c.deref.ensures.value at c.split_mark.ensures) _ c.in_ok-write_text.ensures c.in_err-take_piece.ensures)

-- the mark was written and the text taken, and no first bytes are kept any more
pub returns : goal.returns
returns g c = begin_done _ g.W.Write.contents c.args.self.now _ _ _ _ _ _
    (rw c.deref.ensures.value at c.split_mark.ensures) c.in_ok-write_text.ensures c.in_ok-take_piece.ensures refl
    c.clear.ensures.items
