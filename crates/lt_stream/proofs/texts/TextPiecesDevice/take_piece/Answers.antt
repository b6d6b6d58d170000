use Rattle.std.proofs.Common.{◌≡◌, ◌↔◌, ◌∙◌, IsTrue, Bool, true, false, ap, arith, length, length-append, refl, sym}
use Rattle.std.proofs.lemmas.Result.{err_from_is_err_and}
use Rattle.lt_stream.proofs.TextLemmas.{past_room, past_takes, waiting_begins, waiting_more, waiting_refused, waiting_room}
use Rattle.lt_stream.proofs.texts.TextPiecesDevice.take_piece.Goals as goal

-- `take_piece` of `Text`: the room that its calls require, and at its ends what `Pieces` promises: `IsTakenText` with
-- the piece read too, or `StopsText`.

-- past the mark the lines have the room of the text
pub take_piece-requires : goal.take_piece-requires
take_piece-requires g c = past_room g.A.Lines.answered g.A.Lines.longest g.W.Write.contents _ _ _ c.if-self.true c.requires

-- past the mark a piece of the text is a piece of its lines
pub returns-then-self : goal.returns-then-self
returns-then-self g c = past_takes g.A.Lines.answered g.A.Lines.longest g.W.Write.contents _ _ _ _ _ c.take_piece.result
    c.if-self.true c.if-self.true c.take_piece.ensures

-- the first bytes are refused: they begin with a mark of UTF-16, or memory ran out
pub returns-in_err-take_front : goal.returns-in_err-take_front
returns-in_err-take_front g c =
    let p = err_from_is_err_and c.from_residual.result c.from_residual.ensures.1 in
    rw (p.1, p.2) (waiting_refused g.A.Lines.answered g.A.Lines.longest g.W.Write.contents _ _ c.args.self.now
    c.args.self.now _ c.if-self.false c.in_err-take_front.ensures.refused)

-- the first bytes with the piece may still be a part of a mark, so they wait
pub returns-then-branch : goal.returns-then-branch
returns-then-branch g c =
    waiting_more g.A.Lines.answered g.A.Lines.longest g.W.Write.contents _ _ _ _ c.if-self.false c.if-self.false
    c.in_ok-take_front.ensures.added refl (c.in_ok-take_front.ensures.waits.0 c.if-branch.true)

-- the first bytes with the piece are as many as the text has room for
pub begin-requires : goal.begin-requires
begin-requires g c =
    waiting_room g.A.Lines.answered g.A.Lines.longest g.W.Write.contents _ _ c.args.self.now _ c.if-self.false
    (omega (
      arith,
      ap length c.in_ok-take_front.ensures.added,
      length-append c.args.self.now.front.items
          c.args.piece.now,
    )) c.requires

-- what a test doesn't find doesn't hold
tells_not : (P : Type 0) (r : Bool) → IsTrue r ↔ P → r ≡ false → P → ⊥
tells_not P r tells not holds = let bad : true ≡ false = sym (tells.1 holds) ∙ not in cc

-- the first bytes can't become a mark any more, so they are taken: a mark or none, and then lines
pub returns : goal.returns
returns g c =
    waiting_begins g.A.Lines.answered g.A.Lines.longest g.W.Write.contents _ _ _ c.args.self.now _ _ c.begin.result
    c.if-self.false c.in_ok-take_front.ensures.added refl
    (tells_not _ _ c.in_ok-take_front.ensures.waits c.if-branch.false) c.in_ok-take_front.ensures.narrow c.begin.ensures
