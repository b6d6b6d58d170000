use Rattle.std.proofs.Common.{[], arith, length}
use Rattle.std.proofs.lemmas.Result.{err_from_is_err_and}
use Rattle.lt_stream.proofs.TextLemmas.{ending_fails, ending_finishes, ending_room, past_finishes, past_room, waiting_room}
use Rattle.lt_stream.proofs.texts.TextPiecesDevice.finish.Goals as goal

-- `finish` of `Text`: the room that its calls require, and at its ends what `Pieces` promises: `FinishesText`.

-- past the mark the lines have the room of the text
pub finish-requires : goal.finish-requires
finish-requires g c = past_room g.A.Lines.answered g.A.Lines.longest g.W.Write.contents _ _ _ c.if-self.true c.requires

-- past the mark the end of the text is that of its lines
pub returns-then-self : goal.returns-then-self
returns-then-self g c = past_finishes g.A.Lines.answered g.A.Lines.longest g.W.Write.contents _ _ _
    (record { front = c.args.self.now.front; is_begun = c.args.self.now.is_begun; lined = c.finish.new.self })
    c.finish.result c.if-self.true c.finish.ensures

-- the first bytes were read, so there is room for them
pub begin-requires : goal.begin-requires
begin-requires g c = waiting_room g.A.Lines.answered g.A.Lines.longest g.W.Write.contents [] _ c.args.self.now _
    c.if-self.false (omega arith) c.requires

-- a write failed or memory ran out as the first bytes were taken, and no more bytes come
pub returns-in_err-begin : goal.returns-in_err-begin
returns-in_err-begin g c =
    let p = err_from_is_err_and c.from_residual.result c.from_residual.ensures.1 in
    rw (p.1, p.2) (ending_fails g.A.Lines.answered g.A.Lines.longest g.W.Write.contents _ _ _ c.begin.new.self
    c.begin.new.self _ c.if-self.false c.in_err-begin.ensures)

-- the first bytes are taken, and there is room for the end of the lines
pub finish-requires-2 : goal.finish-requires-2
finish-requires-2 g c = ending_room g.A.Lines.answered g.A.Lines.longest g.W.Write.contents _ _ c.args.self.now _ _
    c.if-self.false c.requires c.in_ok-begin.ensures

-- the first bytes, which no others follow, are taken, and then the end of the lines
pub returns : goal.returns
returns g c = ending_finishes g.A.Lines.answered g.A.Lines.longest g.W.Write.contents _ _ _ c.args.self.now
    c.begin.new.self
    (record { front = c.begin.new.self.front; is_begun = c.begin.new.self.is_begun; lined = c.finish-2.new.self }) _
    c.finish-2.result c.if-self.false c.in_ok-begin.ensures c.finish-2.ensures
