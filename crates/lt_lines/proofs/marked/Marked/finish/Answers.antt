use Rattle.std.proofs.Common.{arith}
use Rattle.std.proofs.lemmas.Result.{err_from_is_err_and}
use Rattle.lt_lines.proofs.TextEndLemmas.{finish_front, finish_stopped, finish_text}
use Rattle.lt_lines.proofs.marked.Marked.finish.Goals as goal

-- The room for lines that its calls of `finish` require, and the clause of `Marked::finish`, FinishesText, at its three
-- ends.

-- the room for the kept bytes and a line is room for a line
pub finish-requires : goal.finish-requires
finish-requires g c = record {
  room = omega (arith, c.requires.room);
  feeds = omega (arith, c.requires.feeds);
  refused = c.requires.refused;
}

-- the mark is passed, so the end of the text is that of its lines
pub returns-then-self : goal.returns-then-self
returns-then-self g c = finish_text _ g.W.Write.contents c.args.self.now _ _ _ c.finish.result c.if-self.true c.finish.ensures

-- the kept first bytes ended the run when they were taken as text
pub returns-in_err-begin : goal.returns-in_err-begin
returns-in_err-begin g c =
    let p = err_from_is_err_and c.from_residual.result c.from_residual.ensures.1 in
    rw (p.1, p.2) (finish_stopped _ g.W.Write.contents c.args.self.now c.begin.new.self c.begin.new.self
    c.args.output.now c.args.output.now c.begin.new.output c.if-self.false _ c.in_err-begin.ensures)

-- there is still room for a line once the kept bytes are answered
pub finish-requires-2 : goal.finish-requires-2
finish-requires-2 g c = c.in_ok-begin.ensures.room 1 c.requires

-- the kept bytes are answered as text, and then the last line
pub returns : goal.returns
returns g c = finish_front _ g.W.Write.contents c.args.self.now c.begin.new.self _ _ _ _ c.if-self.false
    c.finish-2.result c.in_ok-begin.ensures c.finish-2.ensures
