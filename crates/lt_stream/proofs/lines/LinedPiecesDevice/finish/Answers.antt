use Rattle.std.proofs.Common.{[], arith, append-nil}
use Rattle.std.proofs.lemmas.Result.{err_from_is_err_and}
use Rattle.lt_stream.proofs.LinedLemmas.{answered_all, answered_fails, answered_last, during_lacks}
use Rattle.lt_stream.proofs.LineRunLemmas.{has_line}
use Rattle.lt_stream.proofs.lines.LinedPiecesDevice.finish.Goals as goal

-- `finish` of `Lined`: what `end_last` requires, and at its ends what `Pieces` promises: `Finishes`.

-- the lines answered are no more than the bytes read, which are few enough for one line more
pub end_last-requires : goal.end_last-requires
end_last-requires g c = let r = c.requires in has_line _ _ _ _ r.start _ r.read _ r.taken.during (omega (arith, r.few))

-- memory ran out, and what was written is a front of the answers
pub returns-in_err-end_last : goal.returns-in_err-end_last
returns-in_err-end_last g c =
    let p = err_from_is_err_and c.from_residual.result c.from_residual.ensures.1 in
    rw (p.1, p.2)
    (λ first start read t. rw append-nil at (during_lacks g.A.Lines.answered first.answers g.A.Lines.longest
    g.W.Write.contents start c.args.output.now read [] c.args.self.now t.during))

-- a write failed, and what was written is a front of the answers
pub returns-in_err-write : goal.returns-in_err-write
returns-in_err-write g c =
    let p = err_from_is_err_and c.from_residual-in_err-write.result c.from_residual-in_err-write.ensures.1 in
    rw (p.1, p.2) (λ first start read t. answered_fails g.A.Lines.answered first.answers g.A.Lines.longest _ start _ _
    read _ _ _ (answered_last _ _ _ _ start _ read _ _ c.in_ok-end_last.ensures t.during)
    c.in_err-write.ensures.writes)

-- the last line is answered too, and all answers are written
pub returns : goal.returns
returns g c = λ first start read t.
    answered_all g.A.Lines.answered first.answers g.A.Lines.longest _ start _ _ read _ _
    (answered_last _ _ _ _ start _ read _ _ c.in_ok-end_last.ensures t.during) c.in_ok-write.ensures.writes
    c.in_ok-write.ensures.emptied
