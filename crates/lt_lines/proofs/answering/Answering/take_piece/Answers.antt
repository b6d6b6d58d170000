use Rattle.std.proofs.KnownBytes.{Appends-nil}
use Rattle.std.proofs.Common.{[], inr, ◌≡◌, ◌↔◌, ◌++◌, ◌∷◌, ◌∙◌, Bool, IsTrue, true, false, ℕ, refl, sym, append-nil}
use Rattle.std.proofs.Common.{ap, arith, length, length-append}
use Rattle.std.proofs.lemmas.Result.{err_from_is_err_and}
use Rattle.lt_jar.specs.Lines.{IsOneLine}
use Rattle.lt_lines.specs.Answering.{part_kept}
use Rattle.lt_lines.specs.Owed.{ground_of, terms}
use Rattle.lt_lines.specs.declared.answering.Answering.{Answering}
use Rattle.lt_lines.proofs.LookLemmas.{after_lacks, line_lacks}
use Rattle.lt_lines.proofs.PieceLemmas.{PieceTurn, turn_fails, turn_kept, turn_long, turn_stops, turn_last, turn_line, turn_written}
use Rattle.lt_lines.proofs.answering.Answering.take_piece.Goals as goal
use Rattle.lt_lines.proofs.answering.Answering.take_piece.Goals.{In_ok-end_line}

-- What `end_line` requires of its bytes, the invariant after a turn, and the clause of `take_piece`, TakesPiece, at
-- each of its ends.

-- the line is a front of the rest of the piece, so that has so many bytes
pub end_line-requires-clause-count : goal.end_line-requires-clause-count
end_line-requires-clause-count g c =
    let split : IsOneLine c.in-Some.line.now × (c.loop-line.rest.now ≡ c.in-Some.line.now ++ 10 ∷ c.in-Some.after.now) =
    c.in-Some.ensures in
    omega (arith, ap length split.1, length-append c.in-Some.line.now (10 ∷ c.in-Some.after.now))

-- memory ran out for the answer to this line
pub returns-in_err-end_line : goal.returns-in_err-end_line
returns-in_err-end_line g c =
    let p = err_from_is_err_and c.from_residual.result c.from_residual.ensures.1 in
    rw (p.1, p.2) (turn_stops _ _ _ _ _ _ _ _ c.loop-line.invariant.0 _ _ _ [] (Appends-nil _)
    (inr (refl, c.loop-line.invariant.0.failures)) (_, refl))

-- what a test `r` did not find is not so
fits : {P : Type 0} (r : Bool) → IsTrue r ↔ P → r ≡ false → P → ⊥
fits r tells not long = let bad : true ≡ false = sym (tells.1 long) ∙ not in cc

-- this line makes the row or the record too long
pub returns-then-is_too_long : goal.returns-then-is_too_long
returns-then-is_too_long g c =
    turn_long _ _ _ c.loop-line.rest.now _ c.loop-line.self _ _ c.loop-line.invariant.0 _ _ c.stop_long.result
    c.in-Some.line.now (10 ∷ c.in-Some.after.now) c.in-Some.ensures.0 c.in-Some.ensures.1
    (c.is_too_long.ensures.0 c.if-is_too_long.true) c.stop_long.ensures

-- the rest of the piece, which has no line feed, makes the row or the record too long
pub returns-then-is_too_long-2 : goal.returns-then-is_too_long-2
returns-then-is_too_long-2 g c =
    turn_long _ _ _ c.loop-line.rest.now _ c.loop-line.self _ _ c.loop-line.invariant.0 _ _
    c.stop_long-then-is_too_long-2.result c.loop-line.rest.now [] c.in_default.ensures
    (sym (append-nil c.loop-line.rest.now))
    (c.is_too_long-2.ensures.0 c.if-is_too_long-2.true) c.stop_long-then-is_too_long-2.ensures

-- after the answer to a line the front of the piece up to it is taken, and what follows its line feed is left
after_line : (g : _) (c : goal.In_ok-end_line g)
    → PieceTurn (terms (ground_of g.L.Lookup.listed c.args.basis.now)
    c.args.form) g.W.Write.contents c.args.piece.now c.in-Some.after.now c.args.self.now c.end_line.new.self
    c.args.output.now c.loop-line.output
after_line g c = turn_line _ _ _ c.loop-line.rest.now _ c.loop-line.self _ _ c.loop-line.invariant.0 c.in-Some.line.now
    _ _ c.in-Some.ensures (fits c.is_too_long.result c.is_too_long.ensures c.if-is_too_long.false)
    c.in_ok-end_line.ensures.taken c.in_ok-end_line.ensures.counted

-- the line is answered, but the write of the answers that wait failed
pub returns-in_err-write_much : goal.returns-in_err-write_much
returns-in_err-write_much g c =
    let p = err_from_is_err_and c.from_residual-in_err-write_much.result c.from_residual-in_err-write_much.ensures.1 in
    rw (p.1, p.2) (turn_fails _ _ _ _ _ _ _ _ (after_line g (goal.at.returns-in_err-write_much g c).In_ok-end_line) _ _
    _ c.in_err-write_much.ensures.writes)

-- a turn takes one line more with its line feed; what is left lacks what the rest lacked
pub loop-line-preserved : goal.loop-line-preserved
loop-line-preserved g c = (
  turn_written _ _ _ _ _ _ _ _ (after_line g (goal.at.loop-line-preserved g c).In_ok-end_line) _ _ c.in_ok-write_much.ensures.writes,
  after_lacks c.in-Some.line.now c.in-Some.after.now c.loop-line.rest.now c.lacks_in-lacks.result c.in-Some.ensures.1
      c.loop-line.invariant.1,
)

-- the line lacks what the rest of the piece lacks
pub end_line-requires-clause-lacks : goal.end_line-requires-clause-lacks
end_line-requires-clause-lacks g c =
    line_lacks c.in-Some.line.now c.in-Some.after.now c.loop-line.rest.now _ c.in-Some.ensures.0 c.in-Some.ensures.1 c.loop-line.invariant.1

-- memory ran out for the rest of the piece, which is to be kept
pub returns-in_err-keep : goal.returns-in_err-keep
returns-in_err-keep g c =
    let p = err_from_is_err_and c.from_residual-in_err-keep.result c.from_residual-in_err-keep.ensures.1 in
    rw (p.1, p.2) (turn_stops _ _ _ _ _ _ _ _ c.loop-line.invariant.0 _ _ _ [] (Appends-nil _)
    (inr (refl, c.loop-line.invariant.0.failures)) (_, refl))

-- no line feed is left: the rest is kept, and all answers that wait are written
pub returns : goal.returns
returns g c =
    let now = c.loop-line.self in
    let mid : Answering = record {
      kept = c.keep.new.kept;
      place = c.place_then-self.result;
      feeds = now.feeds;
      owed = now.owed;
      counts = now.counts;
      tallies = now.tallies;
      recent = now.recent;
    } in
    let kept = c.in_ok-keep.ensures ∙ ap (λ (n : ℕ). now.kept.items ++ part_kept c.args.form n c.loop-line.rest.now) now.kept.ok.0 in
    turn_last _ _ _ _ mid _ _ _ _ c.write.result
    (turn_kept _ _ _ _ _ now _ _ c.loop-line.invariant.0 mid c.in_default.ensures
    (fits c.is_too_long-2.result c.is_too_long-2.ensures c.if-is_too_long-2.false) kept c.place_then-self.ensures
    refl refl refl refl refl) c.write.ensures.writes c.write.ensures.emptied
