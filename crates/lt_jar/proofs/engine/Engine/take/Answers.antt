use Rattle.std.proofs.Common.{[], arith, refl, sym, subst}
use Rattle.std.proofs.lemmas.Result.{err_from_is_err_and}
use Rattle.std.proofs.lemmas.List.Elements.{All-append}
use Rattle.lt_jar.specs.Lines.{IsOneLine}
use Rattle.lt_jar.specs.Pieces.{fields_in}
use Rattle.lt_jar.proofs.CutLemmas.{IsNoEnd}
use Rattle.lt_jar.proofs.TurnLemmas.{first_refused, turn_all, turn_ends, turn_next, turn_stops, unended_refused}
use Rattle.lt_jar.proofs.engine.Engine.take.Goals as goal

-- The engine did with the piece what `TakesPiece` says. Here the line with the next line feed is refused, whatever
-- bytes follow the piece.
pub returns-in_err-end_line : goal.returns-in_err-end_line
returns-in_err-end_line c =
    let p = err_from_is_err_and c.from_residual.result c.from_residual.ensures.1 in
    let ensures = c.in_err-end_line.ensures in
    let turn = c.loop-line.invariant in
    let counted = ensures.counted turn.over.begun in
    rw (p.1, p.2)
    (turn_stops c.end_line.new.self turn (λ more. first_refused _ c.in-Some.line.now c.in-Some.after.now more
    turn.over.begun c.in-Some.ensures.0 c.in-Some.ensures.1 ensures.taken) ensures.ended counted.0 counted.1)

-- a turn takes one line more, which ends no record
pub loop-line-preserved : goal.loop-line-preserved
loop-line-preserved c =
    let ensures = c.in_ok-end_line.ensures in
    let counted = ensures.counted c.loop-line.invariant.over.begun in
    turn_next c.end_line.new.self c.in-Some.line.now c.in-Some.after.now c.loop-line.invariant c.in-Some.ensures.1
    c.in-Some.ensures.0 (rw c.in-GoesOn.is at ensures.taken) ensures.ended counted.0 counted.1

-- the line ends a record, and what follows it is left
pub returns-in-Ends : goal.returns-in-Ends
returns-in-Ends c =
    let ensures = c.in_ok-end_line.ensures in
    let counted = ensures.counted c.loop-line.invariant.over.begun in
    turn_ends c.end_line.new.self c.in-Some.line.now c.in-Some.after.now c.loop-line.invariant c.in-Some.ensures.1
    c.in-Some.ensures.0 (rw c.in-Ends.is at ensures.taken) ensures.ended counted.0 counted.1

-- the rest is the front of a line that is too long already, or memory ran out at that line
pub returns-in_err-keep : goal.returns-in_err-keep
returns-in_err-keep c =
    let p = err_from_is_err_and c.from_residual-in_err-keep.result c.from_residual-in_err-keep.ensures.1 in
    let now = c.loop-line.self in
    let turn = c.loop-line.invariant in
    let kept = c.in_err-keep.ensures.kept in
    let same = c.in_err-keep.ensures.same in
    let one = All-append IsNoEnd now.partial.items c.loop-line.rest.now turn.over.begun c.in_default.ensures in
    rw (p.1, p.2)
    (turn_stops c.keep.new.self turn (λ more. unended_refused now.ended (fields_in now) _ more _ one kept.1 kept.0)
    same.1 same.2 (subst IsOneLine (sym kept.2) turn.over.begun))

-- the rest has no line feed and is kept, so the piece is used up
pub returns : goal.returns
returns c =
    let same = c.in_ok-keep.ensures.same in
    turn_all c.keep.new.self c.loop-line.invariant c.in_default.ensures c.in_ok-keep.ensures.kept same.0 same.1 same.2

-- before the loop no line is taken, and the whole piece is left
pub loop-line-init : goal.loop-line-init
loop-line-init c = record {
  lines = [];
  over = record { each = tt; ran = refl; line = omega arith; ended = refl; begun = c.requires.begun };
  bytes = refl;
  front = [];
  split = refl;
  room = omega arith;
}
