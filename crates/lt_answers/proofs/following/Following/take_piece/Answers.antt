use Rattle.std.proofs.lemmas.Result.{IfOk-weaker}
use Rattle.lt_answers.proofs.FollowingLemmas.{last_turn, settled_turn}
use Rattle.lt_answers.proofs.following.Following.take_piece.Goals as goal

-- The clause of `Following::take_piece`, TakesPiece, where a line of the piece settles the verdict and where the loop
-- ends.

-- the line that the line feed ends settles the verdict, whatever follows the piece
pub returns-in-Some-2 : goal.returns-in-Some-2
returns-in-Some-2 g c =
    settled_turn c.in-Some.part.now c.in-Some.after.now c.loop-part.invariant c.in-Some.ensures c.in_ok-keep.ensures
    c.judge_kept.new.self c.in-Some-2.verdict (rw c.in-Some-2.is at c.in_ok-verdict.ensures)

-- the rest has no line feed and was kept, so what the kept front of a line settles, the whole piece settles
pub returns : goal.returns
returns g c =
    IfOk-weaker c.judge_rest.result _ _ (λ j is. last_turn c.loop-part.invariant c.in_default.ensures
    c.in_ok-keep-2.ensures j is) c.judge_rest.ensures
