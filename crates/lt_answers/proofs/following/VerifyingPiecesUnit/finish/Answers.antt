use Rattle.std.proofs.Common.{arith, refl}
use Rattle.std.proofs.lemmas.Result.{err_from_is_err_and}
use Rattle.lt_answers.proofs.FollowingLemmas.{followed_proper, followed_room, judged_all}
use Rattle.lt_answers.proofs.following.VerifyingPiecesUnit.finish.Goals as goal

-- `finish` of `Verifying`: what `Following::finish` requires, and what `Pieces` promises of the end, JudgesAll.

-- the tag to which the lines lead is proper, and so few bytes were read that a line's number fits into 64 bits
pub finish-requires : goal.finish-requires
finish-requires g c =
    let r = c.requires in
    record {
      proper = followed_proper _ _ r.taken.0 _ _ _ r.taken.1;
      room = omega (arith, followed_room _ _ r.taken.0 _ _ _ r.taken.1 0 r.few);
    }

-- judging the last line fails only if memory runs out
pub returns-in_err-finish : goal.returns-in_err-finish
returns-in_err-finish g c =
    let p = err_from_is_err_and c.from_residual.result c.from_residual.ensures.1 in
    rw (p.1, p.2) (λ first start read t. refl)

-- the verdict on the kept line is that on all bytes that were read
pub returns : goal.returns
returns g c = λ first start read t. judged_all _ _ t.0 _ read _ t.1 c.in_ok-finish.field-0 c.in_ok-finish.ensures
