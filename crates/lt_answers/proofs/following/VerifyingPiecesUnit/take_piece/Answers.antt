use Rattle.std.proofs.Common.{◌≡◌, refl}
use Rattle.std.proofs.lemmas.Result.{err_from_is_err_and}
use Rattle.lt_answers.specs.Verifying.{IsFollowed, Settles}
use Rattle.lt_answers.proofs.FollowingLemmas.{followed_piece, followed_proper, followed_room, settled_piece, takes_or_settles}
use Rattle.lt_answers.proofs.following.VerifyingPiecesUnit.take_piece.Goals as goal

-- `take_piece` of `Verifying`: what `Following::take_piece` requires, and what `Pieces` promises of a piece: IsFollowed
-- with it read too, or Settles.

-- the tag to which the lines lead is proper, and so few bytes were read that a line's number fits into 64 bits
pub take_piece-requires : goal.take_piece-requires
take_piece-requires g c =
    let r = c.requires in
    record { proper = followed_proper _ _ r.taken.0 _ _ _ r.taken.1; room = followed_room _ _ r.taken.0 _ _ _ r.taken.1 _ r.few }

-- judging a piece fails only if memory runs out
pub returns-in_err-take_piece : goal.returns-in_err-take_piece
returns-in_err-take_piece g c =
    let p = err_from_is_err_and c.from_residual.result c.from_residual.ensures.1 in
    rw (p.1, p.2) (λ first start read t. refl)

-- the piece was taken after the bytes read before it, or it settles the verdict on all bytes
pub returns : goal.returns
returns g c =
    let listed = g.L.Lookup.listed in
    takes_or_settles (λ first _ _ read here. (listed here.table.now ≡ listed first.table.now)
    × IsFollowed (listed first.table.now) first.following read here.following)
    (λ first _ _ read _ r. Settles (listed first.table.now) first.following read r) _ _ _ c.args.self.now
    (record { table = c.args.self.now.table; following = c.take_piece.new.self }) c.in_ok-take_piece.field-0
    (λ none first start read t. (t.0, followed_piece _ _ t.0 _ read _ t.1 _ _ _ none c.in_ok-take_piece.ensures))
    (λ v is first start read t. settled_piece _ _ t.0 _ read _ t.1 _ _ _ v is c.in_ok-take_piece.ensures)
