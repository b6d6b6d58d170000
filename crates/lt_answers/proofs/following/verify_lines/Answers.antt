use Rattle.std.proofs.Common.{◌≡◌, refl}
use Rattle.lt_answers.specs.Verifying.{IsFollowed}
use Rattle.lt_answers.proofs.FollowingLemmas.{followed_none, run_lacks, run_verifies}
use Rattle.lt_answers.proofs.following.verify_lines.Goals as goal

-- The clause of `verify_lines`, VerifiesLines, at its two ends, and what `run_pieces` requires at the beginning.

-- memory ran out before the first read
pub returns-in_err-new : goal.returns-in_err-new
returns-in_err-new g c = run_lacks c.from_residual.result c.from_residual.ensures.1

-- before the first read the state has taken no bytes
pub run_pieces-requires : goal.run_pieces-requires
run_pieces-requires g c = (refl, followed_none _ c.args.tag.now _ c.in_ok-new.ensures c.requires)

-- the run over the pieces verified the lines of the reader, however it ended
pub returns : goal.returns
returns g c =
    let R = g.L.Lookup.listed c.args.table.now in
    let first = c.in_ok-new.field-0 in
    run_verifies R c.args.tag.now first g.R.Read.remaining _ _ _ (λ read here. (g.L.Lookup.listed here.table.now ≡ R)
    × IsFollowed R first read here.following) c.in_ok-new.ensures _ c.run_pieces.ensures
