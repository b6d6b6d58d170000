use Rattle.std.proofs.Common.{rules, ◌≡◌, ◌++◌, drop, List, ℕ, refl, ap, ◌∙◌}
use Rattle.std.specs.Borrow.{Bor}
use Rattle.lt_jar.specs.TestDevices.{next_place}
use Rattle.lt_jar.proofs.TestDeviceLemmas.{part-from, remaining-moves}
use Rattle.lt_jar.proofs.pieces.PiecesRead.read.Goals as goal

-- ReadConsumes: the bytes given are the front of what remained, the rest of it remains, and that is nothing if none
-- came into a buffer with room
pub returns-clause-bytes : goal.returns-clause-bytes
returns-clause-bytes c =
    let reader = c.args.self.now in
    let moved = c.if-self-2.self in
    let room = c.args.buf.now in
    let n = c.min-count.result in
    let place : moved.at ≡ next_place reader = search rules in
    let left : c.unwrap_or-left.result.now ≡ drop moved.at moved.bytes.now =
    ap (λ (b : Bor (List ℕ)). b.now) c.unwrap_or-left.ensures
    ∙ part-from moved.bytes.now moved.at c.get.result _ refl c.get.ensures.lookup.0 in
    remaining-moves reader.endless moved.endless reader.bytes.now moved.bytes.now c.unwrap_or-left.result.now room
    (c.copy_from_slice.new.self ++ drop n room)
    reader.at c.saturating_add-self-2.result reader.piece moved.piece moved.at n
    (search rules) (search rules) (search rules) (search rules) place left (search rules) (search rules) (search rules)
