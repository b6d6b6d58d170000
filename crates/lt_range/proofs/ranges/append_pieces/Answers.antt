use Rattle.std.proofs.Common.{◌++◌, ◌∷◌, [], ℕ, List, Some, None, Ok, ap, sym, ◌∙◌}
use Rattle.std.specs.Prelude.{Option}
use Rattle.std.proofs.lemmas.List.{append_assoc, append-nil}
use Rattle.std.proofs.lemmas.Result.{err_from_is_err_and}
use Rattle.lt_tag.specs.Rest.{pieces_left}
use Rattle.lt_range.specs.Reading.{later_pieces, with_front}
use Rattle.lt_range.proofs.PieceLemmas.{refused_is, pieces_next, pieces_stop, pieces_end}
use Rattle.lt_range.proofs.ranges.append_pieces.Goals as goal

-- the fault that is answered is the first: no piece before this one has one
pub returns-in_err-subtag-clause-refused : goal.returns-in_err-subtag-clause-refused
returns-in_err-subtag-clause-refused c =
    let p = err_from_is_err_and c.from_residual.result c.from_residual.ensures.1 in
    let front = c.loop-rest.invariant.0 in
    let whole = rw c.in-Some.is at c.loop-rest.invariant.2 in
    let split = c.cut_piece.ensures.pieces in
    let stop = pieces_stop front c.cut_piece.result.0.now (pieces_left c.cut_piece.result.1) c.in_err-subtag.field-0.0
    (sym c.later_piece.ensures ∙ c.in_err-subtag.was) in
    rw (p.1, p.2) (refused_is _ _ (sym whole ∙ ap (λ (z : List (List ℕ)). with_front front (later_pieces z)) split ∙ stop))

-- after a turn the subtags so far and those of what is left are still those of all pieces: the subtag that was read is
-- added
pub loop-rest-preserved-in_ok-push : goal.loop-rest-preserved-in_ok-push
loop-rest-preserved-in_ok-push c =
    let front = c.loop-rest.invariant.0 in
    let s = c.in-Some-2.subtag in
    let whole = rw c.in-Some.is at c.loop-rest.invariant.2 in
    let split = c.cut_piece.ensures.pieces in
    let next = pieces_next front c.cut_piece.result.0.now (pieces_left c.cut_piece.result.1) (Some s)
    (sym c.later_piece.ensures ∙ c.in_ok-subtag.was ∙ ap (λ (o : Option (List ℕ)). Ok o) c.in-Some-2.is) in (
      front ++ s ∷ [],
      c.in_ok-push.ensures.items ∙ ap (λ (l : List (List ℕ)). l ++ s ∷ []) c.loop-rest.invariant.1 ∙ append_assoc _ front (s ∷ []),
      sym next ∙ sym (ap (λ (z : List (List ℕ)). with_front front (later_pieces z)) split) ∙ whole,
    )

-- the same after a turn that read a `*`, which is left out
pub loop-rest-preserved : goal.loop-rest-preserved
loop-rest-preserved c =
    let front = c.loop-rest.invariant.0 in
    let whole = rw c.in-Some.is at c.loop-rest.invariant.2 in
    let split = c.cut_piece.ensures.pieces in
    let next = pieces_next front c.cut_piece.result.0.now (pieces_left c.cut_piece.result.1) None
    (sym c.later_piece.ensures ∙ c.in_ok-subtag.was ∙ ap (λ (o : Option (List ℕ)). Ok o) c.in_default-2.is) in (
      front ++ [],
      c.loop-rest.invariant.1 ∙ ap (λ (l : List (List ℕ)). c.args.named.now.items ++ l) (sym (append-nil front)),
      sym next ∙ sym (ap (λ (z : List (List ℕ)). with_front front (later_pieces z)) split) ∙ whole,
    )

-- what was added are the subtags of all pieces: no piece is left
pub returns-clause-appended : goal.returns-clause-appended
returns-clause-appended c = record {
  added = c.loop-rest.invariant.0;
  grown = c.loop-rest.invariant.1;
  is_read = sym (rw c.in_default.is at c.loop-rest.invariant.2) ∙ pieces_end c.loop-rest.invariant.0;
}
