use Rattle.std.proofs.Common.{◌++◌, ◌∷◌, ℕ, List, [], ap, sym, ◌∙◌, Bor}
use Rattle.std.specs.Prelude.{Option}
use Rattle.std.proofs.lemmas.List.{append_assoc}
use Rattle.lt_tag.specs.Lists.{pieces}
use Rattle.lt_tag.specs.Rest.{pieces_left}
use Rattle.lt_tag.proofs.PrintingLemmas.{prints_append, prints_as, kept_trans}
use Rattle.lt_tag.proofs.writing.Style.put_pieces.Goals as goal

-- a turn prints one piece more, and the pieces behind its hyphen are left
pub loop-others-preserved : goal.loop-others-preserved
loop-others-preserved g c =
    let before = c.loop-others.invariant.put in
    let piece = c.cut_piece.result.0.now in
    let found = c.cut_piece.ensures.pieces ∙ ap (λ (o : Option (Bor (List ℕ))). piece ∷ pieces_left o) c.in-Some.is in
    record {
      put = (
        before.0 ++ piece ∷ [],
        append_assoc before.0 (piece ∷ []) (pieces c.in-Some.others.now) ∙ ap (λ (l : List (List ℕ)). before.0 ++ l) (sym found) ∙ before.1,
        prints_append before.2 c.in_ok-put.ensures.put,
      );
      kept = kept_trans _ _ _ c.loop-others.invariant.kept c.put.ensures.kept;
    }

-- no hyphen is left, so this piece is the last, and all pieces are printed
pub returns-in-None-clause-put : goal.returns-in-None-clause-put
returns-in-None-clause-put g c =
    let before = c.loop-others.invariant.put in
    let found = c.cut_piece.ensures.pieces ∙ ap (λ (o : Option (Bor (List ℕ))). c.cut_piece.result.0.now ∷ pieces_left o) c.in-None.is in
    prints_as (ap (λ (l : List (List ℕ)). before.0 ++ l) (sym found) ∙ before.1) (prints_append before.2 c.in_ok-put.ensures.put)
