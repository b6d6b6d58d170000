use Rattle.std.proofs.Common.{◌≡◌, ◌+◌, List, ℕ, ◌∷◌, drop, sym, ap, ◌∙◌, subst}
use Rattle.std.proofs.lemmas.List.{drop_more}
use Rattle.lt_range.specs.Matching.{AreInTurn}
use Rattle.lt_range.proofs.TurnLemmas.{turn_next, turn_back}
use Rattle.lt_range.proofs.matching.are_in_turn.Goals as goal

-- after a turn all subtags are in turn in the list exactly if those left are in what is left: the turn found one at its
-- first place, after which the most is left
pub loop-subtag-preserved : goal.loop-subtag-preserved
loop-subtag-preserved c =
    let list = c.loop-subtag.rest.now in
    let others = c.in-Some.others.now in
    let s = c.subtag-item.result in
    let ss = drop (c.loop-subtag.subtag-index + 1) c.args.named.now in
    let more : drop c.loop-subtag.subtag-index c.args.named.now ≡ s ∷ ss =
    drop_more c.args.named.now c.loop-subtag.subtag-index s c.loop-subtag-test.true ∙ ap (λ (x : List ℕ). x ∷ ss) (sym c.subtag-item.is) in
    record {
      next = λ h. turn_next s ss list others c.in-Some.ensures
          (subst (λ (l : List (List ℕ)). AreInTurn l list) more (c.loop-subtag.invariant.next h));
      back = λ h. c.loop-subtag.invariant.back (subst (λ (l : List (List ℕ)). AreInTurn l list) (sym more)
          (turn_back s ss list others c.in-Some.ensures h));
    }
