use Rattle.std.proofs.Common.{◌≡◌, ◌++◌, List, ℕ, [], ◌∷◌, true, false, sym, ap, ◌∙◌, subst}
use Rattle.std.proofs.lemmas.List.{append_assoc}
use Rattle.lt_tag.proofs.ListLemmas.{list_all-more}
use Rattle.lt_range.specs.Matching.{is_no_singleton, IsPassedTo}
use Rattle.lt_range.proofs.TurnLemmas.{passed_next, passed_stops, new_more}
use Rattle.lt_range.proofs.matching.after_subtag.Goals as goal

-- None is right: the subtag is not among those so far, and the next is another, a singleton, which is not passed over
pub returns-then-not-is_no_singleton : goal.returns-then-not-is_no_singleton
returns-then-not-is_no_singleton c = λ h.
    let s = c.args.subtag.now in
    let first = c.in-Some.first.now in
    let other : first ≡ s → ⊥ = λ e. let bad : false ≡ true = c.if-are_same.ensures.1 e in cc in
    passed_stops s first c.in-Some.others.now other (sym c.if-not-is_no_singleton.ensures)
    (subst (λ (l : List (List ℕ)). IsPassedTo l s) c.in-Some.ensures.cases.0 (c.loop-first.invariant.left h))

-- after a turn the subtag can still only be in what is left: what the turn passed over is another one, and no singleton
pub loop-first-preserved : goal.loop-first-preserved
loop-first-preserved c =
    let s = c.args.subtag.now in
    let first = c.in-Some.first.now in
    let others = c.in-Some.others.now in
    let so_far = c.loop-first.invariant.so_far in
    let other : first ≡ s → ⊥ = λ e. let bad : false ≡ true = c.if-are_same.ensures.1 e in cc in
    record {
      so_far = (
        so_far.0 ++ first ∷ [],
        so_far.1 ∙ ap (λ (l : List (List ℕ)). so_far.0 ++ l) c.in-Some.ensures.cases.0 ∙ sym (append_assoc so_far.0 (first ∷ []) others),
        list_all-more is_no_singleton so_far.0 first so_far.2 (sym c.if-not-is_no_singleton.ensures),
        new_more s so_far.0 first so_far.3 other,
      );
      left = λ h. passed_next s first others other
          (subst (λ (l : List (List ℕ)). IsPassedTo l s) c.in-Some.ensures.cases.0 (c.loop-first.invariant.left h));
    }
