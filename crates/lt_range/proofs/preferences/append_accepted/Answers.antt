use Rattle.std.proofs.Common.{◌≡◌, ◌++◌, List, ℕ, [], ◌∷◌, true, false, get_or, sym, ap, ◌∙◌}
use Rattle.std.proofs.lemmas.List.{append_assoc, get_or_default}
use Rattle.lt_range.specs.Lookup.{tag_at}
use Rattle.lt_range.specs.Preferences.{Accepts}
use Rattle.lt_range.proofs.FilterLemmas.{places_yes, places_no, places_end}
use Rattle.lt_range.proofs.preferences.append_accepted.Goals as goal
use Rattle.lt_range.proofs.preferences.append_accepted.Goals.{then-accepts+in_ok-push, else-accepts}

-- after a turn the places so far, with those of the tags left, are still those of all: it adds the place of its tag if
-- the range accepts it
pub loop-place-preserved : goal.loop-place-preserved
loop-place-preserved c =
    let P = Accepts c.args.all.now c.args.index in
    let tags = c.args.tags.now in
    let i = c.loop-place.place in
    let found = c.loop-place.invariant.0 in
    let here : tag_at tags i ≡ get_or tags i (tag_at tags i) = get_or_default tags i [] (tag_at tags i) c.loop-place-test.true in
    let tells = c.accepts.ensures (tag_at tags i) (c.requires.each i c.loop-place-test.true) in
    elim c.if-accepts.branch [
      | then-accepts+in_ok-push w ↦ (
        found ++ i ∷ [],
        rw w.places-is (w.in_ok-push.ensures.items ∙ ap (λ (l : List ℕ). l ++ i ∷ []) c.loop-place.invariant.1
            ∙ append_assoc _ found (i ∷ [])),
        places_yes P tags i (tag_at tags i) found c.loop-place-test.true here (tells.0 w.if-accepts.true) c.loop-place.invariant.2,
      )
      | else-accepts w ↦ (
        found,
        rw w.places-is c.loop-place.invariant.1,
        places_no P tags i (tag_at tags i) found c.loop-place-test.true here
            (λ p. let bad : false ≡ true = sym w.if-accepts.false ∙ tells.1 p in cc) c.loop-place.invariant.2,
      )
    ]

-- the places that were added are those of all tags that the range accepts: no tag is left
pub returns : goal.returns
returns c =
    let inv = c.loop-place.invariant in
    (inv.0, inv.1, places_end (Accepts c.args.all.now c.args.index) c.args.tags.now c.loop-place.place inv.0 c.loop-place-test.false inv.2)
