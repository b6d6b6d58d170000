use Rattle.std.proofs.Common.{◌≡◌, ◌++◌, List, ℕ, [], ◌∷◌, true, false, refl, ap, ◌∙◌}
use Rattle.std.proofs.lemmas.List.{append_assoc}
use Rattle.lt_range.specs.Filtering.{NoneMatches}
use Rattle.lt_range.specs.Matching.{MatchesBy}
use Rattle.lt_range.specs.Spellings.{MatchesSome, Spellings}
use Rattle.lt_range.proofs.FilterLemmas.{places_yes, places_no, places_end}
use Rattle.lt_range.proofs.matching.Scheme.append_places.Goals as goal
use Rattle.lt_range.proofs.matching.Scheme.append_places.Goals.{then-matches+then-none_matches+in_ok-push, else-matches}
use Rattle.lt_range.proofs.matching.Scheme.append_places.Goals.{else-matches-via-then-matches+else-none_matches}
use Rattle.lt_range.proofs.matching.Scheme.append_places.Goals.{else-matches-via-else-matches}

-- after a turn the places so far, with those of the tags left, are still those of all: it adds the place of its tag if
-- the range matches it and no range of `before` does
pub loop-place-preserved : goal.loop-place-preserved
loop-place-preserved c =
    let P = λ (tag : Spellings). MatchesSome (MatchesBy c.args.self) c.args.range.now tag × NoneMatches
    (MatchesSome (MatchesBy c.args.self)) c.args.before.now tag in
    let tags = c.args.tags.now in
    let i = c.loop-place.place in
    let t = c.index-tags-place.result in
    let found = c.loop-place.invariant.0 in
    elim c.if-matches.branch [
      | then-matches+then-none_matches+in_ok-push w ↦ (
        found ++ i ∷ [],
        rw w.places-is (w.in_ok-push.ensures.items ∙ ap (λ (l : List ℕ). l ++ i ∷ []) c.loop-place.invariant.1
            ∙ append_assoc _ found (i ∷ [])),
        places_yes P tags i t found c.loop-place-test.true c.index-tags-place.is (
          w.if-matches.ensures.0 refl,
          w.if-none_matches.ensures.0 refl,
        ) c.loop-place.invariant.2,
      )
      | else-matches w ↦ (
        found,
        rw w.places-is c.loop-place.invariant.1,
        places_no P tags i t found c.loop-place-test.true c.index-tags-place.is
            (elim w.else-matches.branch [
              | else-matches-via-then-matches+else-none_matches v ↦ λ p. let bad : false ≡ true = v.if-none_matches.ensures.1 p.1 in cc
              | else-matches-via-else-matches v ↦ λ p. let bad : false ≡ true = v.if-matches.ensures.1 p.0 in cc
            ])
            c.loop-place.invariant.2,
      )
    ]

-- the places that were added are those of all such tags: no tag is left
pub returns : goal.returns
returns c =
    let P = λ (tag : Spellings). MatchesSome (MatchesBy c.args.self) c.args.range.now tag × NoneMatches
    (MatchesSome (MatchesBy c.args.self)) c.args.before.now tag in
    let inv = c.loop-place.invariant in
    (inv.0, inv.1, places_end P c.args.tags.now c.loop-place.place inv.0 c.loop-place-test.false inv.2)
