use Rattle.std.proofs.Common.{◌∙◌, ◌++◌, ◌∷◌, [], List, Option, None, ap, arith}
use Rattle.std.proofs.lemmas.List.{replicate_more}
use Rattle.lt_cache.specs.declared.recent.Kept.{Kept}
use Rattle.lt_cache.proofs.PlaceLemmas.{places_blank_are}
use Rattle.lt_cache.proofs.recent.blank.Goals as goal

-- after a turn the places so far are still empty, and as many as the turns: it adds one
pub loop-place-preserved : goal.loop-place-preserved
loop-place-preserved c =
    c.in_ok-push.ensures.items ∙ ap (λ (places : List (Option Kept)). places ++ None ∷ []) c.loop-place.invariant
    ∙ replicate_more c.loop-place._place None

-- what is made are the 8,192 empty places of a cache: there were as many turns
pub returns : goal.returns
returns c = c.loop-place.invariant ∙ places_blank_are c.loop-place._place (omega (arith, c.loop-place-test.false, c.loop-place.auto))
