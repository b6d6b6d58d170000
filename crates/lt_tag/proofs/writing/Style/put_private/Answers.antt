use Rattle.std.proofs.Common.{◌≡◌, ◌==◌, false, ◌∷◌, ℕ, List, [], length, refl, sym, ◌∙◌}
use Rattle.std.proofs.lemmas.Result.{IfOk-weaker}
use Rattle.lt_tag.specs.Spelling.{x_subtag, spell_private}
use Rattle.lt_tag.proofs.PrintingLemmas.{prints_append, prints_as}
use Rattle.lt_tag.proofs.writing.Style.put_private.Goals as goal

-- an x and the subtags after it, of which there is one
some_private : (ss : List (List ℕ)) → (length ss == 0) ≡ false → x_subtag ∷ ss ≡ spell_private ss
some_private [] e = cc
some_private (s ∷ ss) e = refl

-- the private use is printed, as `Prints` says: there are subtags, so the `x` comes before them
pub returns-clause-put : goal.returns-clause-put
returns-clause-put g c =
    IfOk-weaker c.put_all.result _ _
    (λ u last. prints_as (some_private c.args.subtags.now (sym c.is_empty.ensures ∙ c.if-is_empty.false))
    (prints_append c.in_ok-put.ensures.put last)) c.put_all.ensures.put
