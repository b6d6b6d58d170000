use Rattle.std.proofs.Common.{refl}
use Rattle.std.proofs.lemmas.Result.{IfOk-weaker}
use Rattle.lt_tag.proofs.PrintingLemmas.{prints_append, prints_as}
use Rattle.lt_tag.proofs.writing.Style.put_extension.Goals as goal

-- the extension is printed, as `Prints` says: the singleton and what follows it are its subtags
pub returns-clause-put : goal.returns-clause-put
returns-clause-put g c =
    IfOk-weaker c.put_all.result _ _ (λ u last. prints_as (rw (c.singleton.ensures.value, c.subtags.ensures.value) refl)
    (prints_append c.in_ok-put.ensures.put last)) c.put_all.ensures.put
