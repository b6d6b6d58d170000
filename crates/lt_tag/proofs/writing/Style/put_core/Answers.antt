use Rattle.std.proofs.Common.{refl}
use Rattle.std.proofs.lemmas.Result.{IfOk-weaker}
use Rattle.lt_tag.proofs.PrintingLemmas.{prints_append, prints_as}
use Rattle.lt_tag.proofs.writing.Style.put_core.Goals as goal

-- the core is printed, as `Prints` says: language, extlangs, script, region and variants, in this order, are its
-- subtags
pub returns-clause-put : goal.returns-clause-put
returns-clause-put g c =
    IfOk-weaker c.put_all-2.result _ _ (λ u last.
    prints_as (rw (
      c.language.ensures.value,
      c.extlangs.ensures.value,
      c.script.ensures.value,
      c.region.ensures.value,
      c.variants.ensures.value,
    ) refl)
    (prints_append c.in_ok-put_subtag.ensures.put (prints_append c.in_ok-put_all.ensures.put
    (prints_append c.in_ok-put_option.ensures.put (prints_append c.in_ok-put_option-2.ensures.put last)))))
    c.put_all-2.ensures.put
