use Rattle.std.proofs.Common.{Vec, ℕ}
use Rattle.std.proofs.lemmas.Result.{IfOk-weaker}
use Rattle.lt_tag.proofs.PrintingLemmas.{text_of_calls}
use Rattle.lt_tag.proofs.writing.append_tag.Goals as goal

-- nothing was refused, so the subtags of the tag are in the text, in conventional case
pub returns-else-is_err-clause-ok : goal.returns-else-is_err-clause-ok
returns-else-is_err-clause-ok c =
    IfOk-weaker c.put_tag-result.result _ _ (λ u last. text_of_calls (λ (v : Vec ℕ _). v.items) _ (λ a bs b e. e)
    c.new.ensures last) c.put_tag-result.ensures.put
