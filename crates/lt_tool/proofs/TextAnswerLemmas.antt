-- For `pair_fault`: the two clauses of `canonical_text`, on its answer and on its refusal, as one statement.
use Rattle.std.proofs.Common.{ℕ, List, Global, Vec, Result, Ok, Err}
use Rattle.std.specs.Prelude.{IfErr, IfOk}
use Rattle.lt_canon.specs.Texts.{IsCanonicalTextOf, IsTextRefusal}
use Rattle.lt_canon.specs.declared.refusals.TextRefusal.{TextRefusal}
use Rattle.lt_registry.specs.Parts.{EntryParts}
use Rattle.lt_tool.specs.TagCommands.{IsTextAnswer}

-- `own`, which is the canonical text of a text or the reason why it has none, is what is answered to that text
pub text_answer : (R : List EntryParts) (text : List ℕ) (own : Result (Vec ℕ Global) TextRefusal)
    → IfOk own (λ canonical. IsCanonicalTextOf R text canonical.items)
    → IfErr own (λ refusal. IsTextRefusal R text refusal)
    → IsTextAnswer R text own
text_answer R text (Ok canonical) is none = is
text_answer R text (Err refusal) none is = is
