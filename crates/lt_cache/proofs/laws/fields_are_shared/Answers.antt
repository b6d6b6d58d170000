use Rattle.lt_cache.proofs.SourceLemmas.{fields_shared}
use Rattle.lt_cache.proofs.laws.fields_are_shared.Goals as goal

-- In canonical texts, the same follows each canonical source with the same fields: their normal form doesn't depend on
-- the source or the core, since both are canonical already.
pub returns : goal.returns
returns c = fields_shared
