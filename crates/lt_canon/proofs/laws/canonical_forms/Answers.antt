use Rattle.lt_canon.proofs.CanonicalForms.{text_twice_is_once}
use Rattle.lt_canon.proofs.laws.canonical_forms.Goals as goal

-- a canonical text is its own canonical text, unless it is too long to be read: it is read as the canonical form whose
-- text it is, which is its own
pub returns-clause-text_twice : goal.returns-clause-text_twice
returns-clause-text_twice c = text_twice_is_once
