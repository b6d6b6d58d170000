use Rattle.lt_canon.proofs.RepeatedVariants.{repeat_together}
use Rattle.lt_canon.proofs.CanonicalForms.{twice_is_once, text_twice_is_once}
use Rattle.lt_canon.proofs.laws.confluence.Goals as goal

-- Of two equivalent valid tags, steps can repeat a variant of both or of neither: they have one end form, and this
-- repeats one if steps from either can.
pub returns-clause-together : goal.returns-clause-together
returns-clause-together g c = repeat_together (g.L.Lookup.listed c.args.checked.now) c.table.ensures.checked

-- a canonical form is its own canonical form, and has no other: no step leads from it
pub returns-clause-twice : goal.returns-clause-twice
returns-clause-twice g c = twice_is_once (g.L.Lookup.listed c.args.checked.now) c.table.ensures.checked

-- a canonical text is its own canonical text, unless it is too long to be read: it is read as the canonical form whose
-- text it is, which is its own
pub returns-clause-text_twice : goal.returns-clause-text_twice
returns-clause-text_twice g c = text_twice_is_once (g.L.Lookup.listed c.args.checked.now) c.table.ensures.checked
