use Rattle.std.proofs.Common.{◌∙◌}
use Rattle.lt_registry.proofs.NumberLemmas.{lists_found}
use Rattle.lt_registry.proofs.prefixes.Prefixes.has.Goals as goal

-- the search among the numbers tells whether the subtag alone is a Prefix: two subtags have the same number only if
-- they are the same
pub returns : goal.returns
returns c =
    let at = rw (c.deref.ensures.value, c.number.ensures.number) at c.binary_search.ensures.position in
    c.is_ok.ensures.value
    ∙ lists_found c.args.self.now c.self.inside.singles.items c.args.subtag.now c.binary_search.result (rw
    (← c.self.view_is) c.self.invariant) c.requires c.number.ensures.subtag at
