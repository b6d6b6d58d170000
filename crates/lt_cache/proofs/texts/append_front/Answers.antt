use Rattle.lt_cache.proofs.KeptEnds.{front_appended}
use Rattle.lt_cache.proofs.texts.append_front.Goals as goal

-- true exactly of a front whose subtags stay: the flags are those of the registry, and tell just that
pub returns-clause-exact : goal.returns-clause-exact
returns-clause-exact g c = (c.in_ok-told.ensures {u = tt}).exact (g.L.Lookup.listed c.args.checked.now) c.usual.ensures.flags

-- where true is answered, the front was appended in conventional case, as the flags do that are of the registry
pub returns-clause-appended : goal.returns-clause-appended
returns-clause-appended g c = (c.in_ok-told.ensures {u = tt}).appended (g.L.Lookup.listed c.args.checked.now) c.usual.ensures.flags

-- what was appended, if anything, is a canonical core: a text of subtags that stay is read as a core alone, which is
-- canonical
pub returns-clause-told : goal.returns-clause-told
returns-clause-told g c =
    let R = g.L.Lookup.listed c.args.checked.now in
    let ensured = c.in_ok-told.ensures {u = tt} in
    front_appended R c.usual.ensures.checked c.args.front.now c.args.texts.now.items c.append_text.new.texts.items c.in_ok-told.told
    (λ told. (ensured.exact R c.usual.ensures.flags).0 told) (ensured.appended R c.usual.ensures.flags) ensured.unchanged
