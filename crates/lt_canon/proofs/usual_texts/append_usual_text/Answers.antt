use Rattle.lt_canon.proofs.UsualForms.{stays_appended}
use Rattle.lt_canon.proofs.usual_texts.append_usual_text.Goals as goal

-- true exactly of a text whose subtags stay: the flags are those of the registry, and tell just that
pub returns-clause-exact : goal.returns-clause-exact
returns-clause-exact g c = (c.in_ok-told.ensures {u = tt}).exact (g.L.Lookup.listed c.args.checked.now) c.usual.ensures.flags

-- what was appended is the canonical text: no step leads from a langtag of subtags that stay, so its text in
-- conventional case is canonical
pub returns-clause-appended : goal.returns-clause-appended
returns-clause-appended g c = λ told.
    let R = g.L.Lookup.listed c.args.checked.now in
    let ensured = c.in_ok-told.ensures {u = tt} in
    stays_appended R c.usual.ensures.checked c.args.text.now c.args.texts.now.items c.append_text.new.texts.items
    ((ensured.exact R c.usual.ensures.flags).0 told) (ensured.appended R c.usual.ensures.flags told)
