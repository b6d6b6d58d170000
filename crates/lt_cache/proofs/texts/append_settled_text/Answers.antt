use Rattle.lt_cache.proofs.SettledEnds.{end_appended}
use Rattle.lt_cache.proofs.texts.append_settled_text.Goals as goal

-- what was appended is the canonical text: the front is a canonical core, and what was appended for the end follows
-- each such core with it
pub returns-clause-appended : goal.returns-clause-appended
returns-clause-appended g c = λ _.
    let R = g.L.Lookup.listed c.args.checked.now in
    let told = c.in-Ok-true.ensures {u = tt} in
    let parts = c.in-Some.ensures {u = tt} in
    end_appended R c.append_front.ensures.checked c.in-Some.front.now c.in-Some.end.now c.args.text.now
    c.args.texts.now.items c.append_front.new.texts.items c.append_end.new.texts.items
    (told.exact.0 c.in-Ok-true.field-0-test) parts.whole parts.short (told.appended c.in-Ok-true.field-0-test)
    (c.append_end.ensures.appended c.if-not-append_end.false)
