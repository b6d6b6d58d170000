use Rattle.std.proofs.Common.{◌∙◌, IsTrue, rules, sym}
use Rattle.lt_cache.proofs.SettledEnds.{settled_appended}
use Rattle.lt_cache.proofs.recent_ends.RecentEnds.append_canonical_text.Goals as goal

-- what was appended is the canonical text: the front stays as it is, and after it a settled end is canonical in lower
-- case
pub returns-then-is_settled_end-clause-appended : goal.returns-then-is_settled_end-clause-appended
returns-then-is_settled_end-clause-appended g c = λ _.
    let parts = c.in-Some.ensures {u = tt} in
    let told = c.in_ok-append_front.ensures {u = tt} in
    let yes : IsTrue c.in_ok-append_front.field-0 = search rules in
    settled_appended (g.L.Lookup.listed c.args.checked.now) c.append_front.ensures.checked c.in-Some.front.now
    c.in-Some.end.now c.args.text.now
    c.args.texts.now.items c.append_front.new.texts.items c.append_lower.new.texts.items (told.exact.0 yes) parts.whole parts.short
    (told.appended yes) (sym c.is_settled_end.ensures ∙ c.if-is_settled_end.true) (c.in_ok-append_lower.ensures {u = tt}).appended
