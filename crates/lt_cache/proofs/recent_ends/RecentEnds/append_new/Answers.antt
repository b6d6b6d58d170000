use Rattle.std.proofs.Common.{◌∙◌, refl, sym, arith}
use Rattle.lt_cache.proofs.KeptEnds.{end_stands, follows_front}
use Rattle.lt_cache.proofs.recent_ends.RecentEnds.append_new.Goals as goal

-- `start + count` does not overflow: the core of the text, which has `count` bytes, is in the texts after `start`, so
-- the sum is no more than their length
pub overflow_add-start : goal.overflow_add-start
overflow_add-start g c =
    let new = c.append_other_text.new.texts in
    let stands = end_stands _ c.args.text.now _ _ _ c.len-start.result c.args.count
    (sym (c.len-start.ensures ∙ c.args.texts.now.ok.0)) c.requires
    (c.in_ok-append_other_text.ensures {u = tt}).appended in
    omega (arith, (follows_front _ c.table.ensures.checked _ _ _ _ stands refl).within, new.ok.0, new.small)
