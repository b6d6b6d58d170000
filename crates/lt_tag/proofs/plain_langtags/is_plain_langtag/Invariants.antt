use Rattle.lt_tag.proofs.PlainLangTagLemmas.{HasRoom}
use Rattle.lt_tag.proofs.plain_langtags.is_plain_langtag.Given as goal

-- the subtags so far spell a core, which has this room for more
abbrev pub invariant-loop-subtag : goal.invariant-loop-subtag
invariant-loop-subtag l = HasRoom l.fn.subtags l.others l.subtag-index l.room
