use Rattle.std.proofs.Common.{refl}
use Rattle.lt_range.proofs.PieceLemmas.{are_subtags}
use Rattle.lt_range.proofs.tag_subtags.SubtagList.of_text.Goals as goal

-- before the loop no subtag is read, and each piece of the text is one
pub loop-rest-init : goal.loop-rest-init
loop-rest-init c = record {
  read = rw c.new-subtags.ensures.items refl;
  good = are_subtags _ c.requires;
}
