use Rattle.std.proofs.Common.{◌≡◌, ◌++◌, length, map}
use Rattle.lt_subtag.specs.Bytes.{folded}
use Rattle.lt_tag.specs.Lists.{list_of}
use Rattle.lt_tag.specs.Rest.{pieces_left}
use Rattle.lt_range.proofs.PieceLemmas.{AreSubtags}
use Rattle.lt_range.proofs.tag_subtags.SubtagList.of_text.Given as goal

-- the subtags so far and those of what is left are those of the text
abbrev pub invariant-loop-rest : goal.invariant-loop-rest
invariant-loop-rest l = record {
  read : l.subtags.items ++ map folded (pieces_left l.rest) ≡ list_of l.text;
  good : AreSubtags (pieces_left l.rest);
}

-- each turn leaves a piece less
abbrev pub decreases-loop-rest : goal.decreases-loop-rest
decreases-loop-rest l = length (pieces_left l.rest)
