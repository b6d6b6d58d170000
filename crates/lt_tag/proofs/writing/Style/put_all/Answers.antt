use Rattle.lt_tag.proofs.PrintingLemmas.{prints_append, prints_as, kept_trans, take_turn}
use Rattle.lt_tag.proofs.writing.Style.put_all.Goals as goal

-- a turn prints one subtag more, and the sink keeps what it held
pub loop-subtag-preserved : goal.loop-subtag-preserved
loop-subtag-preserved g c = record {
  put = prints_as
      (take_turn c.args.subtags.now c.loop-subtag.subtag-index _ c.loop-subtag-test.true c.subtag-item.is)
      (prints_append c.loop-subtag.invariant.put c.in_ok-put_subtag.ensures.put);
  kept = kept_trans _ _ _ c.loop-subtag.invariant.kept c.put_subtag.ensures.kept;
}
