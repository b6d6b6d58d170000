use Rattle.lt_show.proofs.PlaceLemmas.{reached_next, reached_last, reached_end}
use Rattle.lt_show.specs.declared.kinds.PartKind.TheVariants as kinds
use Rattle.lt_show.proofs.placing.place.Goals.{else-loop-kind-test, then-loop-kind-test+in_ok-push+then-is_none}
use Rattle.lt_show.proofs.placing.place.Goals as goal

-- a turn keeps the invariant where a hyphen ends the part that was placed: what is left begins after the hyphen
pub loop-kind-preserved : goal.loop-kind-preserved
loop-kind-preserved c =
    reached_next _ _ _ _ _ _ _ _
    (record {
      kind = kinds.Language;
      there = c.loop-kind-test.true;
      before = c.loop-kind.invariant;
      found = c.first_hyphen-end.ensures;
      is_size = c.unwrap_or-length.ensures;
      pushed = c.in_ok-push.ensures.items;
    })
    c.if-is_none.ensures

-- the result is `placed`: the loop ended after the last kind, or after a part that no hyphen ends, so no part is
-- missing
pub returns : goal.returns
returns c =
    elim c.loop-kind-test.branch [
      | else-loop-kind-test w ↦ rw w.parts-is (reached_end _ _ _ _ _ c.loop-kind.invariant w.loop-kind-test.false)
      | then-loop-kind-test+in_ok-push+then-is_none w ↦ rw w.parts-is
          (reached_last _ _ _ _ _ _ _ _
          (record {
            kind = kinds.Language;
            there = w.loop-kind-test.true;
            before = c.loop-kind.invariant;
            found = w.first_hyphen-end.ensures;
            is_size = w.unwrap_or-length.ensures;
            pushed = w.in_ok-push.ensures.items;
          }) w.if-is_none.ensures)
    ]
