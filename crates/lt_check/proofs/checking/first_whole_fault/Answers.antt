use Rattle.std.proofs.lemmas.Bool.{iff_false, not-true, not-false}
use Rattle.lt_check.specs.declared.conditions.Condition.TheVariants as conditions
use Rattle.lt_check.proofs.FirstFaults.{item_at, before_more, all_met, found_fault, so_far_met, so_far_fault, so_far_all}
use Rattle.lt_check.proofs.Judging.{judged_whole}
use Rattle.lt_check.proofs.checking.first_whole_fault.Goals as goal
use Rattle.lt_check.proofs.checking.first_whole_fault.Goals.{then-not-judged-2, else-not-judged-2}

-- The record that is named is the verdict on C1 to C11: all entries before meet C10, so this is its lowest fault. It
-- goes before any fault of C11.
pub returns-then-not-judged : goal.returns-then-not-judged
returns-then-not-judged g c =
    let at = item_at _ _ _ _ c.entries-entry-items.ensures.value c.loop-entry-test.true c.entry-item.is in
    let f = (found_fault _ c.entries-entry-items.ensures.rising conditions.RestingWhole _ _ _ at
    c.number-number.ensures.value c.loop-entry.invariant.rests
    (iff_false c.in_ok-judged.ensures.rests (not-true _ c.if-not-judged.true))).1 in
    record { fault = f.fault; lower = c.requires.lower; first = f.first }

-- a turn has one entry more that meets C10, and keeps the first that fails C11
pub loop-entry-preserved : goal.loop-entry-preserved
loop-entry-preserved g c =
    let at = item_at _ _ _ _ c.entries-entry-items.ensures.value c.loop-entry-test.true c.entry-item.is in
    record {
      rests = before_more _ conditions.RestingWhole _ _ at c.loop-entry.invariant.rests
          (c.in_ok-judged.ensures.rests.0 (not-false _ c.if-not-judged.false));
      agrees = elim c.if-not-judged-2.branch [
        | then-not-judged-2 w ↦ rw (w.found-is, w.or-found.ensures)
            (so_far_fault _ c.entries-entry-items.ensures.rising conditions.AgreeingWhole _ _ _ at
            c.number-number.ensures.value _ c.loop-entry.invariant.agrees
            (iff_false c.in_ok-judged.ensures.agrees (not-true _ w.if-not-judged-2.true)))
        | else-not-judged-2 w ↦ rw w.found-is
            (so_far_met _ conditions.AgreeingWhole _ _ at _ c.loop-entry.invariant.agrees
            (c.in_ok-judged.ensures.agrees.0 (not-false _ w.if-not-judged-2.false)))
      ];
    }

-- no entry is left: all meet C10, and what was found is the lowest fault of C11, or there is none
pub returns : goal.returns
returns g c =
    judged_whole _ c.requires.lower (all_met _ _ conditions.RestingWhole _ c.entries-entry-items.ensures.value
    c.loop-entry-test.false c.loop-entry.invariant.rests)
    c.loop-entry.found (so_far_all _ _ conditions.AgreeingWhole _ c.entries-entry-items.ensures.value
    c.loop-entry-test.false _ c.loop-entry.invariant.agrees)
