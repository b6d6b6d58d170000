use Rattle.std.proofs.Common.{refl}
use Rattle.lt_check.specs.declared.conditions.Condition.TheVariants as conditions
use Rattle.lt_check.proofs.FirstFaults.{item_at, before_more, all_met, found_fault}
use Rattle.lt_check.proofs.OwnNames.{marked_at, marked_next, new_own, seen_more}
use Rattle.lt_check.proofs.name_checks.first_taken_name.Goals as goal

-- `is_new` asks that the subtags of records with lower numbers have their flags set: these are the entries before this
-- one, of which the loop keeps that
pub is_new-requires-clause-flags : goal.is_new-requires-clause-flags
is_new-requires-clause-flags g c =
    marked_at _ c.entries-entry-items.ensures.rising _ _ _
    (item_at _ _ _ _ c.entries-entry-items.ensures.value c.loop-entry-test.true c.entry-item.is)
    c.loop-entry.invariant.flags

-- the record that is named is the lowest that fails C1: all entries before have names of their own, and this one hasn't
pub returns-then-not-branch : goal.returns-then-not-branch
returns-then-not-branch g c =
    let rising = c.entries-entry-items.ensures.rising in
    let at = item_at _ _ _ _ c.entries-entry-items.ensures.value c.loop-entry-test.true c.entry-item.is in
    found_fault _ rising conditions.OwnName _ _ _ at c.number-number.ensures.value c.loop-entry.invariant.before
    (λ own. cc (
      c.if-not-branch.true,
      c.in_ok-is_new.ensures.new.1
          ((new_own _ _ _ at rising c.loop-entry.seen c.loop-entry.invariant.seen _ refl).1 own),
    ))

-- a turn has one entry more with a name of its own; its flag is set, or its range is among those seen
pub loop-entry-preserved : goal.loop-entry-preserved
loop-entry-preserved g c =
    let rising = c.entries-entry-items.ensures.rising in
    let at = item_at _ _ _ _ c.entries-entry-items.ensures.value c.loop-entry-test.true c.entry-item.is in
    record {
      before = before_more _ conditions.OwnName _ _ at c.loop-entry.invariant.before
          ((new_own _ _ _ at rising c.loop-entry.seen c.loop-entry.invariant.seen _ refl).0
          (c.in_ok-is_new.ensures.new.0 c.if-not-branch.false));
      flags = marked_next _ _ _ _ _ at c.loop-entry.invariant.flags c.in_ok-is_new.ensures.flags;
      seen = seen_more _ _ _ at c.loop-entry.seen c.is_new.new.seen c.loop-entry.invariant.seen c.in_ok-is_new.ensures.seen;
    }

-- None is right: no entry is left, so all entries have names of their own
pub returns : goal.returns
returns g c =
    all_met c.entries-entry-items.result.now (g.L.Lookup.listed c.args.table.now) conditions.OwnName
    c.loop-entry.entry-index c.entries-entry-items.ensures.value c.loop-entry-test.false
    c.loop-entry.invariant.before
