use Rattle.std.proofs.Common.{sym, ◌∙◌, arith}
use Rattle.lt_check.proofs.OwnNames.{clear_own, is_own_new, single_own, whole_own, own_new, range_new, range_sees}
use Rattle.lt_check.proofs.name_checks.is_new.Goals as goal

-- true is right, as the name is new: each record with a lower number has set the flag of its subtag, and that of this
-- subtag was clear
pub returns-then-mark-clause-new : goal.returns-then-mark-clause-new
returns-then-mark-clause-new g c =
    let R = g.L.Lookup.listed c.args.table.now in
    let own = clear_own R c.args.entry.now c.in-Single.subtag c.args.flags.now (sym c.name.ensures.value
    ∙ c.in-Single.is) c.requires.flags (rw c.kind-kind.ensures.value at (c.mark.ensures.first c.if-mark.true)) in
    is_own_new R c.args.seen.now c.args.entry.now (grind arith) own c.mark.result c.if-mark.true

-- true exactly if the name is new: the look-up gives the first record of the subtag, which is this one exactly then
pub returns-else-mark-clause-new : goal.returns-else-mark-clause-new
returns-else-mark-clause-new g c =
    let R = g.L.Lookup.listed c.args.table.now in
    let own = single_own R c.requires.rising c.args.entry.now c.requires.there c.in-Single.subtag
    (sym c.name.ensures.value ∙ c.in-Single.is) in
    own_new R c.args.seen.now c.args.entry.now (grind arith) _ own c.is_entry.result
    (rw (c.entry.ensures, c.kind-kind.ensures.value) at c.is_entry.ensures)

-- true exactly if the range is new: it was added exactly then, since the set has none twice
pub returns-in-Range-clause-new : goal.returns-in-Range-clause-new
returns-in-Range-clause-new g c = range_new (g.L.Lookup.listed c.args.table.now) c.args.seen.now c.args.entry.now _
    (grind arith) c.add.result c.add.ensures.added

-- from now on the set has the record's range, and those that it had before
pub returns-in-Range-clause-seen : goal.returns-in-Range-clause-seen
returns-in-Range-clause-seen g c = range_sees (g.L.Lookup.listed c.args.table.now) c.args.seen.now c.args.entry.now _
    (grind arith) c.add.new.self c.add.result c.add.ensures.names

-- true exactly if the name is new: the look-up gives the first record of the tag, which is this one exactly then
pub returns-in-Whole-clause-new : goal.returns-in-Whole-clause-new
returns-in-Whole-clause-new g c =
    let R = g.L.Lookup.listed c.args.table.now in
    let own = whole_own R c.requires.rising c.args.entry.now c.requires.there c.in-Whole.whole (sym c.name.ensures.value ∙ c.in-Whole.is) in
    own_new R c.args.seen.now c.args.entry.now (grind arith) _ own c.is_entry-in-Whole.result
    (rw (c.whole.ensures, c.tag.ensures) at c.is_entry-in-Whole.ensures)
