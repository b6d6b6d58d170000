use Rattle.std.proofs.Common.{◌∙◌, ◌+◌, length, subst, sym, arith}
use Rattle.lt_cache.specs.Ends.{AreEnds}
use Rattle.lt_cache.proofs.KeptEnds.{CanKeep, follows_front, follows_source, kept_put}
use Rattle.lt_cache.proofs.recent_ends.RecentEnds.keep.Goals as goal
use Rattle.lt_cache.proofs.recent_ends.RecentEnds.keep.Goals.{After-deref, After-deref-in-None}

-- where the source stays: what the texts have after it, which is put for the fields
after_source : (g : _) (c : goal.After-deref g)
    → CanKeep (g.L.Lookup.listed c.args.checked.now) c.in-Some.fields.now c.deref.result.now (c.args.from + 3
    + length c.in-Some.source.now)
after_source g c =
    let found = c.in-Some.ensures {u = tt} in
    follows_source _ c.table.ensures.checked c.in-Some.source.now c.in-Some.fields.now c.args.end.now c.deref.result.now
    _ c.args.from c.requires
    (c.deref.ensures.value ∙ c.staying_source.ensures.kept) found.source found.end

-- the source in the texts ends before they do, so the sum is no more than their length
pub overflow_add-from : goal.overflow_add-from
overflow_add-from g c = omega (arith, (after_source g c).within, c.deref.type_inv.0)

-- the source in the texts ends before they do, so the slice begins within them
pub slice_bounds-put-count : goal.slice_bounds-put-count
slice_bounds-put-count g c = (after_source g c).within

-- the source in the texts ends before they do, so the slice begins within them
pub slice_bounds-put-start : goal.slice_bounds-put-start
slice_bounds-put-start g c = (after_source g c).within

-- the source in the texts ends before they do, so the sum is no more than their length
pub overflow_add-from-in-Some : goal.overflow_add-from-in-Some
overflow_add-from-in-Some g c = omega (arith, (after_source g c).within, c.deref.type_inv.0)

-- if the table was right, it is so after the call: what follows a canonical source with these fields was put for the
-- fields
pub returns-in-Some-clause-ends : goal.returns-in-Some-clause-ends
returns-in-Some-clause-ends g c = λ ends.
    kept_put _ c.self.inside.texts c.put.new.self c.in-Some.fields.now c.deref.result.now _ c.put.ensures
    (after_source g (goal.at.returns-in-Some-clause-ends g c).After-deref)
    (subst (AreEnds (g.L.Lookup.listed c.args.checked.now)) (sym c.self.view_is) ends)

-- else: what the texts have after the front, which is put for the end
after_front : (g : _) (c : goal.After-deref-in-None g)
    → CanKeep (g.L.Lookup.listed c.args.checked.now) c.args.end.now c.deref-in-None.result.now c.args.from
after_front g c = follows_front _ c.table.ensures.checked c.args.end.now c.deref-in-None.result.now _ c.args.from
    c.requires (c.deref-in-None.ensures.value ∙ c.staying_source.ensures.kept)

-- the end begins within the texts, and so does the slice
pub slice_bounds-put-count-in-None : goal.slice_bounds-put-count-in-None
slice_bounds-put-count-in-None g c = (after_front g c).within

-- the end begins within the texts, and so does the slice
pub slice_bounds-put-start-in-None : goal.slice_bounds-put-start-in-None
slice_bounds-put-start-in-None g c = (after_front g c).within

-- if the table was right, it is so after the call: what follows a canonical core with this end was put for the end
pub returns-in-None-clause-ends : goal.returns-in-None-clause-ends
returns-in-None-clause-ends g c = λ ends.
    kept_put _ c.self.inside.texts c.put-in-None.new.self c.args.end.now c.deref-in-None.result.now _
    c.put-in-None.ensures (after_front g (goal.at.returns-in-None-clause-ends g c).After-deref-in-None)
    (subst (AreEnds (g.L.Lookup.listed c.args.checked.now)) (sym c.self.view_is) ends)
