use Rattle.std.proofs.Common.{◌∙◌, ◌++◌, List, ap, arith, map}
use Rattle.std.proofs.lemmas.List.{length-map}
use Rattle.std.proofs.lemmas.Result.{err_from_is_err_and}
use Rattle.lt_range.specs.Elements.{parts_of}
use Rattle.lt_range.specs.Ranges.{RangeParts}
use Rattle.lt_range.proofs.AskedLemmas.{memory_at, preferences_end, preferences_moved, refused_at}
use Rattle.lt_range.proofs.asked.preferences_of.Goals as goal

-- a refusal is that of the range of one of the elements: of this one
pub returns-in_err-append_ranges-clause-refusal : goal.returns-in_err-append_ranges-clause-refusal
returns-in_err-append_ranges-clause-refusal g c =
    let p = err_from_is_err_and c.from_residual.result c.from_residual.ensures.1 in
    rw (p.1, p.2) (refused_at (g.L.Lookup.listed c.args.table.now) c.args.elements.now c.loop-place.place _
    c.in_err-append_ranges.field-0.0 c.loop-place-test.true c.in_err-append_ranges.ensures.refusal)

-- the refusal for lack of memory is right of any element
pub returns-in_err-append_weighted-clause-refusal : goal.returns-in_err-append_weighted-clause-refusal
returns-in_err-append_weighted-clause-refusal g c =
    let p = err_from_is_err_and c.from_residual-in_err-append_weighted.result c.from_residual-in_err-append_weighted.ensures.1 in
    rw (p.1, p.2) (memory_at (g.L.Lookup.listed c.args.table.now) c.args.elements.now c.loop-place.place c.loop-place-test.true)

-- after a turn `all` are the preferences of one element more: its own are added
pub loop-place-preserved : goal.loop-place-preserved
loop-place-preserved g c =
    let added = c.in_ok-append_ranges.ensures.appended in
    let items = added.1 ∙ ap (λ (l : List RangeParts). l ++ added.0) c.loop-place.invariant.empty in
    record {
      so_far = preferences_moved (g.L.Lookup.listed c.args.table.now) c.args.elements.now c.loop-place.place _
          c.loop-place.all.items _ _ added.0 c.loop-place-test.true added.2 items c.in_ok-append_weighted.ensures.moved
          c.loop-place.invariant.so_far;
      empty = c.in_ok-append_weighted.ensures.empty;
    }

-- the preferences are those of all elements: none is left
pub returns-clause-preferences : goal.returns-clause-preferences
returns-clause-preferences g c =
    let elements = c.args.elements.now in
    preferences_end (g.L.Lookup.listed c.args.table.now) (map parts_of elements) c.loop-place.place c.loop-place.all.items
    (omega (arith, c.loop-place-test.false, length-map elements parts_of)) c.loop-place.invariant.so_far
