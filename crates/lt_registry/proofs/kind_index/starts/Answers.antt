use Rattle.std.proofs.Common.{◌≡◌, ◌+◌, ◌-◌, ◌++◌, length, take, replicate, get_or, ap, subst, ◌∙◌, arith}
use Rattle.std.proofs.lemmas.List.{get_or_default}
use Rattle.lt_registry.specs.declared.rows.Row.{Row}
use Rattle.lt_registry.proofs.SpanLemmas.{StartsSoFar, starts_more, starts_all}
use Rattle.lt_registry.proofs.kind_index.starts.Goals as goal

-- the invariant stays true: a turn adds starts up to that of the row's beginning, and the new ones have no row before
-- this one
pub loop-place-preserved : goal.loop-place-preserved
loop-place-preserved c =
    let rows = c.args.rows.now in
    let i = c.loop-place.place in
    let starts = c.loop-place.starts.items in
    let d : Row = record { number = 0; place = 0 } in
    let w : Row = get_or rows i d in
    starts_more rows i w starts c.resize.new.self.items c.loop-place-test.true
    (get_or_default rows i d w c.loop-place-test.true) c.requires c.loop-place.invariant
    (c.in_ok-resize.ensures.items
    ∙ ap (λ n. take (c.beginning.result + 1) starts ++ replicate (c.beginning.result + 1 - n) i)
    c.loop-place.starts.ok.0
    ∙ ap (λ k. take (k + 1) starts ++ replicate (k + 1 - length starts) i) c.beginning.ensures)

-- no row is left, and the count of the rows ends the span of the last beginning
pub returns : goal.returns
returns c =
    let rows = c.args.rows.now in
    let all : c.loop-place.place ≡ length rows = omega arith in
    starts_all rows c.loop-place.starts.items c.push.new.self.items
    (subst (λ i. StartsSoFar rows i c.loop-place.starts.items) all c.loop-place.invariant) c.in_ok-push.ensures.items
