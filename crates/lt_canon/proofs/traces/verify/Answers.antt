use Rattle.std.proofs.Common.{ap, rules}
use Rattle.std.proofs.lemmas.Result.{err_from_is_err_and}
use Rattle.lt_tag.specs.OrderLaws.{same_exactly, tag_total, tags_apart}
use Rattle.lt_registry.specs.Validity.{IsValid}
use Rattle.lt_registry.proofs.ValidityLaws.{valid_law}
use Rattle.lt_canon.specs.declared.traces.TraceFault.TheVariants as faults
use Rattle.lt_canon.proofs.TraceLemmas.{invalid_trace, follow_fault, fault_excludes, ends_elsewhere}
use Rattle.lt_canon.proofs.traces.verify.Goals as goal
use Rattle.lt_canon.proofs.traces.verify.Goals.{After-extensions}

-- once `validate` found no fault, the tag is valid
valid : (g : _) (c : After-extensions g) → IsValid (g.L.Lookup.listed c.args.checked.now) c.args.tag.now
valid g c = rw (← c.table-table.ensures.value)
    ((valid_law (g.L.Lookup.listed c.table-table.result.now) c.args.tag.now c.extensions.ensures.tag).1
    (c.in_ok-validate.ensures {u = tt}).ok)

-- `follow` may be called, which asks for a proper tag: this one is valid
pub follow-requires : goal.follow-requires
follow-requires g c = rw c.table-table.ensures.value (valid g (goal.at.follow-requires g c).After-extensions).proper

-- where `validate` found a fault, the trace is not right: no steps are a trace from a tag that is not valid
pub returns-in_err-validate-clause-exact : goal.returns-in_err-validate-clause-exact
returns-in_err-validate-clause-exact g c =
    let p = err_from_is_err_and c.from_residual.result c.from_residual.ensures.1 in
    rw p.1 (fault_excludes (g.L.Lookup.listed c.args.checked.now) c.args.tag.now c.args.trace.now.last c.args.trace.now.steps.items p.0
    (rw (p.2, ← c.table-table.ensures.value) (invalid_trace (g.L.Lookup.listed c.table-table.result.now) c.args.tag.now
    c.args.trace.now.last c.args.trace.now.steps.items c.in_err-validate.field-0.0
    (c.in_err-validate.ensures {u = tt}).err)))

-- where `follow` refuses, its fault is that of the trace, and the trace is not right: a step leads nowhere, or memory
-- ran out
pub returns-in_err-end : goal.returns-in_err-end
returns-in_err-end g c =
    let p = err_from_is_err_and c.from_residual-in_err-end.result c.from_residual-in_err-end.ensures.1 in
    let told = follow_fault (g.L.Lookup.listed c.args.checked.now) (g.L.Lookup.listed c.table-table.result.now)
    c.args.tag.now c.args.trace.now.last c.args.trace.now.steps.items c.deref.result.now c.in_err-end.field-0.0 p.0
    (ap g.L.Lookup.listed c.table-table.ensures.value) c.deref.ensures.value p.2
    (valid g (goal.at.returns-in_err-end g c).After-extensions) (c.in_err-end.ensures {u = tt}).err in
    record {
      ok = search rules;
      equivalent = search rules;
      err = rw p.1 told;
      exact = rw p.1 (fault_excludes (g.L.Lookup.listed c.args.checked.now) c.args.tag.now c.args.trace.now.last
          c.args.trace.now.steps.items p.0 told);
    }

-- where the end is the last tag of the trace, the trace is right, and that tag is equivalent to the first
pub returns-then-eq : goal.returns-then-eq
returns-then-eq g c =
    let led = rw (c.table-table.ensures.value, c.deref.ensures.value) at (c.in_ok-end.ensures {u = tt}).ok in
    let trace = rw ((same_exactly tag_total tags_apart c.in_ok-end.end c.args.trace.now.last c.eq.result c.eq.ensures).0
    c.if-eq.true) at led in
    let V = valid g (goal.at.returns-then-eq g c).After-extensions in
    let same = (c.traces_reach_their_end.ensures (g.L.Lookup.listed c.args.checked.now) c.args.tag.now
    c.args.trace.now.last c.args.trace.now.steps.items trace).1 in
    search (rules, V, trace, same)

-- WrongEnd is right, and the trace is not: the steps lead to one end only, and the last tag of the trace is another
pub returns : goal.returns
returns g c =
    let led = rw (c.table-table.ensures.value, c.deref.ensures.value) at (c.in_ok-end.ensures {u = tt}).ok in
    let err = ends_elsewhere (g.L.Lookup.listed c.args.checked.now) c.args.tag.now c.in_ok-end.end c.args.trace.now.last
    c.args.trace.now.steps.items c.eq.result (valid g (goal.at.returns g c).After-extensions) led c.eq.ensures
    c.if-eq.false in
    record {
      ok = tt;
      equivalent = tt;
      err = err;
      exact = fault_excludes (g.L.Lookup.listed c.args.checked.now)
          c.args.tag.now c.args.trace.now.last c.args.trace.now.steps.items faults.WrongEnd err;
    }
