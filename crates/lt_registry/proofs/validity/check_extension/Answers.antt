use Rattle.std.proofs.Common.{sym, ap, ◌∙◌, subst}
use Rattle.std.proofs.lemmas.Result.{err_from_is_err_and}
use Rattle.lt_registry.specs.Checking.{Tells}
use Rattle.lt_registry.proofs.CoreFaultLemmas.{ExtensionFault, source_tells}
use Rattle.lt_registry.proofs.validity.check_extension.Goals as goal

-- the first fault of the source is the first of the `t` extension, which has parts and so no other faults than its
-- source
pub returns-in_err-check_source-in-Ok : goal.returns-in_err-check_source-in-Ok
returns-in_err-check_source-in-Ok g c =
    let p = err_from_is_err_and c.from_residual.result c.from_residual.ensures.1 in
    let told = source_tells (g.L.Lookup.listed c.args.table.now) c.args.may_repeat c.args.place c.args.extension.now
    c.in-Ok.parts c.parts.inside.source (sym c.singleton.ensures.value ∙ c.if-singleton-ne116.false)
    c.in-Ok.ensures.parts (sym (ap (λ t. t.source) c.parts.view_is)) in
    rw (p.1, p.2)
    (subst (Tells (ExtensionFault (g.L.Lookup.listed c.args.table.now) c.args.may_repeat c.args.place
    c.args.extension.now)) (sym c.check_source.ensures ∙ c.in_err-check_source-in-Ok.was) told)

-- the `t` extension has no fault: it has parts and so no other faults than its source, which has none
pub returns-in_ok-check_source-in-Ok : goal.returns-in_ok-check_source-in-Ok
returns-in_ok-check_source-in-Ok g c =
    let told = source_tells (g.L.Lookup.listed c.args.table.now) c.args.may_repeat c.args.place c.args.extension.now
    c.in-Ok.parts c.parts.inside.source (sym c.singleton.ensures.value ∙ c.if-singleton-ne116.false)
    c.in-Ok.ensures.parts (sym (ap (λ t. t.source) c.parts.view_is)) in
    subst (Tells (ExtensionFault (g.L.Lookup.listed c.args.table.now) c.args.may_repeat c.args.place
    c.args.extension.now)) (sym c.check_source.ensures ∙ c.in_ok-check_source-in-Ok.was) told
