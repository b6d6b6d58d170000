use Rattle.std.proofs.Common.{Bool, ap}
use Rattle.std.specs.Prelude.{if◌then◌else◌}
use Rattle.std.proofs.lemmas.Result.{IfOk-weaker}
use Rattle.lt_tag.specs.Conventional.{shown}
use Rattle.lt_tag.proofs.PrintingLemmas.{prints_first, prints_hyphened}
use Rattle.lt_tag.proofs.writing.Style.put_subtag.Goals as goal

-- The subtag is printed in its style, as `Prints` says. The first is added in lower case, without a hyphen.
pub returns-then-not-style-clause-put : goal.returns-then-not-style-clause-put
returns-then-not-style-clause-put g c =
    IfOk-weaker c.add_first.result _ _ (λ u took. prints_first _ _ _ c.args.self.now c.after.result c.args.subtag.now
    (rw (← c.bytes.ensures.same) c.after.ensures) c.if-not-style.true took) c.add_first.ensures.add

-- after a one-character subtag this one is added in lower case, with a hyphen
pub returns-then-style-clause-put : goal.returns-then-style-clause-put
returns-then-style-clause-put g c =
    let e = ap (λ (b : Bool). if b then c.args.subtag.now else shown c.args.subtag.now) c.if-style.true in
    IfOk-weaker c.add_hyphened.result _ _
    (λ u took. prints_hyphened _ _ _ c.args.self.now c.after.result c.args.subtag.now c.args.subtag.now
    (rw (← c.bytes.ensures.same) c.after.ensures) c.if-not-style.false e took)
    c.add_hyphened.ensures.add

-- this subtag is added in conventional case, with a hyphen
pub returns-else-style-clause-put : goal.returns-else-style-clause-put
returns-else-style-clause-put g c =
    let e = ap (λ (b : Bool). if b then c.args.subtag.now else shown c.args.subtag.now) c.if-style.false in
    IfOk-weaker c.add_shown.result _ _
    (λ u took. prints_hyphened _ _ _ c.args.self.now c.after.result c.args.subtag.now (shown c.args.subtag.now)
    (rw (← c.bytes.ensures.same) c.after.ensures) c.if-not-style.false e took)
    c.add_shown.ensures.add
