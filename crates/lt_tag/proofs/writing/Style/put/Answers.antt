use Rattle.std.proofs.Common.{Bool, ap}
use Rattle.std.specs.Prelude.{if◌then◌else◌}
use Rattle.std.proofs.lemmas.Result.{IfOk-weaker}
use Rattle.lt_tag.specs.Conventional.{shown}
use Rattle.lt_tag.proofs.PrintingLemmas.{prints_first, prints_next}
use Rattle.lt_tag.proofs.writing.Style.put.Goals as goal

-- The subtag is printed in its style, as `Prints` says. The first is added as it is, without a hyphen.
pub returns-then-not-style-clause-put : goal.returns-then-not-style-clause-put
returns-then-not-style-clause-put g c =
    IfOk-weaker c.add.result _ _ (λ u took. prints_first _ _ _ _ _ _ c.after.ensures c.if-not-style.true took) c.add.ensures.took

-- after a one-character subtag the bytes are added in lower case, behind the hyphen
pub returns-then-style-clause-put : goal.returns-then-style-clause-put
returns-then-style-clause-put g c =
    let e = ap (λ (b : Bool). if b then c.args.subtag.now else shown c.args.subtag.now) c.if-style.true in
    IfOk-weaker c.add-then-style.result _ _
    (λ u took. prints_next _ _ _ _ c.args.self.now c.after.result c.args.subtag.now c.args.subtag.now c.after.ensures c.if-not-style.false e
    c.in_ok-add.ensures.took took)
    c.add-then-style.ensures.took

-- the bytes are added in conventional case, behind the hyphen
pub returns-else-style-clause-put : goal.returns-else-style-clause-put
returns-else-style-clause-put g c =
    let e = ap (λ (b : Bool). if b then c.args.subtag.now else shown c.args.subtag.now) c.if-style.false in
    IfOk-weaker c.put_shown.result _ _
    (λ u took. prints_next _ _ _ _ c.args.self.now c.after.result c.args.subtag.now (shown c.args.subtag.now)
    c.after.ensures c.if-not-style.false e
    c.in_ok-add.ensures.took took)
    c.put_shown.ensures.put
