use Rattle.std.proofs.Common.{arith, ap, ◌∙◌, ◌≡◌, ◌-◌, ◌+◌, get_or, take, rules}
use Rattle.std.proofs.Math.Seq.{get_or-take, take-set-lt}
use Rattle.std.proofs.lemmas.Bool.Decides.{nat_tests}
use Rattle.std.proofs.lemmas.List.{length-take-le}
use Rattle.lt_jar.specs.Records.{Field}
use Rattle.lt_jar.specs.Reading.{lengthened}
use Rattle.lt_jar.proofs.TurnLemmas.{continued-set}
use Rattle.lt_jar.proofs.drafts.Draft.continue_field.Goals as goal

-- the fields are what `continued` makes of those before: the last field of the record, at the index below the count,
-- has the longer body, and the others stay as they are
pub returns : goal.returns
returns c =
    let draft = c.args.self.now in
    let items = draft.fields.items in
    let at = draft.count - 1 in
    let last = c.index_mut.result.now in
    let view = c.behind-self.view_is in
    let some : at + 1 ≡ draft.count = grind (arith, nat_tests) in
    let counted = length-take-le draft.count items (omega (arith, draft.within, draft.fields.ok.0)) in
    let here : get_or (take draft.count items) at last ≡ last =
    get_or-take draft.count items at last (omega (arith, some)) ∙ search rules in
    rw (take-set-lt draft.count items at _ (omega (arith, some)))
    (continued-set c.args.text.now (take draft.count items) at last _ (omega (arith, some, counted)) here (ap (λ (f : Field). f.0) view)
    (c.in_ok-lengthen.ensures ∙ ap (λ (f : Field). lengthened f.1 c.args.text.now) view))
