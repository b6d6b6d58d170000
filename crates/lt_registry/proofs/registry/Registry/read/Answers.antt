use Rattle.std.proofs.Common.{◌∙◌, sym, ap, Ok, rules}
use Rattle.std.proofs.lemmas.Result.{err_from_is_err_and}
use Rattle.lt_registry.specs.AddedRecords.{finished}
use Rattle.lt_registry.proofs.EntryLaws.{draft_ended, draft_stops}
use Rattle.lt_registry.proofs.registry.Registry.read.Goals as goal

-- the reader's fault is answered, whatever fault a record before it has
pub returns-in_err-take_next : goal.returns-in_err-take_next
returns-in_err-take_next g c =
    let p = err_from_is_err_and c.from_residual-in_err-take_next.result c.from_residual-in_err-take_next.ensures.1 in
    let old = c.records.reader in
    let new = c.take_next.new.reader in
    let done = draft_stops g.R.Read.remaining c.in_ok-reader.reader.source old.source new.source c.args.device.now
    old.device.now new.device.now c.records.draft c.in_err-take_next.field-0.0 c.records.invariant.1
    (rw c.in_err-take_next.was at c.take_next.ensures.advances) in
    rw (p.1, p.2) (search rules)

-- the text has ended without a fault, so the draft's fault, of the lowest record at fault, is answered
pub returns-in_err-finish : goal.returns-in_err-finish
returns-in_err-finish g c =
    let p = err_from_is_err_and c.from_residual-in_err-finish.result c.from_residual-in_err-finish.ensures.1 in
    let no_more = c.in_ok-take_next.was ∙ ap Ok c.if-branch.false in
    let given = ap (λ d. finished d.entries d.fault) (sym (c.take_next.ensures.keeps no_more)) ∙ sym c.finish.ensures
    ∙ c.in_err-finish.was in
    let done = rw given at (draft_ended g.R.Read.remaining c.in_ok-reader.reader.source c.records.reader.source
    c.take_next.new.reader.source c.args.device.now c.records.reader.device.now c.take_next.new.reader.device.now
    c.records.draft c.records.invariant.1
    (rw no_more at c.take_next.ensures.advances)) in
    rw (p.1, p.2) (search rules)

-- the text has ended without a fault, and the draft has none, so its entries are those of all records
pub returns : goal.returns
returns g c =
    let no_more = c.in_ok-take_next.was ∙ ap Ok c.if-branch.false in
    let given = ap (λ d. finished d.entries d.fault) (sym (c.take_next.ensures.keeps no_more)) ∙ sym c.finish.ensures
    ∙ c.in_ok-finish.was in
    let done = rw given at (draft_ended g.R.Read.remaining c.in_ok-reader.reader.source c.records.reader.source
    c.take_next.new.reader.source c.args.device.now c.records.reader.device.now c.take_next.new.reader.device.now
    c.records.draft c.records.invariant.1
    (rw no_more at c.take_next.ensures.advances)) in
    search rules
