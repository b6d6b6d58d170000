use Rattle.std.proofs.Common.{◌∙◌, ap, Ok, rules}
use Rattle.std.proofs.lemmas.Result.{err_from_is_err_and}
use Rattle.lt_show.proofs.KeptLemmas.{kept_ended, kept_more, kept_stops}
use Rattle.lt_show.proofs.reading.read_draft.Goals as goal

-- the clause `ReadsDraft` of a fault, which is the reader's
pub returns-in_err-take_next : goal.returns-in_err-take_next
returns-in_err-take_next g c =
    let p = err_from_is_err_and c.from_residual-in_err-take_next.result c.from_residual-in_err-take_next.ensures.1 in
    let old = c.records.reader in
    let new = c.take_next.new.reader in
    let done = kept_stops g.R.Read.remaining c.in_ok-reader.reader.source old.source new.source c.args.device.now
    old.device.now new.device.now c.records.draft c.in_err-take_next.field-0.0 c.records.invariant.1
    (rw c.in_err-take_next.was at c.take_next.ensures.advances) in
    rw (p.1, p.2) (search rules)

-- the clause `ReadsDraft` of a draft: the reader has no record left, so the draft has kept all of them
pub returns : goal.returns
returns g c =
    let no_more = c.in_ok-take_next.was ∙ ap Ok c.if-branch.false in
    let done = kept_ended g.R.Read.remaining c.in_ok-reader.reader.source c.records.reader.source
    c.take_next.new.reader.source c.args.device.now c.records.reader.device.now c.take_next.new.reader.device.now
    c.records.draft c.records.invariant.1
    (rw no_more at c.take_next.ensures.advances) in
    let same = c.take_next.ensures.keeps no_more in
    rw same (search rules)

-- a turn keeps the invariant: the reader's device is the same, and the draft has kept one record more, unless memory
-- ran out for it or for one before
pub records-preserved : goal.records-preserved
records-preserved g c =
    let more = c.in_ok-take_next.was ∙ ap Ok c.if-branch.true in (
      c.take_next.ensures.same_reference ∙ c.records.invariant.0,
      kept_more g.R.Read.remaining c.in_ok-reader.reader.source c.records.reader.source c.take_next.new.reader.source
          c.args.device.now c.records.reader.device.now c.take_next.new.reader.device.now c.records.draft
          c.take_next.new.self c.records.invariant.1
          (rw more at c.take_next.ensures.advances) (c.take_next.ensures.takes more),
    )
