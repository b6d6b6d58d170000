use Rattle.std.proofs.Common.{append-nil, arith, inr, sym}
use Rattle.std.proofs.lemmas.Result.{err_from_is_err_and}
use Rattle.lt_jar.proofs.RestLemmas.{said_of, text_begins, text_ends, text_more, text_refused, text_runs}
use Rattle.lt_jar.proofs.ReadingLemmas.{runs_out, runs_stops, runs_stops_last, runs_taken}
use Rattle.lt_jar.proofs.reading.read_jar.Goals as goal

-- before the loop no record is read, and the whole text is left
pub loop-after-init : goal.loop-after-init
loop-after-init c = rw c.new-records.ensures.items
    (text_begins c.args.text.now c.new-engine.result c.new-engine.ensures.empty c.new-engine.ensures.start)

-- a record begins only where there is room for one more, so fewer than 100,000 ended before this one
pub push_record-requires-clause-few : goal.push_record-requires-clause-few
push_record-requires-clause-few c =
    let takes = rw c.in-Ok-Some.field-0-is at c.in-Ok-Some.ensures in
    omega (arith, (runs_out (text_runs c.loop-after.invariant) takes).few, takes.ended)

-- memory ran out at the line that ended the record, and no line up to it has a fault
pub returns-in_err-push_record-in-Ok-Some-clause-fault : goal.returns-in_err-push_record-in-Ok-Some-clause-fault
returns-in_err-push_record-in-Ok-Some-clause-fault c =
    let p = err_from_is_err_and c.from_residual.result c.from_residual.ensures.1 in
    let memory = c.in_err-push_record-in-Ok-Some.ensures.memory in
    let takes = rw c.in-Ok-Some.field-0-is at c.in-Ok-Some.ensures in
    rw (p.1, p.2) (inr (memory.0, text_refused c.in_err-push_record-in-Ok-Some.field-0.0.line c.loop-after.invariant takes memory.1))

-- a turn reads one record more, and the text behind the line that ended it is left
pub loop-after-preserved : goal.loop-after-preserved
loop-after-preserved c =
    let ensures = c.in_ok-push_record-in-Ok-Some.ensures in
    let takes = rw c.in-Ok-Some.field-0-is at c.in-Ok-Some.ensures in
    rw ensures.record (text_more c.push_record.new.engine c.loop-after.invariant takes ensures.begun ensures.same)

-- the engine stopped at the first line that is refused, and says why
pub returns-in-Err-clause-fault : goal.returns-in-Err-clause-fault
returns-in-Err-clause-fault c = rw c.line.ensures
    (said_of c.loop-after.invariant (runs_stops (text_runs c.loop-after.invariant) c.in-Err.ensures))

-- a record begins only where there is room for one more, so fewer than 100,000 ended before the last
pub push_record-requires-in-Ok-true-clause-few : goal.push_record-requires-in-Ok-true-clause-few
push_record-requires-in-Ok-true-clause-few c =
    let takes = rw c.in-Ok-None.field-0-is at c.in-Ok-None.ensures in
    let ended = text_ends c.finish.new.self c.loop-after.invariant takes (rw c.in-Ok-true.field-0-test at c.in-Ok-true.ensures) in
    omega (arith, ended.few)

-- memory ran out at the last line of the text, and no line up to it has a fault
pub returns-in_err-push_record-in-Ok-true-clause-fault : goal.returns-in_err-push_record-in-Ok-true-clause-fault
returns-in_err-push_record-in-Ok-true-clause-fault c =
    let takes = rw c.in-Ok-None.field-0-is at c.in-Ok-None.ensures in
    let ended = text_ends c.finish.new.self c.loop-after.invariant takes (rw c.in-Ok-true.field-0-test at c.in-Ok-true.ensures) in
    let p = err_from_is_err_and c.from_residual-in_err-push_record-in-Ok-true.result
    c.from_residual-in_err-push_record-in-Ok-true.ensures.1 in
    let memory = c.in_err-push_record-in-Ok-true.ensures.memory in
    rw (p.1, p.2) (inr (memory.0, ended.reached c.in_err-push_record-in-Ok-true.field-0.0.line memory.1 (omega arith)))

-- the last line, which has no line feed, is refused, and no line before it is
pub returns-clause-fault : goal.returns-clause-fault
returns-clause-fault c =
    let takes = rw c.in-Ok-None.field-0-is at c.in-Ok-None.ensures in
    let runs = runs_taken (text_runs c.loop-after.invariant) takes in
    rw c.line-in-Err-finish.ensures (said_of c.loop-after.invariant (runs_stops_last runs takes.over.begun c.in-Err-finish.ensures tt))

-- the text has ended: its records, within the limits, are those before and the one that its end ended
pub returns-in-Ok-true : goal.returns-in-Ok-true
returns-in-Ok-true c =
    let takes = rw c.in-Ok-None.field-0-is at c.in-Ok-None.ensures in
    let ended = text_ends c.finish.new.self c.loop-after.invariant takes (rw c.in-Ok-true.field-0-test at c.in-Ok-true.ensures) in
    let all = ended.has _ c.in_ok-push_record-in-Ok-true.ensures.record in
    record { records = all.0; within = all.1; fault = tt }

-- the text has ended outside of a record, so its records are those before
pub returns-in-Ok-false : goal.returns-in-Ok-false
returns-in-Ok-false c =
    let takes = rw c.in-Ok-None.field-0-is at c.in-Ok-None.ensures in
    let all =
    (text_ends c.finish.new.self c.loop-after.invariant takes
    (rw c.in-Ok-false.field-0-test at c.in-Ok-false.ensures)).has _ (sym (append-nil _)) in
    record { records = all.0; within = all.1; fault = tt }
