use Rattle.std.proofs.Common.{◌++◌, [], arith, refl, sym, ap, subst}
use Rattle.std.proofs.lemmas.Result.{err_from_is_err_and}
use Rattle.lt_jar.specs.Lines.{IsOneLine}
use Rattle.lt_jar.specs.Sources.{unread_in}
use Rattle.lt_jar.proofs.ReadingLemmas.{runs_end, runs_out}
use Rattle.lt_jar.proofs.SourceLemmas.{runs_over, turn_begins, turn_failed, turn_filled, turn_lends, turn_over, turn_stops, turn_taken}
use Rattle.lt_jar.proofs.sources.JarSource.read_record.Goals as goal

-- before the loop nothing is read, and the bytes left from the call before are still to be taken
pub loop-self-init : goal.loop-self-init
loop-self-init g c =
    let old = c.args.self.now in
    let same = c.begin_record.ensures.same in
    turn_begins g.R.Read.remaining old _ c.args.device.now c.begin_record.ensures.fields
    (ap (λ l. l ++ unread_in old) same.0) same.2 same.1 refl old.bounded.0 c.requires old.few

-- the call stops with the fault: a line of the bytes that were read is refused, or memory ran out at it
pub returns-in_err-take_unread : goal.returns-in_err-take_unread
returns-in_err-take_unread g c =
    let p = err_from_is_err_and c.from_residual.result c.from_residual.ensures.1 in
    let ensures = c.in_err-take_unread.ensures in
    rw (p.1, p.2) (turn_stops c.take_unread.new.self c.loop-self.invariant ensures.takes ensures.same.0)

-- a record begins only where there is room for one more, so fewer than 100,000 ended before this one
pub count_record-requires : goal.count_record-requires
count_record-requires g c =
    let takes = rw c.if-branch.true at c.in_ok-take_unread.ensures.takes in
    omega (arith, (runs_out c.loop-self.invariant.runs takes).few, takes.ended, c.loop-self.invariant.runs.ended)

-- the source keeps its bounds: with this record at most 100,000 have ended, and counting it changes nothing else
pub invariant_of-self-then-branch : goal.invariant_of-self-then-branch
invariant_of-self-then-branch g c =
    let mid = c.take_unread.new.self in
    let takes = rw c.if-branch.true at c.in_ok-take_unread.ensures.takes in
    let same = c.count_record.ensures.same in
    record {
      placed = mid.placed;
      bounded = (mid.bounded.0, omega (arith, mid.bounded.1, same.2));
      begun = subst IsOneLine (sym same.0) mid.begun;
      few = omega (
        arith,
        (runs_out c.loop-self.invariant.runs takes).few,
        takes.ended,
        c.loop-self.invariant.runs.ended,
        c.count_record.ensures.ended,
      );
      text = mid.text;
    }

-- a line that was read ended a record, which is lent
pub returns-then-branch : goal.returns-then-branch
returns-then-branch g c =
    let ensures = c.in_ok-take_unread.ensures in
    let takes = rw c.if-branch.true at ensures.takes in
    let count = c.count_record.ensures in
    turn_lends c.take_unread.new.self _ c.loop-self.invariant takes ensures.same.0 ensures.same.1 count.same.0
    count.same.1 count.same.2 count.ended refl refl refl

-- the bytes that were read end no record, and a further read failed or would have been one too many
pub returns-in_err-fill : goal.returns-in_err-fill
returns-in_err-fill g c =
    let p = err_from_is_err_and c.from_residual-in_err-fill.result c.from_residual-in_err-fill.ensures.1 in
    let ensures = c.in_ok-take_unread.ensures in
    let fill = c.in_err-fill.ensures in
    rw (p.1, p.2)
    (turn_failed c.fill.new.self (turn_taken c.take_unread.new.self c.loop-self.invariant c.if-branch.false
    ensures.takes ensures.same) c.fill.new.self.begun fill.fills fill.same.0)

-- a record begins only where there is room for one more, so the last is at most the 100,000th
pub finish-requires-clause-few : goal.finish-requires-clause-few
finish-requires-clause-few g c =
    let ensures = c.in_ok-take_unread.ensures in
    let runs = runs_over c.fill.new.self [] (turn_taken c.take_unread.new.self c.loop-self.invariant c.if-branch.false
    ensures.takes ensures.same) refl c.in_ok-fill.ensures.same.0 in
    λ going ran. omega (arith, (runs_end runs c.fill.new.self.begun going ran).few, runs.ended)

-- all bytes were read and taken, so the end of the text is the end of the last record, if there is one
pub returns-then-not-branch : goal.returns-then-not-branch
returns-then-not-branch g c =
    let ensures = c.in_ok-take_unread.ensures in
    let fill = c.in_ok-fill.ensures in
    let fills = rw c.if-not-branch.true at fill.fills in
    turn_over c.finish.new.self c.finish.result
    (turn_taken c.take_unread.new.self c.loop-self.invariant c.if-branch.false ensures.takes ensures.same)
    c.fill.new.self.begun fills fill.same.0 c.finish.ensures

-- a turn takes all bytes that were read, which end no record, and reads more
pub loop-self-preserved : goal.loop-self-preserved
loop-self-preserved g c =
    let ensures = c.in_ok-take_unread.ensures in
    let fill = c.in_ok-fill.ensures in
    let fills = rw c.if-not-branch.false at fill.fills in
    turn_filled (turn_taken c.take_unread.new.self c.loop-self.invariant c.if-branch.false ensures.takes ensures.same)
    fills fill.same.0 fill.same.1
