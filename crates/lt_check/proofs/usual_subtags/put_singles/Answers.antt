use Rattle.std.proofs.Common.{◌≡◌, ◌-◌, ◌+◌, length, drop, arith}
use Rattle.std.proofs.Math.Seq.{drop-length}
use Rattle.lt_registry.proofs.ListLemmas.{drop_turn}
use Rattle.lt_check.proofs.usual_subtags.put_singles.Goals as goal

-- before the loop no record is read, and all flags are clear
pub loop-index-init : goal.loop-index-init
loop-index-init c =
    let all : length c.args.entries.now - 0 ≡ length c.args.entries.now = omega arith in
    rw (all, drop-length c.args.entries.now) c.requires.clear

-- at the index i the last i records are read, and a turn reads the one before them
pub loop-index-preserved : goal.loop-index-preserved
loop-index-preserved c =
    let R = c.args.entries.now in
    let i = c.loop-index.index in
    let e = c.index-entries-count.result in
    let here : length R - 1 - i ≡ length R - (i + 1) = omega arith in
    let next : length R - 1 - i + 1 ≡ length R - i = omega arith in
    rw (← here, drop_turn R (length R - 1 - i) e (omega arith) c.index-entries-count.is, next)
    (c.put_single.ensures (drop (length R - i) R) c.loop-index.invariant)

-- there were as many turns as records, so all are read
pub returns : goal.returns
returns c = λ k s n h. let told = c.loop-index.invariant k s n h in grind arith
