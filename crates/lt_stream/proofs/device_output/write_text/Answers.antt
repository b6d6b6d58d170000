use Rattle.std.proofs.Common.{◌<◌, ◌≤◌, ◌-◌, ◌+◌, ◌∙◌, ℕ, length, take, drop, refl, ap, subst, arith, length-drop, take_all}
use Rattle.std.proofs.KnownBytes.{Appends-kept}
use Rattle.std.proofs.lemmas.List.{take_rest}
use Rattle.lt_stream.proofs.DeviceLemmas.{appends_more, wrote_front, failed_from}
use Rattle.lt_stream.proofs.device_output.write_text.Goals as goal

-- The clause of `write_text`, `WritesText`, at its three ends, and the invariant after a turn.

-- the write took none of some bytes, which counts as a failure, and a front of the text was written before
pub returns-in-Ok-eq0 : goal.returns-in-Ok-eq0
returns-in-Ok-eq0 g c =
    let text = c.args.text.now in
    let at = c.loop-at.at in
    let n = c.in-Ok-eq0.field-0 in
    let ensures = c.in-Ok-eq0.ensures in
    let some : 0 < length (take (length text - at) (drop at text)) = rw (take_rest text at, length-drop) (omega arith) in
    wrote_front _ text (at + n) _ _ _ (appends_more _ _ _ text at n c.loop-at.invariant.appends ensures.bytes) tt (
      refl,
      failed_from c.args.output.now c.loop-at.output c.write.new.self c.loop-at.invariant.failures
          (ensures.takes_none c.in-Ok-eq0.field-0-test some),
    )

-- the write failed and took nothing, and a front of the text was written before
pub returns-in-Err : goal.returns-in-Err
returns-in-Err g c =
    let turns = c.loop-at.invariant in
    wrote_front _ c.args.text.now c.loop-at.at _ _ _ (Appends-kept _ _ _ _ turns.appends c.in-Err.ensures.bytes) tt
    (refl, failed_from c.args.output.now c.loop-at.output c.write.new.self turns.failures c.in-Err.ensures.fails)

-- all bytes were written, and no write failed
pub returns : goal.returns
returns g c = wrote_front _ c.args.text.now c.loop-at.at _ _ _ c.loop-at.invariant.appends
    (take_all c.loop-at.at c.args.text.now (omega arith), c.loop-at.invariant.failures) tt

-- a turn writes the next bytes, at least one, without a failure
pub loop-at-preserved : goal.loop-at-preserved
loop-at-preserved g c =
    let t = c.loop-at.invariant in
    let text = c.args.text.now in
    let at = c.loop-at.at in
    let n = c.in-Ok.count in
    let ensures = c.in-Ok.ensures in
    let room : n ≤ length text - at = subst (λ (m : ℕ). n ≤ m) (ap length (take_rest text at) ∙ length-drop at text) ensures.bound in
    record {
      appends = appends_more _ _ _ text at n t.appends ensures.bytes;
      in_range = omega arith;
      failures = ensures.works (omega (arith, c.in-Ok.count-test)) ∙ t.failures;
    }
