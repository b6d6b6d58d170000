-- Lemmas for calls that write texts to a device, as `write_text` and `write_fault` do: what several writes one after
-- another have written together, and that a device that failed in one of them has failed since the first.
use Rattle.std.proofs.Common.{◌≡◌, ◌<◌, ◌⊎◌, ℕ, subst, ◌+◌, ◌-◌, ◌++◌, List, Option, Result, Ok, Err, IfOk, IfErr}
use Rattle.std.proofs.Common.{append_assoc, take-append-drop, take, drop, length, sym, ap, ◌∙◌}
use Rattle.lt_jar.specs.Devices.{HasFailed, failures_of, greatest_count, inner_of}
use Rattle.lt_jar.specs.declared.devices.Device.{Device}
use Rattle.std.proofs.lemmas.Result.{IfErr-weaker, IfOk-weaker}
use Rattle.std.specs.Io.KnownBytes.{Appends}
use Rattle.std.proofs.KnownBytes.{Appends-trans}
use Rattle.std.proofs.Math.Seq.{take-add}
use Rattle.std.proofs.lemmas.List.{take_rest}
use Rattle.lt_stream.specs.DeviceOutput.{WritesText}
use Rattle.lt_stream.specs.declared.faults.ToolFault.{ToolFault}
use Rattle.lt_stream.specs.declared.faults.ToolFault.TheVariants as faults

-- a device that fails in a call, from `before` to `after`, and didn't fail from `start` to `before`, has failed since
-- `start`
pub failed_from : {T : Type 0} (start before after : Device T) → failures_of before ≡ failures_of start
    → HasFailed before after → HasFailed start after
failed_from start before after same failed = subst (λ (n : ℕ). (n < failures_of after) ⊎ (failures_of after ≡ greatest_count)) same failed

-- From a to b the first `at` bytes of a text were appended, and from b to c the next n. So from a to c the first `at` +
-- n bytes were.
pub appends_more : (a b c : Option (List ℕ)) (text : List ℕ) (at n : ℕ) → Appends a b (take at text)
    → Appends b c (take n (take (length text - at) (drop at text))) → Appends a c (take (at + n) text)
appends_more a b c text at n first second =
    subst (Appends a c) (sym (take-add at n text))
    (Appends-trans a b c _ _ first (subst (λ (l : List ℕ). Appends b c (take n l)) (take_rest text at) second))

-- a loop that has written the first `at` bytes of a text writes the text as the contract says, if its result is Ok only
-- where these are the whole text and no write failed, and an error only where a write failed
pub wrote_front : {W : Type 0} (contents : W → Option (List ℕ)) (text : List ℕ) (at : ℕ) (before after : Device W) (r
    : Result (Unit {0}) ToolFault) → Appends (contents (inner_of before)) (contents (inner_of after)) (take at text)
    → IfOk r (λ _. (take at text ≡ text) × (failures_of after ≡ failures_of before))
    → IfErr r (λ f. (f ≡ faults.Write) × HasFailed before after) → WritesText contents text before after r
wrote_front contents text at before after r appends done stopped = record {
  written = take at text;
  appends = appends;
  front = (drop at text, sym (take-append-drop at text));
  done = done;
  stopped = stopped;
}

-- where one text is written, and then another, the two are written as one text
pub wrote_more : {W : Type 0} (contents : W → Option (List ℕ)) (text more : List ℕ) (before between after : Device W)
    (r : Result (Unit {0}) ToolFault)
    → WritesText contents text before between (Ok tt) → WritesText contents more between after r
    → WritesText contents (text ++ more) before after r
wrote_more contents text more before between after r w m = record {
  written = w.written ++ m.written;
  appends = Appends-trans _ _ _ _ _ w.appends m.appends;
  front = (
    m.front.0,
    ap (λ (l : List ℕ). l ++ more) (sym w.done.0) ∙ ap (λ (l : List ℕ). w.written ++ l) m.front.1
        ∙ sym (append_assoc w.written m.written m.front.0),
  );
  done = IfOk-weaker r _ _ (λ _ h. (
    ap (λ (l : List ℕ). l ++ m.written) w.done.0 ∙ ap (λ (l : List ℕ). text ++ l) h.0,
    h.1 ∙ w.done.1,
  )) m.done;
  stopped = IfErr-weaker r _ _ (λ _ h. (h.0, failed_from before between after w.done.1 h.1)) m.stopped;
}

-- where the writing of a text fails, so does the writing of the text with `more` behind it: what was written is a front
-- of that too
pub wrote_less : {W : Type 0} (contents : W → Option (List ℕ)) (text more : List ℕ) (before after : Device W) (f : ToolFault)
    → WritesText contents text before after (Err f) → WritesText contents (text ++ more) before after (Err f)
wrote_less contents text more before after f w = record {
  written = w.written;
  appends = w.appends;
  front = (w.front.0 ++ more, ap (λ (l : List ℕ). l ++ more) w.front.1 ∙ append_assoc w.written w.front.0 more);
  done = tt;
  stopped = w.stopped;
}
