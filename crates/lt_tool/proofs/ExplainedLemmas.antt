-- For `write_lines` and `explain`: which bytes of an explanation, and of the bytes `head` and `tail` around it, were
-- written at each turn of the loop, and which are still kept in memory; and so what is written at the end, or up to a
-- write that fails. A front of a text is its first bytes.
use Rattle.std.proofs.Common.{◌≡◌, ◌∙◌, inl, inr, ℕ, List, [], ◌++◌, Option, Result, Ok, Err, IsErrAnd, refl, subst}
use Rattle.std.proofs.Common.{sym, ap, append_assoc, append-nil}
use Rattle.std.proofs.KnownBytes.{Appends-nil, Appends-trans}
use Rattle.std.proofs.lemmas.Result.{IfErr-weaker, IfOk-weaker, err_from_is_err_and}
use Rattle.std.specs.Prelude.{codes}
use Rattle.std.specs.Io.KnownBytes.{Appends}
use Rattle.lt_jar.specs.Devices.{failures_of, inner_of}
use Rattle.lt_jar.specs.declared.devices.Device.{Device}
use Rattle.lt_registry.specs.Parts.{EntryParts}
use Rattle.lt_rewrite.specs.Labels.{IsTrace}
use Rattle.lt_canon.specs.ExplanationTexts.{AppendsEnd, AppendsStep, IsWholeLeft, StepsLeft, step_line, tag_line}
use Rattle.lt_canon.proofs.LinesLeft.{HasGiven, given_all, given_front, given_none, given_step, whole_text}
use Rattle.lt_stream.specs.DeviceOutput.{WritesText}
use Rattle.lt_stream.specs.declared.faults.ToolFault.{ToolFault}
use Rattle.lt_stream.specs.declared.faults.ToolFault.TheVariants as faults
use Rattle.lt_stream.proofs.DeviceLemmas.{failed_from}
use Rattle.lt_tool.specs.Runs.{ExplainsText}
use Rattle.lt_tool.specs.Runs.{written as written_end}
use Rattle.lt_tool.specs.Streams.{Stream, stream}
use Rattle.lt_tool.specs.Written.{WritesAll, WritesLines}

-- `head` and `lines` are the bytes that are `written` and those that are `kept`, and `kept` is `front` and then `rest`.
-- Then the whole text, with `more` lines and the `tail`, is what is written and `front`, and then `rest` and what
-- follows.
cut_more : (head lines more tail written kept front rest : List ℕ) → written ++ kept ≡ head ++ lines
    → kept ≡ front ++ rest
    → head ++ ((lines ++ more) ++ tail) ≡ (written ++ front) ++ (rest ++ (more ++ tail))
cut_more head lines more tail written kept front rest given cut =
    let joined : head ++ ((lines ++ more) ++ tail) ≡ (head ++ lines) ++ (more ++ tail) = simp append_assoc in
    let parted : (written ++ (front ++ rest)) ++ (more ++ tail) ≡ (written ++ front) ++
    (rest ++ (more ++ tail)) = simp append_assoc in
    joined ∙ (ap (λ (l : List ℕ). l ++ (more ++ tail)) (sym given ∙ ap (λ (l : List ℕ). written ++ l) cut) ∙ parted)

-- `head` and the lines of the steps between `first`, a whole explanation, and `left`, its rest, were given. All these
-- bytes were written to the device, which was `before` and is `after`, but for those at their end that are `kept` in
-- memory.
pub record HasWritten {W : Type 0} (contents : W → Option (List ℕ)) (head : List ℕ) (first left : StepsLeft)
    (before after : Device W) (kept : List ℕ) : Type 0 where
  pub written : List ℕ
  pub appends : Appends (contents (inner_of before)) (contents (inner_of after)) written
  pub worked : failures_of after ≡ failures_of before
  pub lines : List ℕ
  pub given : HasGiven first left lines
  pub all : written ++ kept ≡ head ++ lines

-- `head` are the bytes before the lines and `tail` those after them; `first` is the whole explanation, and `left` what
-- is left of it; `start` is the device before all writes, and `before` the device before the next one
module _ {W : Type 0} (contents : W → Option (List ℕ)) (head : List ℕ) (first left : StepsLeft) (tail : List ℕ)
    (start before : Device W) where
  -- at the start no line was given, nothing was written, and `head` is kept
  pub written_none : IsTrace first.entries first.here first.steps first.end
      → HasWritten contents head first first start start head
  written_none h = record {
    written = [];
    appends = Appends-nil _;
    worked = refl;
    lines = [];
    given = given_none
        first h;
    all = sym (append-nil head);
  }

  -- the line of a step was added to the kept bytes, which are `new` then, and `next` is left of the explanation
  pub written_step : (next : StepsLeft) (old new : List ℕ) → HasWritten contents head first left start before old
      → AppendsStep left next old new → HasWritten contents head first next start before new
  written_step next old new w on =
      let line = step_line on.step (tag_line on.to) in
      let given : HasGiven first left (w.lines ++ []) = subst (HasGiven first left) (sym (append-nil w.lines))
      w.given in
      let alone : AppendsStep left next [] line = record {
        step = on.step;
        steps = on.steps;
        next = on.next;
        to = on.to;
        leads = on.leads;
        left = on.left;
        grown = refl;
      } in
      record {
        written = w.written;
        appends = w.appends;
        worked = w.worked;
        lines = w.lines ++ line;
        given = given_step first left next w.lines [] line given alone;
        all = ap (λ (l : List ℕ). w.written ++ l) on.grown ∙ (sym (append_assoc w.written old line)
            ∙ (ap (λ (l : List ℕ). l ++ line) w.all ∙ append_assoc head w.lines line));
      }

  -- what is kept was written, and nothing stays in memory
  pub written_kept : (after : Device W) (kept : List ℕ) → HasWritten contents head first left start before kept
      → WritesText contents kept before after (Ok tt) → HasWritten contents head first left start after []
  written_kept after kept w t = record {
    written = w.written ++ t.written;
    appends = Appends-trans _ _ _ _ _ w.appends t.appends;
    worked = t.done.1 ∙ w.worked;
    lines = w.lines;
    given = w.given;
    all = append-nil (w.written ++ t.written) ∙ (ap (λ (l : List ℕ). w.written ++ l) t.done.0 ∙ w.all);
  }

  -- a write of what is kept failed with `f`: a front of all was written
  pub written_less : (after : Device W) (kept : List ℕ) (f : ToolFault)
      → HasWritten contents head first left start before kept → WritesText contents kept before after (Err f)
      → WritesLines head first tail (stream contents start after) (Err f)
  written_less after kept f w t =
      let all = given_front first left w.lines w.given in
      let cut = cut_more head w.lines all.2.0 tail w.written kept t.written t.front.0 w.all t.front.1 in (
        all.0,
        all.1,
        record {
          written = w.written ++ t.written;
          appends = Appends-trans _ _ _ _ _ w.appends t.appends;
          front = (t.front.0 ++ (all.2.0 ++ tail), ap (λ (l : List ℕ). head ++ (l ++ tail)) all.2.1 ∙ cut);
          done = tt;
          stopped = inl (t.stopped.0, failed_from start before after w.worked t.stopped.1);
        },
      )

  -- memory ran out for the next bytes: those that are kept are not written, so a front of all is
  pub written_lacks : (kept : List ℕ) (r : Result (Unit {0}) ToolFault)
      → HasWritten contents head first left start before kept → IsErrAnd r (λ e. e ≡ faults.OutOfMemory)
      → WritesLines head first tail (stream contents start before) r
  written_lacks kept r w lacks =
      let p = err_from_is_err_and r lacks in
      let all = given_front first left w.lines w.given in
      let cut = cut_more head w.lines all.2.0 tail w.written kept [] kept w.all refl in
      rw (p.1, p.2) (
        all.0,
        all.1,
        record {
          written = w.written;
          appends = w.appends;
          front = (
            kept ++ (all.2.0 ++ tail),
            ap (λ (l : List ℕ). head ++ (l ++ tail)) all.2.1
                ∙ (cut ∙ ap (λ (l : List ℕ). l ++ (kept ++ (all.2.0 ++ tail))) (append-nil w.written)),
          );
          done = tt;
          stopped = inr (refl, w.worked);
        },
      )

  -- The line of the end and `tail` were added to what is kept, and all that was written, with the result `r`: so all
  -- was written, or a front of it if the write failed.
  pub written_all : (after : Device W) (next : StepsLeft) (old new kept : List ℕ) (r : Result (Unit {0}) ToolFault)
      → HasWritten contents head first left start before old → AppendsEnd left next old new
      → kept ≡ new ++ tail → WritesText contents kept before after r
      → WritesLines head first tail (stream contents start after) r
  written_all after next old new kept r w on is t =
      let line = codes "= " ++ tag_line left.end in
      let given : HasGiven first left (w.lines ++ []) = subst (HasGiven first left) (sym (append-nil w.lines))
      w.given in
      let alone : AppendsEnd left next [] line = record { none = on.none; left = on.left; grown = refl } in
      let last : kept ≡ (old ++ line) ++ tail = is ∙ ap (λ (l : List ℕ). l ++ tail)
      (on.grown ∙ append_assoc old (codes "= ") (tag_line left.end)) in
      let joined : head ++ ((w.lines ++ line) ++ tail) ≡ (head ++ w.lines) ++ (line ++ tail) = simp append_assoc in
      let parted : (w.written ++ old) ++ (line ++ tail) ≡ w.written ++ ((old ++ line) ++ tail) = simp append_assoc in
      let all = joined ∙ (ap (λ (l : List ℕ). l ++ (line ++ tail)) (sym w.all)
      ∙ (parted ∙ ap (λ (l : List ℕ). w.written ++ l) (sym last))) in (
        w.lines ++ line,
        given_all first left next w.lines [] line given alone,
        record {
          written = w.written ++ t.written;
          appends = Appends-trans _ _ _ _ _ w.appends t.appends;
          front = (
            t.front.0,
            all ∙ (ap (λ (l : List ℕ). w.written ++ l) t.front.1
                ∙ sym (append_assoc w.written t.written t.front.0)),
          );
          done = IfOk-weaker r _ _ (λ _ h. (ap (λ (l : List ℕ). w.written ++ l) h.0 ∙ sym all, h.1 ∙ w.worked))
              t.done;
          stopped = IfErr-weaker r _ _ (λ _ h. inl (h.0, failed_from start before after w.worked h.1)) t.stopped;
        },
      )

-- the lines of the whole explanation of a text were written as far as `result` says, which is what `explain` promises
pub explained : {O : Type 0} (R : List EntryParts) (text : List ℕ) (left : StepsLeft) (output : Stream O)
    (result : Result (Unit {0}) ToolFault) → IsWholeLeft R text left
    → WritesLines [] left [] output result → ExplainsText R text output (written_end result)
explained R text left output result whole w =
    inr (
      w.0,
      result,
      whole_text R text w.0 left whole w.1,
      subst (λ (l : List ℕ). WritesAll output l result)
          (append-nil w.0) w.2,
      refl,
    )
