-- Lemmas for `Marked::finish`, which answers the end of a text that may begin with a byte order mark: what is true of
-- the end of its lines is true of the end of the text.
use Rattle.std.proofs.Common.{Result, Ok, Err, ◌≡◌, ◌++◌, ◌∙◌, ◌⊎◌, ℕ, List, [], true, false, Option, sym, ap, refl}
use Rattle.std.proofs.Common.{subst, append_assoc, inl, inr}
use Rattle.std.proofs.KnownBytes.{Appends-trans}
use Rattle.lt_jar.specs.Devices.{failures_of}
use Rattle.lt_jar.specs.declared.devices.Device.{Device}
use Rattle.lt_rows.specs.Marks.{IsWide, SplitsMark}
use Rattle.lt_rows.proofs.MarkLemmas.{short_narrow}
use Rattle.lt_lines.specs.Answering.{FinishesLines}
use Rattle.lt_lines.specs.Marked.{BeginsText, EndsText, EndsTextInQuotes, FinishesText, IsKeptFront}
use Rattle.lt_lines.specs.Owed.{AfterMark, Terms}
use Rattle.lt_lines.specs.Tallied.{OwesAll}
use Rattle.lt_lines.specs.declared.answering.Answering.{Answering}
use Rattle.lt_lines.specs.declared.marked.Marked.{Marked}
use Rattle.lt_lines.specs.declared.runs.Counts.{Counts}
use Rattle.lt_stream.specs.declared.faults.ToolFault.{ToolFault}
use Rattle.lt_lines.proofs.MarkedLemmas.{IsAt, at_after, splits_marked, stop_from}
use Rattle.lt_lines.proofs.TextRunLemmas.{unbegun}

-- if the lines after the mark were finished with counts, all that is owed for the bytes was written; `a` is the state
-- before the end
finish_done : {W : Type 0} (T : Terms) (contents : W → Option (List ℕ)) (bytes out : List ℕ) (a new : Answering) (before
    after : Device W) (counts : Counts) → IsAt T bytes out a
    → (f : FinishesLines T contents a new before after (Ok counts))
    → AfterMark T (λ text more. OwesAll T text more counts new.tallies) bytes (out ++ f.written)
finish_done T contents bytes out a new before after counts at f = record {
  mark = at.mark;
  text = at.text;
  split = at.split;
  narrow = at.narrow;
  more = at.out ++ f.written;
  written_is = ap (λ (l : List ℕ). l ++ f.written) at.written_is ∙ append_assoc at.mark at.out f.written;
  holds = f.done.1 at.text at.out at.taken;
}

-- if the end of the lines after the mark ended by the fault `e`, the end of the text ended by it for the same reason;
-- `between` is the output before the last answers, and no write had failed from `before` to it
finish_ends : {W : Type 0} (T : Terms) (contents : W → Option (List ℕ)) (bytes out : List ℕ) (a new : Answering) (before
    between after : Device W) (e : ToolFault) → IsAt T bytes out a → a.owed.items ≡ []
    → failures_of between ≡ failures_of before → (f : FinishesLines T contents a new between after (Err e))
    → EndsTextInQuotes T before after bytes (out ++ f.written) new.tallies e
    ⊎ EndsText T before after bytes (out ++ f.written) new.tallies e
finish_ends T contents bytes out a new before between after e at none same f =
    let is = ap (λ (l : List ℕ). l ++ f.written) at.written_is ∙ append_assoc at.mark at.out f.written in
    elim f.stopped [
      | inl q ↦ inl (record {
        line = q.line;
        fault = q.fault;
        same = q.same ∙ same;
        ends = record {
          mark = at.mark;
          text = at.text;
          split = at.split;
          narrow = at.narrow;
          more = at.out ++ f.written;
          written_is = is;
          holds = q.ends at.text at.out at.taken none;
        };
      })
      | inr stop ↦ inr (inl (
        stop_from before between after e same stop.0,
        record { mark = at.mark; text = at.text; split = at.split; front = inr (at.out ++ f.written, is, stop.1 at.text at.out at.taken) },
      ))
    ]

-- past the mark, what is true of the end of the lines is true of the end of the text
pub finish_text : {W : Type 0} (T : Terms) (contents : W → Option (List ℕ)) (old new : Marked) (before after : Device
    W) (r : Result Counts ToolFault) → old.is_begun ≡ true
    → FinishesLines T contents old.answering new.answering before after r
    → FinishesText T contents old new before after r
finish_text T contents old new before after (Ok counts) begun f = record {
  written = f.written;
  appends = f.appends;
  done = (
    f.done.0,
    λ bytes out t. elim t [
      | inl a ↦ finish_done T contents bytes out old.answering new.answering before after counts (at_after T bytes out old a) f
      | inr k ↦ unbegun old.is_begun begun k.begun
    ],
  );
  stopped = tt;
}
finish_text T contents old new before after (Err e) begun f = record {
  written = f.written;
  appends = f.appends;
  done = tt;
  stopped = λ bytes out t none. elim t [
    | inl a ↦ finish_ends T contents bytes out old.answering new.answering before before after e (at_after T bytes out old a) none refl f
    | inr k ↦ unbegun old.is_begun begun k.begun
  ];
}

-- the end of a text of which the first bytes are still kept: `mid` and `between` are the state and the output once they
-- are taken as text, `new` and `after` once the lines are finished
module _ {W : Type 0} (T : Terms) (contents : W → Option (List ℕ)) (old mid new : Marked)
    (before between after : Device W) (begun : old.is_begun ≡ false) where
  -- once the first bytes are split and taken as text, their mark was written and the text after it was taken in
  at_begun : (bytes out : List ℕ) → IsKeptFront T bytes out old
      → (b : BeginsText T contents old mid before between (Ok tt)) → IsAt T bytes (out ++ b.written) mid.answering
  at_begun bytes out k b =
      let more = b.done.4 in
      record {
        mark = b.mark;
        text = b.text;
        split = splits_marked T.form bytes b.mark b.text k.looked (subst (λ (l : List ℕ). SplitsMark l b.mark b.text) k.kept b.split);
        narrow = λ looked. short_narrow bytes k.may_be;
        out = more.0;
        written_is = ap (λ (l : List ℕ). l ++ b.written) k.nothing ∙ more.1;
        taken = more.2 k.taken;
      }

  -- if then the lines were finished, with counts or by a fault, the text was finished so
  pub finish_front : (r : Result Counts ToolFault) → BeginsText T contents old mid before between (Ok tt)
      → FinishesLines T contents mid.answering new.answering between after r
      → FinishesText T contents old new before after r
  finish_front (Ok counts) b f = record {
    written = b.written ++ f.written;
    appends = Appends-trans _ _ _ _ _ b.appends f.appends;
    done = (
      f.done.0 ∙ b.done.0,
      λ bytes out t. elim t [
        | inl a ↦ unbegun old.is_begun a.begun begun
        | inr k ↦ rw (← append_assoc out b.written f.written)
            (finish_done T contents bytes (out ++ b.written) mid.answering new.answering between after counts
            (at_begun bytes out k b) f)
      ],
    );
    stopped = tt;
  }
  finish_front (Err e) b f = record {
    written = b.written ++ f.written;
    appends = Appends-trans _ _ _ _ _ b.appends f.appends;
    done = tt;
    stopped = λ bytes out t none. elim t [
      | inl a ↦ unbegun old.is_begun a.begun begun
      | inr k ↦ rw (← append_assoc out b.written f.written)
          (finish_ends T contents bytes (out ++ b.written) mid.answering new.answering before between after e
          (at_begun bytes out k b) b.done.1 b.done.0 f)
    ];
  }

  -- if taking the first bytes ended by the fault `e`, the end of the text ended by it
  pub finish_stopped : (e : ToolFault) → BeginsText T contents old mid before after (Err e)
      → FinishesText T contents old mid before after (Err e)
  finish_stopped e b = record {
    written = b.written;
    appends = b.appends;
    done = tt;
    stopped = λ bytes out t none. elim t [
      | inl a ↦ unbegun old.is_begun a.begun begun
      | inr k ↦ inr (rw k.nothing (subst (λ (l : List ℕ). EndsText T before after l b.written mid.answering.tallies e) k.kept
          (b.stopped k.looked (subst (λ (l : List ℕ). IsWide l → ⊥) (sym k.kept) (short_narrow bytes k.may_be)) k.taken)))
    ];
  }
