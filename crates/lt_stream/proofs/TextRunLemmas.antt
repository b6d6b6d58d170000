-- Lemmas for `run_text`: a run over the pieces of a text that may begin with a byte order mark, however it ends, is a
-- run over the lines of the text after the mark (`runs_text`).
use Rattle.std.proofs.Common.{◌≡◌, ◌<◌, ◌⊎◌, ◌++◌, ◌∙◌, inl, inr, ℕ, List, [], Option, Result, Ok, Err, sym, ap, refl, arith, append-nil}
use Rattle.std.proofs.KnownBytes.{Appends-nil}
use Rattle.lt_jar.specs.Devices.{failures_of, inner_of}
use Rattle.lt_jar.specs.Lines.{lines_of}
use Rattle.lt_jar.specs.declared.devices.Device.{Device}
use Rattle.lt_rows.specs.Marks.{IsWide, SplitsMark}
use Rattle.lt_rows.proofs.MarkLemmas.{short_narrow, short_one_line, short_unmarked, split_of}
use Rattle.lt_stream.specs.Begun.{FinishesText, IsStoppedWide, IsTakenText, IsWaiting, StopsText}
use Rattle.lt_stream.specs.Lines.{Answered, EndsAs}
use Rattle.lt_stream.specs.Pieces.{RunsPieces}
use Rattle.lt_stream.specs.Texts.{EndsAfterMark, RunsOverText}
use Rattle.lt_stream.specs.declared.faults.ToolFault.{ToolFault}
use Rattle.lt_stream.specs.declared.faults.ToolFault.TheVariants as faults
use Rattle.lt_stream.specs.declared.texts.Text.{Text}
use Rattle.lt_stream.proofs.LineRunLemmas.{IsBetween, Ways, between, ended}
use Rattle.lt_stream.proofs.TextLemmas.{narrow_now, no_lines, split_now}

-- these bytes are a mark, which is passed over, and a text, whose lines are answered up to the last line feed
record IsSplit {A W : Type 0} (Q : Answered A) (contents : W → Option (List ℕ)) (start now : Device W) (bytes : List ℕ)
    (answers : A) : Type 0 where
  pub mark : List ℕ
  pub text : List ℕ
  pub split : SplitsMark bytes mark text
  pub narrow : IsWide bytes → ⊥
  pub between : IsBetween Q contents start now text answers

-- how a run over a text ends; names with ' are of the devices after it
module _ {A I W : Type 0} (Q : Answered A) (longest : ℕ) (remaining : I → Option (List ℕ))
    (contents : W → Option (List ℕ)) (input input' : Device I) (output output' : Device W) (state : Text A) where
  -- while the first bytes wait, they are a text without line feeds, of which no line is answered
  waiting_between : (bytes : List ℕ) → IsWaiting Q longest contents output output' bytes state
      → IsBetween Q contents output output' bytes state.lined.answers
  waiting_between bytes w =
      let d = w.taken.during in
      let answered = rw (no_lines d.lines d.last d.cut, w.taken.emptied, append-nil d.written) at d.answered in
      record {
        written = d.written;
        appends = d.appends;
        same = d.same;
        begun = record {
          lines = [];
          others = lines_of bytes;
          cut = refl;
          answers = state.lined.answers;
          all = d.written;
          answered = answered;
          rest = [];
          front = sym (append-nil d.written);
        };
        owed = record {
          lines = [];
          last = bytes;
          cut = refl;
          each_one = tt;
          last_one = short_one_line bytes w.may_be;
          answered = answered;
        };
      }

  -- between two pieces the bytes are a mark and a text
  text_split : (bytes : List ℕ) → IsTakenText Q longest contents output output' bytes state
      → IsSplit Q contents output output' bytes state.lined.answers
  text_split bytes (inl p) =
      record {
        mark = p.mark;
        text = p.text;
        split = split_now bytes p.mark p.text p.split;
        narrow = narrow_now bytes p.narrow;
        between = between Q longest contents output output' p.text state.lined
            p.taken;
      }
  text_split bytes (inr w) = record {
    mark = [];
    text = bytes;
    split = short_unmarked bytes w.may_be;
    narrow = short_narrow bytes w.may_be;
    between = waiting_between bytes w;
  }

  -- if a run over the lines of the text ended so, the run over the text ended so too
  ends_after : (reads : ℕ) (read text written : List ℕ) (answers : A) (r : Result (Unit {0}) ToolFault)
      → EndsAs Q remaining input input' output output' reads read text written answers r
      → EndsAfterMark Q remaining input input' output output' reads read text written answers r
  ends_after reads read text written answers (Ok u) e = e
  ends_after reads read text written answers (Err faults.Read) e = e
  ends_after reads read text written answers (Err faults.Write) e = e
  ends_after reads read text written answers (Err faults.TooManyTurns) e = e
  ends_after reads read text written answers (Err faults.OutOfMemory) e = e
  ends_after reads read text written answers (Err (faults.BadCsv line)) e = e
  ends_after reads read text written answers (Err (faults.BadTsv line)) e = e
  ends_after reads read text written answers (Err faults.Utf16) e = absurd e

  -- a run over pieces that gave the result `r` is a run over the text in each of these cases
  module _ (r : Result (Unit {0}) ToolFault)
      (p : RunsPieces (IsTakenText Q longest contents) (λ start now read _ end. StopsText Q contents start now read end)
      (FinishesText Q contents) remaining input input' output output' state r) where
    -- it ended in a way in which a run over lines does
    run_text : (mark text : List ℕ) → SplitsMark p.read mark text
        → (IsWide p.read → (r ≡ Err faults.Utf16) ⊎ (r ≡ Err faults.OutOfMemory))
        → Ways Q remaining contents input input' output output' state.lined p.reads p.read text r
        → RunsOverText Q remaining contents input input' output output' state.lined.answers r
    run_text mark text split narrow way =
        let e = ended Q remaining contents input input' output output' state.lined p.reads p.read text r way in
        record {
          read = p.read;
          mark = mark;
          text = text;
          split = split;
          narrow = narrow;
          written = e.written;
          reads = p.reads;
          consumes = p.consumes;
          appends = e.appends;
          begun = e.begun;
          calls = p.calls;
          bounded = p.bounded;
          ends = ends_after p.reads p.read text e.written state.lined.answers r e.ends;
          read_rises = e.read_rises;
          write_rises = e.write_rises;
        }

    -- it ended between two pieces
    run_between : IsTakenText Q longest contents output output' p.read state
        → ((text : List ℕ) → IsBetween Q contents output output' text state.lined.answers
        → Ways Q remaining contents input input' output output' state.lined p.reads p.read text r)
        → RunsOverText Q remaining contents input input' output output' state.lined.answers r
    run_between t way = let s = text_split p.read t in run_text s.mark s.text s.split (λ wide. absurd (s.narrow wide))
        (way s.text s.between)

    -- it ended since the bytes begin with a mark of UTF-16
    run_wide : (f : ToolFault) → r ≡ Err f → failures_of input' ≡ failures_of input
        → IsStoppedWide Q output output' p.read f
        → RunsOverText Q remaining contents input input' output output' state.lined.answers r
    run_wide f is same w =
        let s = split_of p.read in
        let fault : r ≡ Err faults.Utf16 = is ∙ ap (λ (e : ToolFault). Err e) w.named in
        record {
          read = p.read;
          mark = s.0;
          text = s.1;
          split = s.2;
          narrow = λ _. inl fault;
          written = [];
          reads = p.reads;
          consumes = p.consumes;
          appends = rw w.untouched (Appends-nil (contents (inner_of output)));
          begun = w.begun s.1;
          calls = p.calls;
          bounded = p.bounded;
          ends = rw fault (w.wide, refl);
          read_rises = λ lt. absurd (omega (arith, lt, same));
          write_rises = λ lt. absurd (omega (arith, lt, ap failures_of w.untouched));
        }

  -- a run over the pieces of a text, however it ended, is a run over the lines of the text
  pub runs_text : (r : Result (Unit {0}) ToolFault)
      → RunsPieces (IsTakenText Q longest contents) (λ start now read _ end. StopsText Q contents start now read
      end) (FinishesText Q contents) remaining input input' output output' state r
      → RunsOverText Q remaining contents input input' output output' state.lined.answers r
  runs_text (Ok u) p = elim p.ends [
    | inl f ↦ let a = f.finished in run_text (Ok u) p a.mark a.text a.split (λ wide. absurd (a.narrow wide))
        (inl (record { end = f.end; same = f.same; finished = a.all }))
    | inr (inl s) ↦ absurd s.stopped
    | inr (inr (inl s)) ↦ run_between (Ok u) p s.taken (λ _ b. inr (inr (inl (record { fault = s.fault; failed = s.failed; taken = b }))))
    | inr (inr (inr (inl s))) ↦ run_between (Ok u) p s.taken
        (λ _ b. inr
        (inr (inr
        (inl (record {
          fault = s.fault;
          same = s.same;
          all_made = s.all_made;
          gave_bytes = s.gave_bytes;
          last_gave = s.last_gave;
          taken = b;
        })))))
    | inr (inr (inr (inr s))) ↦ run_between (Ok u) p s.taken
        (λ _ b. inr (inr (inr (inr (record { fault = s.fault; same = s.same; taken = b })))))
  ]
  runs_text (Err f) p = elim p.ends [
    | inl e ↦ let c = e.finished in
        run_text (Err f) p c.mark c.text c.split (λ wide. inr (ap (λ (e : ToolFault). Err e) (c.narrow wide)))
        (inl (record { end = e.end; same = e.same; finished = c.cut }))
    | inr (inl s) ↦ elim s.stopped [
      | inl c ↦ run_text (Err f) p c.mark c.text c.split (λ wide. inr (ap (λ (e : ToolFault). Err e) (c.narrow wide)))
          (inr (inl (record { same = s.same; stopped = c.cut })))
      | inr wide ↦ run_wide (Err f) p f refl s.same wide
    ]
    | inr (inr (inl s)) ↦ run_between (Err f) p s.taken (λ _ b. inr (inr (inl (record { fault = s.fault; failed = s.failed; taken = b }))))
    | inr (inr (inr (inl s))) ↦ run_between (Err f) p s.taken
        (λ _ b. inr
        (inr (inr
        (inl (record {
          fault = s.fault;
          same = s.same;
          all_made = s.all_made;
          gave_bytes = s.gave_bytes;
          last_gave = s.last_gave;
          taken = b;
        })))))
    | inr (inr (inr (inr s))) ↦ run_between (Err f) p s.taken
        (λ _ b. inr (inr (inr (inr (record { fault = s.fault; same = s.same; taken = b })))))
  ]
