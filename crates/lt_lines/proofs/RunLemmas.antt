-- Lemmas for `run_tallied`: what is true of a run while it reads a text (`IsReading`) stays true from piece to piece,
-- and a run over pieces, however it ends, is a run over the lines (`runs_lines`).
use Rattle.std.proofs.Common.{◌≡◌, ◌+◌, ◌++◌, ◌∙◌, inl, inr, ℕ, List, [], Option, Result, Ok, Err, length, sym, ap}
use Rattle.std.proofs.Common.{refl, arith, append-nil, ◌<◌, ◌^◌}
use Rattle.std.specs.Io.KnownBytes.{Appends, IsAtEnd}
use Rattle.std.proofs.KnownBytes.{Appends-nil, Appends-trans}
use Rattle.lt_jar.specs.Devices.{failures_of, inner_of}
use Rattle.lt_jar.specs.declared.devices.Device.{Device}
use Rattle.lt_lines.specs.Marked.{EndsText, EndsTextInQuotes, FinishesText, HasRoomFor, IsNew, TakesText}
use Rattle.lt_lines.specs.Owed.{AfterMark, IsBegunText, Terms, long_fault, units_of}
use Rattle.lt_lines.specs.Tallied.{OwesAll, TalliesInQuotes, TalliesTooLong}
use Rattle.lt_stream.specs.declared.tallies.Tally.{Tally}
use Rattle.lt_lines.specs.Running.{EndsAs, RunsLines}
use Rattle.lt_stream.specs.Pieces.{EndFact, IsStoppedByRead, IsStoppedByTurns, IsWithoutMemory, RunFact, RunsPieces}
use Rattle.lt_lines.specs.Reading.{EndsReading, IsReading, StopsReading}
use Rattle.lt_lines.specs.declared.forms.LineForm.{LineForm}
use Rattle.lt_lines.specs.declared.forms.LineForm.TheVariants as forms
use Rattle.lt_lines.specs.declared.marked.Marked.{Marked}
use Rattle.lt_lines.specs.declared.runs.Counts.{Counts}
use Rattle.lt_stream.specs.declared.faults.ToolFault.{ToolFault}
use Rattle.lt_stream.specs.declared.faults.ToolFault.TheVariants as faults
use Rattle.lt_lines.proofs.EndLemmas.{begun_to_last_feed, begun_too_long}
use Rattle.lt_lines.proofs.MarkedLemmas.{begun_none, stop_from, text_begun, text_room, text_to_last_feed}

-- ---- what was written is a front of what is owed

-- where all that is owed was written, that is a front of what is owed
begun_owed : (T : Terms) (read written : List ℕ) (counts : Counts) (tallies : List Tally)
    → AfterMark T (λ text more. OwesAll T text more counts tallies) read written → IsBegunText T read written
begun_owed T read written counts tallies a = record {
  mark = a.mark;
  text = a.text;
  split = a.split;
  front = inr (
    a.more,
    a.written_is,
    record {
      lines = units_of T.form a.text;
      others = [];
      cut = sym (append-nil (units_of T.form a.text));
      owed = a.holds.all.owed;
      each = a.holds.all.each;
      rest = [];
      front = sym a.holds.all.all
          ∙ sym (append-nil a.more);
    },
  );
}

-- where the text ends within quotes, what was written is a front of what is owed
begun_in_quotes : (T : Terms) (read written : List ℕ) (line : ℕ) (tallies : List Tally)
    → AfterMark T (TalliesInQuotes T line tallies) read written → IsBegunText T read written
begun_in_quotes T read written line tallies a =
    record {
      mark = a.mark;
      text = a.text;
      split = a.split;
      front = inr (a.more, a.written_is, begun_to_last_feed T a.text a.more a.holds.0.owed);
    }

-- where a row or a record is too long, what was written is a front of what is owed
begun_after : (T : Terms) (read written : List ℕ) (line : ℕ) (tallies : List Tally)
    → AfterMark T (TalliesTooLong T line tallies) read written → IsBegunText T read written
begun_after T read written line tallies a =
    record {
      mark = a.mark;
      text = a.text;
      split = a.split;
      front = inr (a.more, a.written_is, begun_too_long T a.text a.more line a.holds.0);
    }

-- a run in which a row or a record is too long, and what is owed before it was written, ends by the fault of its form
ends_long : {I O : Type 0} (T : Terms) (remaining : I → Option (List ℕ)) (input input' : Device I)
    (output output' : Device O) (reads : ℕ) (read written : List ℕ) (tallies : List Tally) (line : ℕ)
    → AfterMark T (TalliesTooLong T line tallies) read written
    → EndsAs T remaining input input' output output' reads read written tallies (Err (long_fault T.form line))
ends_long T remaining input input' output output' reads read written tallies line a = by_form T.form refl
  where
    by_form : (form : LineForm) → T.form ≡ form
        → EndsAs T remaining input input' output output' reads read written tallies (Err (long_fault form line))
    by_form forms.Tag is = record { named = sym (ap (λ (f : LineForm). long_fault f line) is); ends = a }
    by_form (forms.Row row) is = record { named = sym (ap (λ (f : LineForm). long_fault f line) is); ends = a }
    by_form (forms.Csv row delimiter) is = inr (record { named = sym (ap (λ (f : LineForm). long_fault f line) is); ends = a })

-- ---- a text that is read

-- `contents` gives what was written to an output, and `start` is the output at the beginning of the run
module _ {W : Type 0} (T : Terms) (contents : W → Option (List ℕ)) (start : Device W) where
  -- at its beginning a run is reading the text, of which it has read nothing, and has written nothing
  pub reading_none : (state : Marked) → IsNew T state → IsReading T contents start start [] state
  reading_none state new = record { written = []; appends = Appends-nil _; same = refl; taken = new.taken; emptied = new.emptied }

  -- while fewer than 2 to the 63 bytes are read, the counts have room for a piece of `count` bytes and one line more
  pub reading_room : (now : Device W) (read : List ℕ) (state : Marked) (count : ℕ)
      → IsReading T contents start now read state → length read + count < 2 ^ 63 → HasRoomFor state (count + 1)
  reading_room now read state count t few = text_room T read t.written state (count + 1) t.taken (omega (arith, few))

  -- a piece is taken or the text is finished after the bytes `read`: `old` and `before` are the state and the output
  -- before it, `new` and `after` those after it, and `U` is the terms of the state, which stay the same
  module _ (before after : Device W) (read piece : List ℕ) (old new : Marked)
      (t : IsReading T contents start before read old) (U : Terms) (same : U ≡ T) where
    -- after a piece that was taken the run is still reading the text, with this piece
    pub reading_more : TakesText U contents piece old new before after (Ok tt) → IsReading T contents start after (read ++ piece) new
    reading_more takes =
        let p = rw same at takes in
        record {
          written = t.written ++ p.written;
          appends = Appends-trans _ _ _ _ _ t.appends p.appends;
          same = p.done.0 ∙ t.same;
          taken = (p.done.1 read t.written t.taken t.emptied).0;
          emptied = (p.done.1 read t.written t.taken t.emptied).1;
        }

    -- why a run over a text ends is true since the beginning of the run, if it is true since the output was `before`
    ends_from : (bytes written : List ℕ) (tallies : List Tally) (f : ToolFault)
        → EndsText T before after bytes written tallies f → EndsText T start after bytes written tallies f
    ends_from bytes written tallies f (inl stop) = inl (stop_from start before after f t.same stop.0, stop.1)
    ends_from bytes written tallies f (inr (inl wide)) = inr (inl (wide.0, wide.1 ∙ t.same, wide.2, wide.3, wide.4, wide.5))
    ends_from bytes written tallies f (inr (inr long)) = inr (inr (long.0, long.1, long.2 ∙ t.same, long.3))

    -- a piece that gives a fault ends the run by this fault
    pub reading_stops : (f : ToolFault) → TakesText U contents piece old new before after (Err f)
        → StopsReading T contents start after (read ++ piece) new.answering.tallies (Err f)
    reading_stops f takes =
        let p = rw same at takes in
        record {
          written = t.written ++ p.written;
          appends = Appends-trans _ _ _ _ _ t.appends p.appends;
          holds = ends_from (read ++ piece) (t.written ++ p.written) new.answering.tallies f (p.stopped read t.written t.taken);
        }

    -- the end of the text ends the run, with its counts or by a fault
    pub reading_ends : (r : Result Counts ToolFault) → FinishesText U contents old new before after r
        → EndsReading T contents start after read new.answering.tallies r
    reading_ends (Ok counts) finishes =
        let p = rw same at finishes in
        record {
          written = t.written ++ p.written;
          appends = Appends-trans _ _ _ _ _ t.appends p.appends;
          holds = (p.done.0 ∙ t.same, p.done.1 read t.written t.taken);
        }
    reading_ends (Err f) finishes =
        let p = rw same at finishes in
        record {
          written = t.written ++ p.written;
          appends = Appends-trans _ _ _ _ _ t.appends p.appends;
          holds = elim (p.stopped read t.written t.taken t.emptied) [
            | inl q ↦ inl (record { line = q.line; fault = q.fault; same = q.same ∙ t.same; ends = q.ends })
            | inr stop ↦ inr (ends_from read (t.written ++ p.written) new.answering.tallies f stop)
          ];
        }

-- ---- how a run ends

-- a run whose state at the end is `here`: `text` gives the state of its text, `U` its terms
module _ {I W A : Type 0} (T : Terms) (U : A → Terms) (text : A → Marked) (remaining : I → Option (List ℕ))
    (contents : W → Option (List ℕ)) (input input' : Device I) (output output' : Device W) (here : A) where
  -- what is true of the run while it reads
  abbrev Taken : RunFact (Device W) A
  Taken start now read state = (U state ≡ T) × IsReading T contents start now read (text state)

  -- what is true of the run if a piece ended it
  abbrev Stopped : EndFact (Device W) A Counts
  Stopped start now read state r = StopsReading T contents start now read (text state).answering.tallies r

  -- what is true of the run if the end of the text ended it
  abbrev Finished : EndFact (Device W) A Counts
  Finished start now read state r = EndsReading T contents start now read (text state).answering.tallies r

  -- The run gave the result `r`, and `p` says what it read and how it ended. Each lemma below says of one way to end
  -- that such a run is a run over the lines of the text (`RunsLines`).
  module _ (r : Result Counts ToolFault) (p : RunsPieces Taken Stopped Finished remaining input input' output output' here r) where
    -- a run that wrote a front of what is owed, ended in a way that is allowed, and gives a failed read or write as its
    -- fault
    run_over : (written : List ℕ) → Appends (contents (inner_of output)) (contents (inner_of output')) written
        → IsBegunText T p.read written
        → EndsAs T remaining input input' output output' p.reads p.read written (text here).answering.tallies r
        → (failures_of input < failures_of input' → r ≡ Err faults.Read)
        → (failures_of output < failures_of output' → r ≡ Err faults.Write)
        → RunsLines T remaining contents input input' output output' (text here).answering.tallies r
    run_over written appends begun ends read_rises write_rises = record {
      read = p.read;
      written = written;
      reads = p.reads;
      consumes = p.consumes;
      appends = appends;
      begun = begun;
      calls = p.calls;
      bounded = p.bounded;
      ends = ends;
      read_rises = read_rises;
      write_rises = write_rises;
    }

    -- a run that ended between two pieces, since a read failed, all reads were made, or memory for a piece ran out
    run_taken : (t : IsReading T contents output output' p.read (text here))
        → EndsAs T remaining input input' output output' p.reads p.read t.written (text here).answering.tallies r
        → (failures_of input < failures_of input' → r ≡ Err faults.Read)
        → RunsLines T remaining contents input input' output output' (text here).answering.tallies r
    run_taken t ends read_rises = run_over t.written t.appends
        (text_begun T p.read t.written (text here) t.taken t.emptied) ends read_rises
        (λ lt. absurd (omega (arith, lt, t.same)))

    -- a run that a failed read ended
    run_read : IsStoppedByRead (λ bytes. Taken output output' bytes here) input input' p.read r
        → RunsLines T remaining contents input input' output output' (text here).answering.tallies r
    run_read s =
        let t = s.taken.1 in
        run_taken t
        (rw s.fault
        (record { failed = s.failed; owed = text_to_last_feed T p.read t.written (text here) t.taken t.emptied }))
        (λ _. s.fault)

    -- a run that made all reads that it may make
    run_turns : IsStoppedByTurns (λ bytes. Taken output output' bytes here) input input' p.reads p.read r
        → RunsLines T remaining contents input input' output output' (text here).answering.tallies r
    run_turns s =
        let t = s.taken.1 in
        run_taken t
        (rw s.fault
        (record {
          all_made = s.all_made;
          gave_bytes = s.gave_bytes;
          last_gave = s.last_gave;
          owed = text_to_last_feed T p.read t.written (text here) t.taken t.emptied;
        }))
        (λ lt. absurd (omega (arith, lt, s.same)))

    -- a run that had no memory for a further piece
    run_memory : IsWithoutMemory (λ bytes. Taken output output' bytes here) input input' p.read r
        → RunsLines T remaining contents input input' output output' (text here).answering.tallies r
    run_memory s = run_taken s.taken.1 (rw s.fault tt) (λ lt. absurd (omega (arith, lt, s.same)))

    -- a run that ended early: a write failed or memory ran out, the text is UTF-16, or a row or a record is too long
    run_stopped : (f : ToolFault) → r ≡ Err f → failures_of input' ≡ failures_of input → (written : List ℕ)
        → Appends (contents (inner_of output)) (contents (inner_of output')) written
        → EndsText T output output' p.read written (text here).answering.tallies f
        → RunsLines T remaining contents input input' output output' (text here).answering.tallies r
    run_stopped f is same written appends (inl (inl wrote, begun)) =
        let fault : r ≡ Err faults.Write = is ∙ ap (λ (e : ToolFault). Err e) wrote.0 in
        run_over written appends begun (rw fault wrote.1) (λ lt. absurd (omega (arith, lt, same))) (λ _. fault)
    run_stopped f is same written appends (inl (inr lacks, begun)) =
        let fault : r ≡ Err faults.OutOfMemory = is ∙ ap (λ (e : ToolFault). Err e) lacks.0 in
        run_over written appends begun (rw fault tt) (λ lt. absurd (omega (arith, lt, same))) (λ lt. absurd (omega (arith, lt, lacks.1)))
    run_stopped f is same written appends (inr (inl wide)) =
        let fault : r ≡ Err faults.Utf16 = is ∙ ap (λ (e : ToolFault). Err e) wide.0 in
        run_over written appends (rw wide.3 (begun_none T p.read))
        (rw fault (record { looked = wide.5; wide = wide.2; nothing = wide.3; none = wide.4 }))
        (λ lt. absurd (omega (arith, lt, same))) (λ lt. absurd (omega (arith, lt, wide.1)))
    run_stopped f is same written appends (inr (inr long)) =
        let fault : r ≡ Err (long_fault T.form long.0) = is ∙ ap (λ (e : ToolFault). Err e) long.1 in
        run_over written appends (begun_after T p.read written long.0 (text here).answering.tallies long.3)
        (rw fault (ends_long T remaining input input' output output' p.reads p.read written
        (text here).answering.tallies long.0 long.3)) (λ lt. absurd (omega (arith, lt, same)))
        (λ lt. absurd (omega (arith, lt, long.2)))

    -- a run whose text ends within quotes
    run_quotes : (f : ToolFault) → r ≡ Err f → IsAtEnd (remaining (inner_of input'))
        → failures_of input' ≡ failures_of input → (written : List ℕ)
        → Appends (contents (inner_of output)) (contents (inner_of output')) written
        → EndsTextInQuotes T output output' p.read written (text here).answering.tallies f
        → RunsLines T remaining contents input input' output output' (text here).answering.tallies r
    run_quotes f is end same written appends q =
        let fault : r ≡ Err (faults.BadCsv q.line) = is ∙ ap (λ (e : ToolFault). Err e) q.fault in
        run_over written appends (begun_in_quotes T p.read written q.line (text here).answering.tallies q.ends)
        (rw fault (inl (record { end = end; ends = q.ends }))) (λ lt. absurd (omega (arith, lt, same)))
        (λ lt. absurd (omega (arith, lt, q.same)))

  -- a run over the pieces of a text is a run over its lines, however it ended
  pub runs_lines : (r : Result Counts ToolFault)
      → RunsPieces Taken Stopped Finished remaining input input' output output' here r
      → RunsLines T remaining contents input input' output output' (text here).answering.tallies r
  runs_lines (Ok counts) p = elim p.ends [
    | inl f ↦
        let h = f.finished in
        run_over (Ok counts) p h.written h.appends (begun_owed T p.read h.written counts (text here).answering.tallies
        h.holds.1) (record { end = f.end; owed = h.holds.1 })
        (λ lt. absurd (omega (arith, lt, f.same))) (λ lt. absurd (omega (arith, lt, h.holds.0)))
    | inr (inl s) ↦ absurd s.stopped
    | inr (inr (inl s)) ↦ run_read (Ok counts) p s
    | inr (inr (inr (inl s))) ↦ run_turns (Ok counts) p s
    | inr (inr (inr (inr s))) ↦ run_memory (Ok counts) p s
  ]
  runs_lines (Err f) p = elim p.ends [
    | inl e ↦
        let h = e.finished in
        elim h.holds [
          | inl quotes ↦ run_quotes (Err f) p f refl e.end e.same h.written h.appends quotes
          | inr stop ↦ run_stopped (Err f) p f refl e.same h.written h.appends stop
        ]
    | inr (inl s) ↦ let h = s.stopped in run_stopped (Err f) p f refl s.same h.written h.appends h.holds
    | inr (inr (inl s)) ↦ run_read (Err f) p s
    | inr (inr (inr (inl s))) ↦ run_turns (Err f) p s
    | inr (inr (inr (inr s))) ↦ run_memory (Err f) p s
  ]
