-- Lemmas for `Lined::take_piece` and `run_lines`. What is true at each turn of the loop over the lines of a piece
-- (`PieceTurn`) stays true in the next one, and makes the piece taken at the end. A run over pieces of lines, however
-- it ends, is a run over the lines (`runs_over`).
use Rattle.std.proofs.Common.{◌≡◌, ◌<◌, ◌+◌, ◌^◌, ◌⊎◌, ◌++◌, ◌∷◌, ◌∙◌, inl, inr, ℕ, List, [], Option, Result, Ok, Err}
use Rattle.std.proofs.Common.{length, sym, ap, refl, arith, append_assoc, append-nil, length-append}
use Rattle.std.specs.Io.KnownBytes.{Appends}
use Rattle.lt_jar.specs.Devices.{failures_of, inner_of}
use Rattle.lt_jar.specs.Lines.{IsOneLine, lines_of, whole_lines}
use Rattle.lt_jar.specs.declared.devices.Device.{Device}
use Rattle.lt_jar.proofs.TurnLemmas.{lines_of-whole}
use Rattle.lt_stream.specs.Lines.{Answered, EndsAs, HasLine, IsAnsweredToLastFeed, IsBegun, RunsOverLines}
use Rattle.lt_stream.specs.Lined.{EndsLine, Finishes, IsCutOff, IsDuring, IsTaken, KeepsMore, Stops, WritesOwed}
use Rattle.lt_stream.specs.Pieces.{HasRoom, IsFinished, IsStopped, IsStoppedByRead, IsStoppedByTurns, IsWithoutMemory, RunsPieces}
use Rattle.lt_stream.specs.declared.faults.ToolFault.{ToolFault}
use Rattle.lt_stream.specs.declared.faults.ToolFault.TheVariants as faults
use Rattle.lt_stream.specs.declared.lines.Lined.{Lined}
use Rattle.lt_stream.proofs.LinedLemmas.{during_fails, during_feed, during_lacks, during_part, during_written, few_lines}

-- if the bytes that a run has read, and one more, are fewer than 2 to the 64, it may answer one line more, since it has
-- answered no more lines than it has read bytes
pub has_line : {A W : Type 0} (Q : A → Answered A) (first : A) (longest : ℕ) (contents : W
    → Option (List ℕ)) (start now : Device W) (bytes : List ℕ) (state : Lined A)
    → IsDuring (Q first) longest contents start now bytes state
    → length bytes + 1 < 2 ^ 64 → HasLine Q state.answers
has_line Q first longest contents start now bytes state t few = record {
  first = first;
  lines = t.lines;
  bytes = t.written ++ state.owed.items;
  answered = t.answered;
  few = omega (arith, few, few_lines t.lines, ap length t.cut, length-append (whole_lines t.lines) t.last);
}

-- So far the lines of a front of the piece are answered, and `rest` of it is left. What was true of a run before the
-- piece, whatever it had read, is true of it with the front read too. `before` and `old` are the output and the state
-- before the piece, `now` and `state` those at this turn.
pub record PieceTurn {A W : Type 0} (Q : A → Answered A) (longest : ℕ) (contents : W → Option (List ℕ))
    (piece rest : List ℕ) (before now : Device W) (old state : Lined A) : Type 0 where
  pub front : List ℕ
  pub split : piece ≡ front ++ rest
  pub takes : (first : Lined A) (start : Device W) (bytes : List ℕ)
      → IsTaken (Q first.answers) longest contents start before bytes old
      → IsDuring (Q first.answers) longest contents start now (bytes ++ front) state

-- before the first turn the whole piece is left
pub first_turn : {A W : Type 0} (Q : A → Answered A) (longest : ℕ) (contents : W
    → Option (List ℕ)) (piece : List ℕ) (before : Device W) (old : Lined A)
    → PieceTurn Q longest contents piece piece before before old old
first_turn Q longest contents piece before old = record {
  front = [];
  split = refl;
  takes = λ first start bytes t.
      rw (append-nil bytes) t.during;
}

-- one turn of the loop over a piece, at whose beginning `rest` is left
module _ {A W : Type 0} (Q : A → Answered A) (longest : ℕ) (contents : W → Option (List ℕ)) (piece rest : List ℕ)
    (before now : Device W) (old state : Lined A)
    (t : PieceTurn Q longest contents piece rest before now old state) where
  -- one line more may be answered, once its last part is kept, in `mid`
  pub turn_room : (part : List ℕ) (mid : Lined A)
      → HasRoom (λ first. IsTaken (Q first.answers) longest contents) (length piece) before old
      → KeepsMore longest part state mid → HasLine Q mid.answers
  turn_room part mid r k =
      rw k.same (has_line Q r.first.answers longest contents r.start now (r.read ++ t.front) state
      (t.takes r.first r.start r.read r.taken)
      (omega (arith, r.few, length-append r.read t.front, ap length t.split, length-append t.front rest)))

  -- if the next line ends, its last part is kept, in `mid`, and it is answered, in `new`, then `after` is left
  pub turn_line : (line after : List ℕ) (mid new : Lined A) → IsOneLine line × (rest ≡ line ++ 10 ∷ after)
      → KeepsMore longest line state mid → EndsLine Q longest mid new
      → PieceTurn Q longest contents piece after before now old new
  turn_line line after mid new split keeps ends = record {
    front = (t.front ++ line) ++ 10 ∷ [];
    split = t.split ∙ ap (λ (l : List ℕ). t.front ++ l) split.1 ∙ sym (append_assoc t.front line (10 ∷ after))
        ∙ sym (append_assoc (t.front ++ line) (10 ∷ []) after);
    takes = λ first start bytes taken. rw (← append_assoc bytes (t.front ++ line) (10 ∷ []), ← append_assoc bytes t.front line)
        (during_feed Q first.answers longest contents start now ((bytes ++ t.front) ++ line) mid new ends
        (during_part Q first.answers longest contents start now (bytes ++ t.front) line state mid split.0 keeps
        (t.takes first start bytes taken)));
  }

  -- if some of the answers that wait are written, the same rest is left
  pub turn_written : (after : Device W) (new : Lined A) → WritesOwed contents state new now after (Ok tt)
      → PieceTurn Q longest contents piece rest before after old new
  turn_written after new w = record {
    front = t.front;
    split = t.split;
    takes = λ first start bytes taken.
        during_written Q first.answers longest contents start now after (bytes ++ t.front) state new w
        (t.takes first start bytes taken);
  }

  -- if memory runs out, what was written is a front of the answers
  pub turn_lacks : (first : Lined A) (start : Device W) (bytes : List ℕ)
      → IsTaken (Q first.answers) longest contents start before bytes old
      → IsCutOff (Q first.answers) contents start now (bytes ++ piece) faults.OutOfMemory
  turn_lacks first start bytes taken = rw (t.split, ← append_assoc bytes t.front rest)
      (during_lacks Q first.answers longest contents start now (bytes ++ t.front) rest state
      (t.takes first start bytes taken))

  -- if a write fails, what was written is a front of the answers
  pub turn_fails : (last : Device W) (new : Lined A) (f : ToolFault) → WritesOwed contents state new now last (Err f)
      → (first : Lined A) (start : Device W) (bytes : List ℕ)
      → IsTaken (Q first.answers) longest contents start before bytes old
      → IsCutOff (Q first.answers) contents start last (bytes ++ piece) f
  turn_fails last new f w first start bytes taken =
      rw (t.split, ← append_assoc bytes t.front rest) (during_fails Q first.answers longest contents start now last
      (bytes ++ t.front) rest state new f (t.takes first start bytes taken) w)

  -- if the rest has no line feed, and is kept as the front of a line, nothing is left
  pub turn_kept : (mid : Lined A) → IsOneLine rest → KeepsMore longest rest state mid
      → PieceTurn Q longest contents piece [] before now old mid
  turn_kept mid one keeps = record {
    front = piece;
    split = sym (append-nil piece);
    takes = λ first start bytes taken. rw (t.split, ← append_assoc bytes t.front rest)
        (during_part Q first.answers longest contents start now (bytes ++ t.front) rest state mid one keeps
        (t.takes first start bytes taken));
  }

-- if nothing of the piece is left, and no answer waits, the piece is taken
pub turn_done : {A W : Type 0} (Q : A → Answered A) (longest : ℕ) (contents : W → Option (List ℕ)) (piece : List ℕ)
    (before now : Device W) (old state : Lined A)
    → PieceTurn Q longest contents piece [] before now old state → state.owed.items ≡ []
    → (first : Lined A) (start : Device W) (bytes : List ℕ)
    → IsTaken (Q first.answers) longest contents start before bytes old
    → IsTaken (Q first.answers) longest contents start now (bytes ++ piece) state
turn_done Q longest contents piece before now old state t none first start bytes taken = record
    { during = rw (t.split, append-nil t.front) (t.takes first start bytes taken); emptied = none }

-- ---- how a run ends

-- a run stands between two pieces: no write failed, and what it has written answers the lines of this text up to its
-- last line feed
pub record IsBetween {A W : Type 0} (Q : Answered A) (contents : W → Option (List ℕ)) (start now : Device W)
    (text : List ℕ) (answers : A) : Type 0 where
  pub written : List ℕ
  pub appends : Appends (contents (inner_of start)) (contents (inner_of now)) written
  pub same : failures_of now ≡ failures_of start
  pub begun : IsBegun Q text written
  pub owed : IsAnsweredToLastFeed Q text written answers

-- between two pieces all lines of the bytes up to the last line feed are answered
pub between : {A W : Type 0} (Q : Answered A) (longest : ℕ) (contents : W
    → Option (List ℕ)) (start now : Device W) (text : List ℕ) (state : Lined A)
    → IsTaken Q longest contents start now text state → IsBetween Q contents start now text state.answers
between Q longest contents start now text state t =
    let d = t.during in
    let answered = rw (t.emptied, append-nil d.written) at d.answered in
    record {
      written = d.written;
      appends = d.appends;
      same = d.same;
      begun = record {
        lines = d.lines;
        others = lines_of d.last;
        cut = rw d.cut (lines_of-whole d.lines d.last d.each_one);
        answers = state.answers;
        all = d.written;
        answered = answered;
        rest = [];
        front = sym (append-nil d.written);
      };
      owed = record { lines = d.lines; last = d.last; cut = d.cut; each_one = d.each_one; last_one = d.last_one; answered = answered };
    }

-- How a run ends. It read the bytes `read`, and `text` are the bytes of these that are cut into lines. Names with ' are
-- of the devices after it.
module _ {A I W : Type 0} (Q : Answered A) (remaining : I → Option (List ℕ)) (contents : W → Option (List ℕ))
    (input input' : Device I) (output output' : Device W) (state : Lined A) (reads : ℕ) (read text : List ℕ) where
  -- the ways in which a run ends
  abbrev pub Ways : Result (Unit {0}) ToolFault → Type 0
  Ways r =
      IsFinished (λ _ end. Finishes Q contents output output' text state end) remaining input input' read r
      ⊎ (IsStopped (λ _ end. Stops Q contents output output' text end) input input' read r
      ⊎ (IsStoppedByRead (λ _. IsBetween Q contents output output' text state.answers) input input' read r
      ⊎ (IsStoppedByTurns (λ _. IsBetween Q contents output output' text state.answers) input input' reads read r
      ⊎ IsWithoutMemory (λ _. IsBetween Q contents output output' text state.answers) input input' read r)))

  -- What is said of a run with the result `r`: it wrote a front of the answers, it ended in a way that the contract
  -- allows, and its result says which device failed, if one did.
  pub record Ended (r : Result (Unit {0}) ToolFault) : Type 0 where
    pub written : List ℕ
    pub appends : Appends (contents (inner_of output)) (contents (inner_of output')) written
    pub begun : IsBegun Q text written
    pub ends : EndsAs Q remaining input input' output output' reads read text written state.answers r
    pub read_rises : failures_of input < failures_of input' → r ≡ Err faults.Read
    pub write_rises : failures_of output < failures_of output' → r ≡ Err faults.Write

  module _ (r : Result (Unit {0}) ToolFault) where
    -- this is true of a run that ended since a write failed, or memory ran out when a line was answered
    ended_cut : (f : ToolFault) → r ≡ Err f → failures_of input' ≡ failures_of input → IsCutOff Q contents output output' text f → Ended r
    ended_cut f is same c = elim c.stop [
      | inl wrote ↦
          let fault : r ≡ Err faults.Write = is ∙ ap (λ (e : ToolFault). Err e) wrote.0 in
          record {
            written = c.written;
            appends = c.appends;
            begun = c.begun;
            ends = rw fault wrote.1;
            read_rises = λ lt. absurd (omega (arith, lt, same));
            write_rises = λ lt. fault;
          }
      | inr lacks ↦
          let fault : r ≡ Err faults.OutOfMemory = is ∙ ap (λ (e : ToolFault). Err e) lacks.0 in
          record {
            written = c.written;
            appends = c.appends;
            begun = c.begun;
            ends = rw fault tt;
            read_rises = λ lt. absurd (omega (arith, lt, same));
            write_rises = λ lt. absurd (omega (arith, lt, lacks.1));
          }
    ]

    -- it is true of a run that ended between two pieces, with all answers written
    ended_between : (b : IsBetween Q contents output output' text state.answers)
        → EndsAs Q remaining input input' output output' reads read text b.written state.answers r
        → (failures_of input < failures_of input' → r ≡ Err faults.Read) → Ended r
    ended_between b ends rises = record {
      written = b.written;
      appends = b.appends;
      begun = b.begun;
      ends = ends;
      read_rises = rises;
      write_rises = λ lt. absurd (omega (arith, lt, b.same));
    }

    -- it is true of a run that a failed read ended
    ended_read : IsStoppedByRead (λ _. IsBetween Q contents output output' text state.answers) input input' read r → Ended r
    ended_read s = ended_between s.taken (rw s.fault (record { failed = s.failed; owed = s.taken.owed })) (λ _. s.fault)

    -- it is true of a run that made all reads that it may make, the last of which gave bytes
    ended_turns : IsStoppedByTurns (λ _. IsBetween Q contents output output' text state.answers) input input' reads read r → Ended r
    ended_turns s =
        ended_between s.taken
        (rw s.fault
        (record { all_made = s.all_made; gave_bytes = s.gave_bytes; last_gave = s.last_gave; owed = s.taken.owed }))
        (λ lt. absurd (omega (arith, lt, s.same)))

    -- it is true of a run that had no memory for a piece
    ended_memory : IsWithoutMemory (λ _. IsBetween Q contents output output' text state.answers) input input' read r → Ended r
    ended_memory s = ended_between s.taken (rw s.fault tt) (λ lt. absurd (omega (arith, lt, s.same)))

  -- in whichever way a run ends, what `Ended` says is true of it
  pub ended : (r : Result (Unit {0}) ToolFault) → Ways r → Ended r
  ended (Ok u) (inl f) =
      let a = f.finished in
      record {
        written = a.written;
        appends = a.appends;
        begun = record {
          lines = lines_of text;
          others = [];
          cut = sym (append-nil (lines_of text));
          answers = state.answers;
          all = a.written;
          answered = a.answered;
          rest = [];
          front = sym (append-nil a.written);
        };
        ends = record { end = f.end; answered = a.answered };
        read_rises = λ lt. absurd (omega (arith, lt, f.same));
        write_rises = λ lt. absurd (omega (arith, lt, a.same));
      }
  ended (Ok u) (inr (inl s)) = absurd s.stopped
  ended (Err f) (inl e) = ended_cut (Err f) f refl e.same e.finished
  ended (Err f) (inr (inl s)) = ended_cut (Err f) f refl s.same s.stopped
  ended r (inr (inr (inl s))) = ended_read r s
  ended r (inr (inr (inr (inl s)))) = ended_turns r s
  ended r (inr (inr (inr (inr s)))) = ended_memory r s

-- a run over the pieces of lines is a run over the lines
pub runs_over : {A I W : Type 0} (Q : Answered A) (longest : ℕ) (remaining : I → Option (List ℕ))
    (contents : W → Option (List ℕ)) (input input' : Device I) (output output' : Device W) (state : Lined A)
    (r : Result (Unit {0}) ToolFault)
    → RunsPieces (IsTaken Q longest contents) (λ start now read _ end. Stops Q contents start now read end) (Finishes Q
    contents) remaining input input' output output' state r
    → RunsOverLines Q remaining contents input input' output output' state.answers r
runs_over Q longest remaining contents input input' output output' state r p =
    let taken = between Q longest contents output output' p.read state in
    let e = ended Q remaining contents input input' output output' state p.reads p.read p.read r (elim p.ends [
      | inl f ↦ inl (record { end = f.end; same = f.same; finished = f.finished })
      | inr (inl s) ↦ inr (inl (record { same = s.same; stopped = s.stopped }))
      | inr (inr (inl s)) ↦ inr (inr (inl (record { fault = s.fault; failed = s.failed; taken = taken s.taken })))
      | inr (inr (inr (inl s))) ↦
          inr (inr (inr
          (inl (record {
            fault = s.fault;
            same = s.same;
            all_made = s.all_made;
            gave_bytes = s.gave_bytes;
            last_gave = s.last_gave;
            taken = taken s.taken;
          }))))
      | inr (inr (inr (inr s))) ↦ inr (inr (inr (inr (record { fault = s.fault; same = s.same; taken = taken s.taken }))))
    ]) in
    record {
      read = p.read;
      written = e.written;
      reads = p.reads;
      consumes = p.consumes;
      appends = e.appends;
      begun = e.begun;
      calls = p.calls;
      bounded = p.bounded;
      ends = e.ends;
      read_rises = e.read_rises;
      write_rises = e.write_rises;
    }
