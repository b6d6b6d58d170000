-- Lemmas for the steps of a run over lines that come in pieces, as `Lined` makes them. If the state was right for the
-- bytes that were read so far (`IsDuring`), it is right after each step: a part is kept, a line is answered, answers
-- are written, or the bytes end. If memory runs out or a write fails, what was written is a front of the answers.
use Rattle.std.proofs.Common.{◌≡◌, ◌≢◌, ◌≤◌, ◌<◌, ◌-◌, ◌++◌, ◌∷◌, ◌∙◌, inl, inr, ℕ, List, [], Option, Ok, Err, length}
use Rattle.std.proofs.Common.{take, sym, ap, refl, subst, arith, append_assoc, append-nil, length-append}
use Rattle.std.proofs.KnownBytes.{Appends-nil, Appends-trans}
use Rattle.std.proofs.lemmas.List.Elements.{All-append, All-nil}
use Rattle.lt_jar.specs.Lines.{IsOneLine, lines_of, whole_lines}
use Rattle.lt_jar.specs.declared.devices.Device.{Device}
use Rattle.lt_jar.proofs.CutLemmas.{lines_of-ended, lines_of-last}
use Rattle.lt_jar.proofs.TurnLemmas.{lines_of-whole, whole-append}
use Rattle.lt_rows.proofs.RowLemmas.{each-last}
use Rattle.lt_stream.specs.DeviceOutput.{IsFrontOf}
use Rattle.lt_stream.specs.Lines.{Answered, IsBegun}
use Rattle.lt_stream.specs.Lined.{EndsLast, EndsLine, IsAll, IsAnswered, IsCutOff, IsDuring, IsTaken, KeepsMore, WritesOwed}
use Rattle.lt_stream.specs.declared.faults.ToolFault.{ToolFault}
use Rattle.lt_stream.specs.declared.faults.ToolFault.TheVariants as faults
use Rattle.lt_stream.specs.declared.lines.Lined.{Lined}
use Rattle.lt_stream.proofs.DeviceLemmas.{failed_from}
use Rattle.lt_stream.proofs.PartLemmas.{kept_front, nothing_kept, take_none}

-- the byte is no line feed (10)
abbrev IsNoFeed : ℕ → Type 0
IsNoFeed byte = byte ≢ 10

-- the text of lines and one more is that of the others, and then this line and its line feed (10)
whole_last : (lines : List (List ℕ)) (line : List ℕ) → whole_lines (lines ++ line ∷ []) ≡ whole_lines lines ++ (line ++ 10 ∷ [])
whole_last lines line = whole-append lines (line ∷ []) ∙ ap (λ (l : List ℕ). whole_lines lines ++ l) (append-nil (line ++ 10 ∷ []))

-- there are no more whole lines than bytes of them and of their line feeds
pub few_lines : (lines : List (List ℕ)) → length lines ≤ length (whole_lines lines)
few_lines [] = omega arith
few_lines (line ∷ lines) = omega (arith, few_lines lines, length-append (line ++ 10 ∷ []) (whole_lines lines), length-append line (10 ∷ []))

-- One run, from the output `start`, whose lines are answered by what was `first` at its beginning. A state is right for
-- the bytes that were read if `IsDuring` is true of them.
module _ {A W : Type 0} (Q : A → Answered A) (first : A) (longest : ℕ) (contents : W → Option (List ℕ)) (start : Device W) where
  -- a state in which nothing is kept, owed or answered is right at the beginning, where no byte is read
  pub taken_none : (state : Lined A) → 0 < longest → state.kept.items ≡ [] → state.owed.items ≡ []
      → Q first state.answers [] [] → IsTaken (Q first) longest contents start start [] state
  taken_none state some kept owed answered = record {
    during = record {
      some = some;
      written = [];
      appends = Appends-nil _;
      same = refl;
      lines = [];
      last = [];
      cut = refl;
      each_one = tt;
      last_one = All-nil IsNoFeed;
      kept = kept ∙ sym (take_none longest [] refl);
      answered = rw owed answered;
    };
    emptied = owed;
  }

  -- if a further part of a line is read and kept, the state is right with that part
  pub during_part : (now : Device W) (bytes part : List ℕ) (old new : Lined A) → IsOneLine part
      → KeepsMore longest part old new → IsDuring (Q first) longest contents start now bytes old
      → IsDuring (Q first) longest contents start now (bytes ++ part) new
  during_part now bytes part old new one k t = record {
    some = t.some;
    written = t.written;
    appends = t.appends;
    same = t.same;
    lines = t.lines;
    last = t.last ++ part;
    cut = ap (λ (l : List ℕ). l ++ part) t.cut ∙ append_assoc (whole_lines t.lines) t.last part;
    each_one = t.each_one;
    last_one = All-append IsNoFeed t.last part t.last_one one;
    kept = kept_front longest old.kept.items t.last part new.kept.items t.kept
        (k.kept ∙ ap (λ (n : ℕ). old.kept.items ++ take (longest - n) part) old.kept.ok.0);
    answered = rw (k.same, k.owed) t.answered;
  }

  -- if a line feed (10) is read, and the line that it ends is answered, the state is right with the line feed
  pub during_feed : (now : Device W) (bytes : List ℕ) (old new : Lined A) → EndsLine Q longest old new
      → IsDuring (Q first) longest contents start now bytes old
      → IsDuring (Q first) longest contents start now (bytes ++ 10 ∷ []) new
  during_feed now bytes old new e t = record {
    some = t.some;
    written = t.written;
    appends = t.appends;
    same = t.same;
    lines = t.lines ++ t.last ∷ [];
    last = [];
    cut = ap (λ (l : List ℕ). l ++ 10 ∷ []) t.cut ∙ append_assoc (whole_lines t.lines) t.last (10 ∷ [])
        ∙ sym (whole_last t.lines t.last) ∙ sym (append-nil (whole_lines (t.lines ++ t.last ∷ [])));
    each_one = each-last IsOneLine t.lines t.last t.each_one t.last_one;
    last_one = All-nil IsNoFeed;
    kept = e.emptied ∙ sym (take_none longest [] refl);
    answered = rw (e.takes.grown, ← append_assoc t.written old.owed.items e.takes.part)
        (e.takes.taken t.last t.last_one t.kept first t.lines (t.written ++ old.owed.items) t.answered);
  }

  -- if some of the answers that wait are written, the state is right for the same bytes
  pub during_written : (now after : Device W) (bytes : List ℕ) (old new : Lined A)
      → WritesOwed contents old new now after (Ok tt) → IsDuring (Q first) longest contents start now bytes old
      → IsDuring (Q first) longest contents start after bytes new
  during_written now after bytes old new w t = record {
    some = t.some;
    written = t.written ++ w.part;
    appends = Appends-trans _ _ _ _ _ t.appends w.appends;
    same = w.done.1 ∙ t.same;
    lines = t.lines;
    last = t.last;
    cut = t.cut;
    each_one = t.each_one;
    last_one = t.last_one;
    kept = w.kept ∙ t.kept;
    answered = rw (w.same, append_assoc t.written w.part new.owed.items, ← w.done.0) t.answered;
  }

  -- what was written, and a front of the answers that wait, is a front of the answers to all lines, whatever bytes
  -- follow
  begun_during : (now : Device W) (bytes more part : List ℕ) (state : Lined A) (t : IsDuring (Q first) longest contents
      start now bytes state) → IsFrontOf part state.owed.items → IsBegun (Q first) (bytes ++ more) (t.written ++ part)
  begun_during now bytes more part state t front = record {
    lines = t.lines;
    others = lines_of (t.last ++ more);
    cut = rw (t.cut, append_assoc (whole_lines t.lines) t.last more) (lines_of-whole t.lines (t.last ++ more) t.each_one);
    answers = state.answers;
    all = t.written ++ state.owed.items;
    answered = t.answered;
    rest = front.0;
    front = ap (λ (l : List ℕ). t.written ++ l) front.1 ∙ sym (append_assoc t.written part front.0);
  }

  -- if memory runs out, what was written is a front of the answers, whatever bytes follow
  pub during_lacks : (now : Device W) (bytes more : List ℕ) (state : Lined A)
      → IsDuring (Q first) longest contents start now bytes state
      → IsCutOff (Q first) contents start now (bytes ++ more) faults.OutOfMemory
  during_lacks now bytes more state t = record {
    written = t.written;
    appends = t.appends;
    begun = subst (IsBegun (Q first) (bytes ++ more)) (append-nil t.written)
        (begun_during now bytes more [] state t (state.owed.items, refl));
    stop = inr (refl, t.same);
  }

  -- if a write fails, what was written is a front of the answers, whatever bytes follow
  pub during_fails : (now last : Device W) (bytes more : List ℕ) (state new : Lined A) (f : ToolFault)
      → IsDuring (Q first) longest contents start now bytes state → WritesOwed contents state new now last (Err f)
      → IsCutOff (Q first) contents start last (bytes ++ more) f
  during_fails now last bytes more state new f t w = record {
    written = t.written ++ w.part;
    appends = Appends-trans _ _ _ _ _ t.appends w.appends;
    begun = begun_during now bytes more w.part state t w.stopped.2;
    stop = inl (w.stopped.0, failed_from start now last t.same w.stopped.1);
  }

  -- ---- the end

  -- where nothing is kept, the lines of the bytes are those that are answered
  lines_during : (now : Device W) (bytes : List ℕ) (state : Lined A) (t : IsDuring (Q first) longest contents start now
      bytes state) → state.kept.items ≡ [] → lines_of bytes ≡ t.lines
  lines_during now bytes state t none = rw (
    t.cut,
    lines_of-whole t.lines t.last t.each_one,
    nothing_kept longest state.kept.items t.last t.some t.kept none,
  ) (append-nil t.lines)

  -- where something is kept, the bytes have the same lines with a line feed (10) behind them, since their last line has
  -- none
  last_ended : (now : Device W) (bytes : List ℕ) (state : Lined A)
      → IsDuring (Q first) longest contents start now bytes state → (state.kept.items ≡ [] → ⊥)
      → lines_of (bytes ++ 10 ∷ []) ≡ lines_of bytes
  last_ended now bytes state t some =
      let long : 0 < length t.last = last_length t.last t.kept in
      rw (
        t.cut,
        append_assoc (whole_lines t.lines) t.last (10 ∷ []),
        lines_of-whole t.lines (t.last ++ 10 ∷ [])
            t.each_one,
        lines_of-whole t.lines t.last t.each_one,
      )
      (rw (lines_of-ended t.last [] t.last_one, lines_of-last t.last t.last_one long) refl)
    where
      last_length : (last : List ℕ) → state.kept.items ≡ take longest last → 0 < length last
      last_length [] is = absurd (some (is ∙ take_none longest [] refl))
      last_length (byte ∷ last) is = omega arith

  -- where nothing is kept, all lines of the bytes are answered
  answered_during : (now : Device W) (bytes : List ℕ) (state : Lined A)
      → IsDuring (Q first) longest contents start now bytes state → state.kept.items ≡ []
      → IsAnswered (Q first) contents start now bytes state
  answered_during now bytes state t none = record {
    written = t.written;
    appends = t.appends;
    same = t.same;
    answered = rw (lines_during now bytes state t none) t.answered;
  }

  -- once a line that is kept, if there is one, is answered as the last, all lines of the bytes are answered
  pub answered_last : (now : Device W) (bytes : List ℕ) (old new : Lined A) → EndsLast Q longest old new
      → IsDuring (Q first) longest contents start now bytes old → IsAnswered (Q first) contents start now bytes new
  answered_last now bytes old new (inl none) t = rw none.1 (answered_during now bytes old t none.0)
  answered_last now bytes old new (inr some) t =
      let a = answered_during now (bytes ++ 10 ∷ []) new (during_feed now bytes old new some.1 t) some.1.emptied in
      record { written = a.written; appends = a.appends; same = a.same; answered = rw (last_ended now bytes old t some.0) at a.answered }

  -- if then the answers that wait are written, all lines are answered and all answers written
  pub answered_all : (now after : Device W) (bytes : List ℕ) (state new : Lined A)
      → IsAnswered (Q first) contents start now bytes state → WritesOwed contents state new now after (Ok tt)
      → new.owed.items ≡ []
      → IsAll (Q first) contents start after bytes new.answers
  answered_all now after bytes state new a w none = record {
    written = a.written ++ w.part;
    appends = Appends-trans _ _ _ _ _ a.appends w.appends;
    same = w.done.1 ∙ a.same;
    answered = rw (w.same, sym (append-nil w.part) ∙ ap (λ (l : List ℕ). w.part ++ l) (sym none) ∙ sym w.done.0) a.answered;
  }

  -- if a write of the answers that wait fails at the end, what was written is a front of the answers
  pub answered_fails : (now last : Device W) (bytes : List ℕ) (state new : Lined A) (f : ToolFault)
      → IsAnswered (Q first) contents start now bytes state → WritesOwed contents state new now last (Err f)
      → IsCutOff (Q first) contents start last bytes f
  answered_fails now last bytes state new f a w = record {
    written = a.written ++ w.part;
    appends = Appends-trans _ _ _ _ _ a.appends w.appends;
    begun = record {
      lines = lines_of bytes;
      others = [];
      cut = sym (append-nil (lines_of bytes));
      answers = state.answers;
      all = a.written ++ state.owed.items;
      answered = a.answered;
      rest = w.stopped.2.0;
      front = ap (λ (l : List ℕ). a.written ++ l) w.stopped.2.1 ∙ sym (append_assoc a.written w.part w.stopped.2.0);
    };
    stop = inl (w.stopped.0, failed_from start now last a.same w.stopped.1);
  }
