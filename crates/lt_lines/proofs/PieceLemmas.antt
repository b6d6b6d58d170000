-- Lemmas for the loop of `Answering::take_piece`: what is true at each turn of it, that is, after each line of a piece
-- (`PieceTurn`), stays true in the next one, and gives what is said of the piece where the loop ends or stops.
use Rattle.std.proofs.Common.{◌≡◌, ◌≤◌, ◌+◌, ◌++◌, ◌∷◌, ◌∙◌, inl, inr, ℕ, List, [], Option, Result, Ok, Err, OnOk}
use Rattle.std.proofs.Common.{length, take, sym, ap, refl, subst, arith, append_assoc, append-nil, length-append}
use Rattle.std.specs.Io.KnownBytes.{Appends}
use Rattle.std.proofs.KnownBytes.{Appends-trans}
use Rattle.std.proofs.Math.Seq.{take-append_seam}
use Rattle.lt_jar.specs.Devices.{failures_of, inner_of}
use Rattle.lt_jar.specs.declared.devices.Device.{Device}
use Rattle.lt_jar.specs.Lines.{IsOneLine}
use Rattle.lt_stream.specs.DeviceOutput.{IsFrontOf}
use Rattle.lt_lines.specs.Answering.{CountsFeed, IsLongBy, IsStop, IsTaken, StopsLong, TakesPiece, WritesOwed, line_of}
use Rattle.lt_lines.specs.Answering.{part_kept, place_then}
use Rattle.lt_lines.specs.Owed.{Terms}
use Rattle.lt_lines.specs.declared.answering.Answering.{Answering}
use Rattle.lt_stream.specs.declared.faults.ToolFault.{ToolFault}
use Rattle.lt_stream.proofs.DeviceLemmas.{failed_from}
use Rattle.lt_lines.proofs.EndLemmas.{too_long}
use Rattle.lt_lines.proofs.TakenLemmas.{begun_front, taken_part, taken_write}

-- The turns over a piece took its front and wrote `written`, no write failed, and `rest` is left. If `old` is right for
-- any bytes read and written, `now` is right for these with the front and `written` (`taken`), and no more lines and
-- line feeds were counted than bytes were taken. `old` and `before` are the state and the output before the piece,
-- `now` and `after` those after the last turn.
pub record PieceTurn {W : Type 0} (T : Terms) (contents : W → Option (List ℕ)) (piece rest : List ℕ)
    (old now : Answering) (before after : Device W) : Type 0 where
  pub front : List ℕ
  pub split : piece ≡ front ++ rest
  pub written : List ℕ
  pub appends : Appends (contents (inner_of before)) (contents (inner_of after)) written
  pub failures : failures_of after ≡ failures_of before
  pub taken : (bytes out : List ℕ) → IsTaken T bytes out old → IsTaken T (bytes ++ front) (out ++ written) now
  pub room : now.counts.lines + length rest ≤ old.counts.lines + length piece
  pub feeds : now.feeds + length rest ≤ old.feeds + length piece
  pub refused : now.counts.refused ≤ now.counts.lines

-- a further turn, by what happens in it; `now` and `between` are the state and the output before it
module _ {W : Type 0} (T : Terms) (contents : W → Option (List ℕ)) (piece rest : List ℕ) (old now : Answering) (before between : Device W)
    (t : PieceTurn T contents piece rest old now before between) where
  -- if the next line of the piece and its line feed (10) were taken, `after`, what follows them, is left; `mid` is the
  -- state then
  pub turn_line : (line after : List ℕ) (mid : Answering) → IsOneLine line × (rest ≡ line ++ 10 ∷ after)
      → (IsLongBy T.form (length now.kept.items) (length line) → ⊥)
      → ((bytes out : List ℕ) → IsOneLine (take (length line) rest)
      → (IsLongBy T.form (length now.kept.items) (length (take (length line) rest)) → ⊥) → IsTaken T bytes out now
      → IsTaken T (bytes ++ (take (length line) rest ++ 10 ∷ [])) out mid)
      → CountsFeed now mid → PieceTurn T contents piece after old mid before between
  turn_line line after mid split short answered counted =
      let whole : take (length line) rest ≡ line = ap (take (length line)) split.1 ∙ take-append_seam line (10 ∷ after) in
      let long = ap length split.1 ∙ length-append line (10 ∷ after) in
      record {
        front = t.front ++ (line ++ 10 ∷ []);
        split = t.split ∙ ap (λ (l : List ℕ). t.front ++ l) (split.1 ∙ sym (append_assoc line (10 ∷ []) after))
            ∙ sym (append_assoc t.front (line ++ 10 ∷ []) after);
        written = t.written;
        appends = t.appends;
        failures = t.failures;
        taken = λ bytes out old_taken. subst (λ (l : List ℕ). IsTaken T l (out ++ t.written) mid)
            (append_assoc bytes t.front (line ++ 10 ∷ []))
            (subst (λ (l : List ℕ). IsTaken T ((bytes ++ t.front) ++ (l ++ 10 ∷ [])) (out ++ t.written) mid) whole
            (answered (bytes ++ t.front) (out ++ t.written) (subst IsOneLine (sym whole) split.0)
            (subst (λ (l : List ℕ). IsLongBy T.form (length now.kept.items) (length l) → ⊥) (sym whole) short)
            (t.taken bytes out old_taken)));
        room = omega (arith, t.room, counted.lines, long);
        feeds = omega (arith, t.feeds, counted.feeds, long);
        refused = counted.refused;
      }

  -- if some of the waiting answers were written, the same rest is left
  pub turn_written : (new : Answering) (last : Device W) → WritesOwed contents now new between last (Ok tt)
      → PieceTurn T contents piece rest old new before last
  turn_written new last w = record {
    front = t.front;
    split = t.split;
    written = t.written ++ w.written;
    appends = Appends-trans _ _ _ _ _ t.appends w.appends;
    failures = w.done.1 ∙ t.failures;
    taken = λ bytes out old_taken. subst (λ (l : List ℕ). IsTaken T (bytes ++ t.front) l new) (append_assoc out t.written w.written)
        (taken_write T (bytes ++ t.front) (out ++ t.written) w.written now new (t.taken bytes out old_taken) w.same w.done.0);
    room = rw w.same.counts t.room;
    feeds = rw w.same.feeds t.feeds;
    refused = rw w.same.counts t.refused;
  }

  -- if memory ran out, or a write failed that wrote a front of the waiting answers, `part`, the piece ends by this
  -- fault
  pub turn_stops : (new : Answering) (last : Device W) (f : ToolFault) (part : List ℕ)
      → Appends (contents (inner_of between)) (contents (inner_of last)) part → IsStop before last f
      → IsFrontOf part now.owed.items → TakesPiece T contents piece old new before last (Err f)
  turn_stops new last f part appends stop front = record {
    written = t.written ++ part;
    appends = Appends-trans _ _ _ _ _ t.appends appends;
    done = tt;
    room = tt;
    stopped = inr (
      stop,
      λ bytes out taken. begun_front T _ _ part rest _ _ now (t.taken bytes out taken) front
          (rw (t.split, append_assoc bytes t.front rest) refl) (sym (append_assoc out t.written part)),
    );
  }

  -- if a write of waiting answers failed, the piece ends by this fault
  pub turn_fails : (new : Answering) (last : Device W) (f : ToolFault)
      → WritesOwed contents now new between last (Err f) → TakesPiece T contents piece old new before last (Err f)
  turn_fails new last f w = turn_stops new last f w.written w.appends
      (inl (w.stopped.0, failed_from before between last t.failures w.stopped.1)) w.stopped.2

  -- if a row or a record is too long with its next bytes, `part`, the piece ends by the fault of that; `more` is what
  -- follows these bytes
  pub turn_long : (new : Answering) (last : Device W) (f : ToolFault) (part more : List ℕ) → IsOneLine part
      → rest ≡ part ++ more → IsLongBy T.form (length now.kept.items) (length part)
      → StopsLong T.form contents now new between last f → TakesPiece T contents piece old new before last (Err f)
  turn_long new last f part more one split long s = elim s.ends [
    | inl wrote ↦ turn_stops new last f s.written s.appends (inl (wrote.0, failed_from before between last t.failures wrote.1)) wrote.2
    | inr owed ↦ record {
      written = t.written ++ s.written;
      appends = Appends-trans _ _ _ _ _ t.appends s.appends;
      done = tt;
      room = tt;
      stopped = inl (record {
        line = line_of now;
        fault = owed.0;
        same = owed.1 ∙ t.failures;
        ends = λ bytes out taken. rw (
          t.split,
          split,
          owed.2,
          s.tallies,
          ← append_assoc bytes t.front (part ++ more),
          ← append_assoc out t.written now.owed.items,
        )
            (too_long T (bytes ++ t.front) (out ++ t.written) part more now (t.taken bytes out taken) one long);
      });
    }
  ]

  -- if the rest of the piece, which has no line feed, is kept, nothing is left
  pub turn_kept : (mid : Answering) → IsOneLine rest → (IsLongBy T.form (length now.kept.items) (length rest) → ⊥)
      → mid.kept.items ≡ now.kept.items ++ part_kept T.form (length now.kept.items) rest
      → mid.place ≡ place_then T.form now.place rest → mid.feeds ≡ now.feeds → mid.owed.items ≡ now.owed.items
      → mid.counts ≡ now.counts → mid.tallies ≡ now.tallies → mid.recent ≡ now.recent
      → PieceTurn T contents piece [] old mid before between
  turn_kept mid one short kept inside feeds owed counts tallies recent = record {
    front = piece;
    split = sym (append-nil piece);
    written = t.written;
    appends = t.appends;
    failures = t.failures;
    taken = λ bytes out old_taken. rw (t.split, ← append_assoc bytes t.front rest)
        (taken_part T (bytes ++ t.front) (out ++ t.written) rest now mid (t.taken bytes out old_taken) one short kept
        inside feeds owed counts tallies recent);
    room = rw counts (omega (arith, t.room));
    feeds = omega (arith, t.feeds, feeds);
    refused = rw counts t.refused;
  }

-- if all waiting answers are written after the last turn, the piece is taken; if the write fails, the piece ends by
-- this fault
pub turn_last : {W : Type 0} (T : Terms) (contents : W → Option (List ℕ)) (piece : List ℕ) (old mid new : Answering)
    (before between last : Device W) (r : Result (Unit {0}) ToolFault)
    → PieceTurn T contents piece [] old mid before between → WritesOwed contents mid new between last r
    → OnOk r (new.owed.items ≡ []) → TakesPiece T contents piece old new before last r
turn_last T contents piece old mid new before between last (Ok u) t w none =
    let n = turn_written T contents piece [] old mid before between t new last w in
    record {
      written = n.written;
      appends = n.appends;
      room = λ count has. record {
        room = omega (arith, has.room, n.room);
        feeds = omega (arith, has.feeds, n.feeds);
        refused = n.refused;
      };
      done = (
        n.failures,
        none,
        λ bytes out old_taken. subst (λ (l : List ℕ). IsTaken T (bytes ++ l) (out ++ n.written)
            new) (sym (append-nil n.front) ∙ sym n.split) (n.taken bytes out old_taken),
      );
      stopped = tt;
    }
turn_last T contents piece old mid new before between last (Err f) t w none = turn_fails T contents piece [] old mid
    before between t new last f w
