-- Lemmas for the steps of `Answering`. If the state was right for the bytes read and written so far (`IsTaken`), it is
-- right after each step: a line is answered, the unfinished line goes on, or answers are written.
use Rattle.std.proofs.Math.Bool.{and-true, and-false}
use Rattle.std.proofs.Common.{◌&&◌, ◌≡◌, ◌<◌, ◌+◌, ◌++◌, ◌∷◌, ◌∙◌, ℕ, List, [], Bool, true, false, length, sym, ap}
use Rattle.std.proofs.Common.{refl, subst, arith, append_assoc, append-nil, length-append, suc, cond, ◌==◌, ne_eqb}
use Rattle.std.proofs.lemmas.List.Sums.{sum_by-append}
use Rattle.lt_jar.specs.Lines.{IsOneLine}
use Rattle.lt_lines.specs.Answering.{kept_of, one_if, place_then, AreRecent, GoesOn, IsLongBy, IsTaken, IsWholeAfter, KeepsLine, part_kept}
use Rattle.lt_lines.specs.Owed.{AreRepliesFrom, IsReplyTo, IsUnit, IsWhole, Reply, Terms, bytes_in, ended, feeds_in}
use Rattle.lt_lines.specs.Owed.{is_open, place_of, refused_in, units_of, IsBegun, IsShort}
use Rattle.lt_rows.specs.Quotes.{is_quoted}
use Rattle.lt_lines.specs.Tallied.{CountsIf}
use Rattle.lt_lines.proofs.TalliedLemmas.{tallied_more}
use Rattle.lt_rows.specs.declared.quotes.Place.TheVariants as places
use Rattle.lt_rows.proofs.RowLemmas.{each-last}
use Rattle.lt_stream.specs.DeviceOutput.{IsFrontOf}
use Rattle.lt_lines.specs.declared.answering.Answering.{Answering}
use Rattle.lt_lines.proofs.FormLemmas.{ended-append, ended_first, feed_within, feeds_in-append, no_feeds, of_none}
use Rattle.lt_lines.proofs.FormLemmas.{one_feed, place_of-append, unit-append}
use Rattle.lt_lines.proofs.PartLemmas.{kept_more, short_by, short_line}

-- ---- answers

-- the answers to some lines, and then the answer `r` to one line after them, are the answers to all these lines; that
-- line is the first of the text if it has none before it
replies-append : (T : Terms) (first : Bool) (lines : List (List ℕ)) (owed : List Reply) (line : List ℕ) (r : Reply)
    → AreRepliesFrom T first lines owed → IsReplyTo T ((length owed == 0) && first) line r
    → AreRepliesFrom T first (lines ++ line ∷ []) (owed ++ r ∷ [])
replies-append T first [] [] line r h one = (one, tt)
replies-append T first (l ∷ lines) (o ∷ owed) line r h one =
    let later = rw (ne_eqb (suc (length owed)) 0 (λ e. omega (arith, e))) at one in
    (h.0, replies-append T false lines owed line r h.1 (rw (and-false (length owed == 0)) later))
replies-append T first lines owed line r h one = absurd h

-- there are as many answers as lines
pub replies-length : (T : Terms) (first : Bool) (lines : List (List ℕ)) (owed : List Reply)
    → AreRepliesFrom T first lines owed → length owed ≡ length lines
replies-length T first [] [] h = refl
replies-length T first (l ∷ lines) (o ∷ owed) h = ap (λ n. suc n) (replies-length T false lines owed h.1)
replies-length T first lines owed h = absurd h

-- the bytes of some answers and one more are the bytes of the answers, and then those of that one
pub bytes_in-last : (owed : List Reply) (r : Reply) → bytes_in (owed ++ r ∷ []) ≡ bytes_in owed ++ r.bytes
bytes_in-last [] r = append-nil r.bytes
bytes_in-last (o ∷ owed) r = ap (λ l. o.bytes ++ l) (bytes_in-last owed r) ∙ sym (append_assoc o.bytes (bytes_in owed) r.bytes)

-- among some answers and one more there are as many refusals as among the answers, and one more if that one refuses
pub refused_in-last : (owed : List Reply) (r : Reply) → refused_in (owed ++ r ∷ []) ≡ refused_in owed + one_if r.refused
refused_in-last owed r =
    sum_by-append (λ (o : Reply). cond o.refused 1 0) owed (r ∷ [])
    ∙ ap (λ n. refused_in owed + n) (elim r.refused as (λ t. 0 + cond t 1 0 ≡ one_if t)
    [ true ↦ refl | false ↦ refl ])

-- ---- what was taken

-- if `part` and a line feed (10) ended the unfinished line, and it was answered by `r` and counted, the state is right
-- with these bytes
pub taken_line : (T : Terms) (bytes out part : List ℕ) (r : Reply) (old new : Answering) → IsTaken T bytes out old
    → IsWholeAfter T.form old.kept.items old.place part
    → ((last : List ℕ) → old.kept.items ≡ kept_of T.form last → IsReplyTo T (old.counts.lines == 0) (last ++ part) r)
    → new.owed.items ≡ old.owed.items ++ r.bytes → new.kept.items ≡ [] → new.place ≡ places.Fresh
    → new.feeds ≡ old.feeds + 1 → new.counts.lines ≡ old.counts.lines + 1
    → new.counts.refused ≡ old.counts.refused + one_if r.refused → old.counts.lines + 1 < 18446744073709551616
    → ((last : List ℕ) → old.kept.items ≡ kept_of T.form last
    → CountsIf T.form (old.counts.lines + 1) (last ++ part) r.bytes r.refused old.tallies new.tallies)
    → AreRecent T.ground.entries T.form new.recent → IsTaken T (bytes ++ (part ++ 10 ∷ [])) out new
taken_line T bytes out part r old new t one owed_for grown none closed feeds lines refusals room tally recent =
    let whole = t.last ++ part in
    record {
      lines = t.lines ++ whole ∷ [];
      last = [];
      cut = rw (t.cut, ended-append t.lines whole) (simp (append_assoc, append-nil));
      each_one = each-last (IsWhole T.form) t.lines whole t.each_one (record {
        unit = unit-append T.form t.last part t.last_one one.one;
        closed = ap is_quoted (place_of-append T.form t.last part ∙ ap (λ p. place_then T.form p part) (sym t.goes_on)) ∙ one.closed;
        short = short_line T.form old.kept.items t.last part t.kept one.short;
      });
      last_one = (of_none T.form).unit;
      kept = none ∙ sym (of_none T.form).kept;
      goes_on = closed ∙ sym (of_none T.form).closed;
      short = λ _. (of_none T.form).short;
      feeds = feeds ∙ ap (λ n. n + 1) t.feeds ∙ sym (one_feed bytes part one.one);
      owed = t.owed ++ r ∷ [];
      each = replies-append T true t.lines t.owed whole r t.each (rw (and-true (length t.owed == 0), ← t.count) (owed_for t.last t.kept));
      all = ap (λ (l : List ℕ). out ++ l) grown ∙ sym (append_assoc out old.owed.items r.bytes)
          ∙ ap (λ (l : List ℕ). l ++ r.bytes) t.all ∙ sym (bytes_in-last t.owed r);
      count = omega (arith, lines, t.count, length-append t.owed (r ∷ []));
      refused = refusals ∙ ap (λ (n : ℕ). n + one_if r.refused) t.refused ∙ sym (refused_in-last t.owed r);
      tallied = tallied_more T t.lines t.owed whole r old.tallies new.tallies t.each (omega (arith, room, t.count)) t.tallied
          (subst (λ (n : ℕ). CountsIf T.form (n + 1) whole r.bytes r.refused old.tallies new.tallies) t.count (tally t.last t.kept));
      recent = recent;
    }

-- if the unfinished line went on with the bytes `more`, and no line was answered, the state is right with these bytes
taken_more : (T : Terms) (bytes out more : List ℕ) (old new : Answering) (t : IsTaken T bytes out old)
    → IsUnit T.form (t.last ++ more) → new.kept.items ≡ kept_of T.form (t.last ++ more)
    → new.place ≡ place_of T.form (t.last ++ more) → (is_quoted new.place ≡ false → IsShort T.form (t.last ++ more))
    → new.feeds ≡ old.feeds + feeds_in more → new.owed.items ≡ old.owed.items → new.counts ≡ old.counts
    → new.tallies ≡ old.tallies → new.recent ≡ old.recent → IsTaken T (bytes ++ more) out new
taken_more T bytes out more old new t one kept inside short feeds owed counts tallies recent = record {
  lines = t.lines;
  last = t.last ++ more;
  cut = ap (λ (l : List ℕ). l ++ more) t.cut ∙ append_assoc (ended t.lines) t.last more;
  each_one = t.each_one;
  last_one = one;
  kept = kept;
  goes_on = inside;
  short = short;
  feeds = omega (arith, feeds, t.feeds, feeds_in-append bytes more);
  owed = t.owed;
  each = t.each;
  all = rw owed t.all;
  count = rw counts t.count;
  refused = rw counts t.refused;
  tallied = rw tallies t.tallied;
  recent = rw recent t.recent;
}

-- if the unfinished line went on with `part` and a line feed (10) within quotes, the state is right with these bytes
pub taken_within : (T : Terms) (bytes out part : List ℕ) (old new : Answering) → IsTaken T bytes out old
    → IsOneLine part → is_quoted (place_then T.form old.place part) ≡ true
    → GoesOn T.form part old new → IsTaken T (bytes ++ (part ++ 10 ∷ [])) out new
taken_within T bytes out part old new t one inside g =
    let whole = t.last ++ part in
    let after : is_open T.form whole ≡ true = ap is_quoted (place_of-append T.form t.last part
    ∙ ap (λ p. place_then T.form p part) (sym t.goes_on)) ∙ inside in
    let fed = feed_within T.form whole (unit-append T.form t.last part t.last_one one) after in
    let split = append_assoc t.last part (10 ∷ []) in
    let front = old.kept.items ++ part_kept T.form (length old.kept.items) part in
    taken_more T bytes out (part ++ 10 ∷ []) old new t (subst (IsUnit T.form) split fed.0)
    (kept_more T.form front whole (10 ∷ []) new.kept.items (kept_more T.form old.kept.items t.last part front t.kept
    refl) g.kept ∙ ap (kept_of T.form) split)
    (g.goes_on ∙ sym fed.1 ∙ ap (place_of T.form) split)
    (λ closed. let bad : true ≡ false = ap is_quoted (sym g.goes_on) ∙ closed in cc)
    (g.feeds ∙ ap (λ n. old.feeds + n) (sym (one_feed [] part one))) g.owed g.counts g.tallies g.recent

-- if the unfinished line went on with `part`, which has no line feed, and is not too long, the state is right with
-- these bytes
pub taken_part : (T : Terms) (bytes out part : List ℕ) (old new : Answering) → IsTaken T bytes out old → IsOneLine part
    → (IsLongBy T.form (length old.kept.items) (length part) → ⊥)
    → new.kept.items ≡ old.kept.items ++ part_kept T.form (length old.kept.items) part
    → new.place ≡ place_then T.form old.place part → new.feeds ≡ old.feeds
    → new.owed.items ≡ old.owed.items → new.counts ≡ old.counts → new.tallies ≡ old.tallies → new.recent ≡ old.recent
    → IsTaken T (bytes ++ part) out new
taken_part T bytes out part old new t one room kept inside feeds owed counts tallies recent =
    taken_more T bytes out part old new t (unit-append T.form t.last part t.last_one one)
    (kept_more T.form old.kept.items t.last part new.kept.items t.kept kept)
    (inside ∙ ap (λ p. place_then T.form p part) t.goes_on ∙ sym (place_of-append T.form t.last part))
    (λ _. short_line T.form old.kept.items t.last part t.kept (short_by T.form old.kept.items part room))
    (omega (arith, feeds, no_feeds part one)) owed counts tallies recent

-- if a front of the waiting answers, `part`, was written, the state is right for the same bytes
pub taken_write : (T : Terms) (bytes out part : List ℕ) (old new : Answering) → IsTaken T bytes out old → KeepsLine old new
    → old.owed.items ≡ part ++ new.owed.items → IsTaken T bytes (out ++ part) new
taken_write T bytes out part old new t same wrote = record {
  lines = t.lines;
  last = t.last;
  cut = t.cut;
  each_one = t.each_one;
  last_one = t.last_one;
  kept = same.kept ∙ t.kept;
  goes_on = same.goes_on ∙ t.goes_on;
  short = λ closed. t.short (ap is_quoted (sym same.goes_on) ∙ closed);
  feeds = same.feeds ∙ t.feeds;
  owed = t.owed;
  each = t.each;
  all = append_assoc out part new.owed.items ∙ ap (λ (l : List ℕ). out ++ l) (sym wrote) ∙ t.all;
  count = rw same.counts t.count;
  refused = rw same.counts t.refused;
  tallied = rw same.tallies t.tallied;
  recent = rw same.recent t.recent;
}

-- if what was written, `wrote`, ends with a front of the waiting answers, `part`, it is a front of what is owed for all
-- bytes, `all`, whatever bytes, `more`, follow those that were taken
pub begun_front : (T : Terms) (bytes out part more all wrote : List ℕ) (state : Answering) → IsTaken T bytes out state
    → IsFrontOf part state.owed.items
    → all ≡ bytes ++ more → wrote ≡ out ++ part → IsBegun T all wrote
begun_front T bytes out part more all wrote state t front all_is wrote_is = record {
  lines = t.lines;
  others = units_of T.form (t.last ++ more);
  cut = rw (all_is, t.cut, append_assoc (ended t.lines) t.last more) (ended_first T.form t.lines (t.last ++ more) t.each_one);
  owed = t.owed;
  each = t.each;
  rest = front.0;
  front = sym t.all ∙ ap (λ (l : List ℕ). out ++ l) front.1 ∙ sym (append_assoc out part front.0)
      ∙ ap (λ (l : List ℕ). l ++ front.0) (sym wrote_is);
}

-- what was written, `out`, is a front of what is owed for all bytes, `all`, whatever bytes, `more`, follow those that
-- were taken
pub begun_nothing : (T : Terms) (bytes out more all : List ℕ) (state : Answering) → IsTaken T bytes out state
    → all ≡ bytes ++ more → IsBegun T all out
begun_nothing T bytes out more all state t all_is = begun_front T bytes out [] more all out state t
    (state.owed.items, refl) all_is (sym (append-nil out))
