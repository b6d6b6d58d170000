-- Lemmas for `Answering::finish` and `stop_long`: what was answered, written and tallied of the bytes that were read
-- once they end, also within quotes, or where a row or a record is too long.
use Rattle.std.proofs.Common.{Result, Ok, Err, OnOk, ◌≡◌, ◌≤◌, ◌<◌, ◌+◌, ◌++◌, ◌∷◌, ◌∙◌, ℕ, List, [], true, false}
use Rattle.std.proofs.Common.{length, sym, ap, refl, arith, append_assoc, append-nil, inl, inr, length-append, ◌==◌}
use Rattle.std.proofs.Common.{◌-◌}
use Rattle.std.proofs.lemmas.List.Sums.{count_by-le-length}
use Rattle.lt_jar.specs.Lines.{IsOneLine}
use Rattle.lt_lines.specs.Answering.{kept_of, place_then, IsAnswered, IsLongBy, IsTaken, IsWholeAfter, KeepsLine, line_of}
use Rattle.lt_lines.specs.Owed.{AreLinesIn, Reply, Terms, ended, feeds_in, is_open, place_of, units_of, EndsInQuotes}
use Rattle.lt_lines.specs.Owed.{EndsTooLong, IsBegun, IsOwedToLastFeed}
use Rattle.lt_rows.specs.Quotes.{is_quoted}
use Rattle.lt_lines.specs.Tallied.{AreTalliesOf, OwesAll, TalliesTooLong}
use Rattle.lt_rows.specs.declared.quotes.Place.{Place}
use Rattle.lt_lines.specs.declared.forms.LineForm.{LineForm}
use Rattle.lt_stream.specs.DeviceOutput.{IsFrontOf}
use Rattle.lt_lines.specs.declared.answering.Answering.{Answering}
use Rattle.lt_lines.specs.declared.forms.LineForm.TheVariants as forms
use Rattle.lt_lines.proofs.FormLemmas.{ended-length, ended_first, feeds_in-append, of_none, place_of_ended, unit-append}
use Rattle.lt_lines.proofs.FormLemmas.{units-ended, units-last}
use Rattle.lt_lines.proofs.PartLemmas.{all_of_grammar, all_short, kept_long, kept_open, long_by, nothing_kept, short_kept}
use Rattle.lt_lines.proofs.TakenLemmas.{replies-length}

-- the place at the end of the bytes is the place at the end of their unfinished line
taken_open : (T : Terms) (bytes out : List ℕ) (state : Answering) → (t : IsTaken T bytes out state)
    → place_of T.form bytes ≡ place_of T.form t.last
taken_open T bytes out state t = ap (place_of T.form) t.cut ∙ place_of_ended T.form t.lines t.last t.each_one

-- where nothing is kept, the lines of the bytes are those that were taken
units_taken : (T : Terms) (bytes out : List ℕ) (state : Answering) (t : IsTaken T bytes out state)
    → state.kept.items ≡ [] → units_of T.form bytes ≡ t.lines
units_taken T bytes out state t none =
    rw (
      t.cut,
      ended_first T.form t.lines t.last t.each_one,
      nothing_kept T.form state.kept.items t.last t.kept none,
      (of_none T.form).units,
      append-nil t.lines,
    ) refl

-- where nothing is kept, the bytes are the lines that were taken, each with its line feed
lines_taken : (T : Terms) (bytes out : List ℕ) (state : Answering) (t : IsTaken T bytes out state)
    → state.kept.items ≡ [] → bytes ≡ ended t.lines
lines_taken T bytes out state t none =
    t.cut ∙ ap (λ (l : List ℕ). ended t.lines ++ l) (nothing_kept T.form state.kept.items t.last t.kept none) ∙ append-nil (ended t.lines)

-- what was taken of `others` answers `bytes` as well, if these have the same lines and end outside of quotes
answered_by : (T : Terms) (bytes others out : List ℕ) (state : Answering) (t : IsTaken T others out state)
    → is_open T.form bytes ≡ false → AreLinesIn bytes t.lines → units_of T.form bytes ≡ t.lines
    → IsAnswered T bytes out state
answered_by T bytes others out state t closed are all = record {
  closed = closed;
  lines_are = rw all are;
  grammar = rw all (all_of_grammar T.form t.lines t.each_one);
  short = rw all (all_short T.form t.lines t.each_one);
  owed = t.owed;
  each = rw all t.each;
  all = t.all;
  count = t.count;
  refused = t.refused;
  tallied = rw all t.tallied;
}

-- where nothing is kept, each line of the bytes is ended, and all are answered
pub answered_none : (T : Terms) (bytes out : List ℕ) (state : Answering) → IsTaken T bytes out state
    → state.kept.items ≡ [] → IsAnswered T bytes out state
answered_none T bytes out state t none =
    let last = nothing_kept T.form state.kept.items t.last t.kept none in
    answered_by T bytes bytes out state t (ap is_quoted (taken_open T bytes out state t ∙ ap (place_of T.form) last
    ∙ (of_none T.form).closed)) (inl (lines_taken T bytes out state t none)) (units_taken T bytes out state t none)

-- where a last line is kept and ends outside of quotes, a line feed (10) after the bytes leaves their lines the same
last_ended : (T : Terms) (bytes out : List ℕ) (state : Answering) → IsTaken T bytes out state
    → (state.kept.items ≡ [] → ⊥) → is_quoted state.place ≡ false
    → units_of T.form (bytes ++ 10 ∷ []) ≡ units_of T.form bytes
last_ended T bytes out state t some closed =
    let long : 0 < length t.last = last_length t.last t.kept in
    rw (
      t.cut,
      append_assoc (ended t.lines) t.last (10 ∷ []),
      ended_first T.form t.lines (t.last ++ 10 ∷ []) t.each_one,
      ended_first T.form t.lines t.last t.each_one,
    )
    (rw (
      units-ended T.form t.last []
          (record { unit = t.last_one; closed = ap is_quoted (sym t.goes_on) ∙ closed; short = t.short closed }),
      (of_none T.form).units,
      units-last T.form t.last t.last_one long,
    ) refl)
  where
    last_length : (last : List ℕ) → state.kept.items ≡ kept_of T.form last → 0 < length last
    last_length [] is = absurd (some (is ∙ (of_none T.form).kept))
    last_length (byte ∷ last) is = omega arith

-- a place outside of quotes stays so after no bytes
nothing_after : (form : LineForm) (place : Place) → is_quoted place ≡ false → is_quoted (place_then form place []) ≡ false
nothing_after (forms.Csv row delimiter) place closed = closed
nothing_after form place closed = refl

-- if answering the kept last line, as if a line feed followed it, leaves nothing kept, then all lines of the bytes are
-- answered; `r` is the result of answering it
pub last_answered : {E : Type 0} (T : Terms) (old new : Answering) (r : Result (Unit {0}) E) → (old.kept.items ≡ [] → ⊥)
    → is_quoted old.place ≡ false
    → OnOk r ((bytes out : List ℕ) → IsWholeAfter T.form old.kept.items old.place [] → IsTaken T bytes out old
    → IsTaken T (bytes ++ ([] ++ 10 ∷ [])) out new) → OnOk r (new.kept.items ≡ [])
    → OnOk r ((bytes out : List ℕ) → IsTaken T bytes out old → IsAnswered T bytes out new)
last_answered T old new (Ok _) some closed taken none =
    λ bytes out t. let after = taken bytes out
    (record {
      one = λ k d lt. absurd (omega (arith, lt));
      closed = nothing_after T.form old.place closed;
      short = short_kept T.form old.kept.items t.last t.kept (t.short closed);
    }) t in
    answered_by T bytes (bytes ++ 10 ∷ []) out new after (ap is_quoted (taken_open T bytes out old t ∙ sym t.goes_on)
    ∙ closed) (inr (lines_taken T (bytes ++ 10 ∷ []) out new after none))
    (sym (last_ended T bytes out old t some closed) ∙ units_taken T (bytes ++ 10 ∷ []) out new after none)
last_answered T old new (Err _) some closed taken none = tt

-- if all lines of the bytes are answered, then once the waiting answers, `part`, are written, all that is owed for the
-- bytes was written, counted and tallied
pub owed_all : (T : Terms) (bytes out part : List ℕ) (state new : Answering) → IsAnswered T bytes out state → KeepsLine state new
    → state.owed.items ≡ part ++ new.owed.items → new.owed.items ≡ [] → OwesAll T bytes (out ++ part) new.counts new.tallies
owed_all T bytes out part state new a same wrote none = record {
  all = record {
    closed = a.closed;
    lines_are = a.lines_are;
    grammar = a.grammar;
    short = a.short;
    owed = a.owed;
    each = a.each;
    all = ap (λ (l : List ℕ). out ++ l) (sym (append-nil part) ∙ ap (λ (l : List ℕ). part ++ l) (sym none) ∙ sym wrote) ∙ a.all;
    lines = rw same.counts a.count;
    refused = rw same.counts a.refused;
  };
  tallied = rw same.tallies a.tallied;
}

-- what was written, `out`, and a front of the waiting answers, `part`, are a front of what is owed
pub begun_answered : (T : Terms) (bytes out part : List ℕ) (state : Answering) → IsAnswered T bytes out state
    → IsFrontOf part state.owed.items → IsBegun T bytes (out ++ part)
begun_answered T bytes out part state a front = record {
  lines = units_of T.form bytes;
  others = [];
  cut = sym (append-nil (units_of T.form bytes));
  owed = a.owed;
  each = a.each;
  rest = front.0;
  front = sym a.all ∙ ap (λ (l : List ℕ). out ++ l) front.1 ∙ sym (append_assoc out part front.0);
}

-- no more lines or line feeds are counted than there are bytes, and no more refused lines than lines
pub taken_room : (T : Terms) (bytes out : List ℕ) (state : Answering) → IsTaken T bytes out state
    → (state.counts.lines ≤ length bytes) × (state.counts.refused ≤ state.counts.lines) × (state.feeds ≤ length bytes)
taken_room T bytes out state t =
    let all = replies-length T true t.lines t.owed t.each in
    let most = ended-length t.lines in
    let fewer = count_by-le-length (λ (r : Reply). r.refused) t.owed in (
      omega (arith, t.count, all, most, ap length t.cut, length-append (ended t.lines) t.last),
      omega (arith, t.count, t.refused, fewer),
      omega (arith, t.feeds, count_by-le-length (λ (byte : ℕ). byte == 10) bytes),
    )

-- where no answers wait, what was written is what is owed up to the last line feed that ends a line
abbrev pub owed_to_last_feed : (T : Terms) (read written : List ℕ) (state : Answering) → IsTaken T read written state
    → state.owed.items ≡ [] → IsOwedToLastFeed T read written
owed_to_last_feed T read written state t none = record {
  lines = t.lines;
  last = t.last;
  cut = t.cut;
  each_one = t.each_one;
  last_one = t.last_one;
  owed = t.owed;
  each = t.each;
  all = sym (append-nil written) ∙ ap (λ (l : List ℕ). written ++ l) (sym none) ∙ t.all;
}

-- where the bytes end within quotes, what is owed before the unfinished record was written and tallied, and the record
-- begins in the line after the line feeds that are not kept, whose number is `line`
pub ends_in_quotes : (T : Terms) (bytes out : List ℕ) (state : Answering) (line : ℕ) → IsTaken T bytes out state
    → state.owed.items ≡ [] → is_quoted state.place ≡ true
    → line ≡ (state.feeds - feeds_in state.kept.items) + 1 → (e : EndsInQuotes T bytes out line)
    × AreTalliesOf T.form e.owed.lines e.owed.owed state.tallies
ends_in_quotes T bytes out state line t none inside begins =
    let last : state.kept.items ≡ t.last = kept_open T.form state.kept.items t.last t.kept (ap is_quoted (sym t.goes_on) ∙ inside) in
    let all : feeds_in bytes ≡ feeds_in (ended t.lines) + feeds_in t.last = ap feeds_in t.cut ∙ feeds_in-append (ended t.lines) t.last in (
      record {
        owed = owed_to_last_feed T bytes out state t none;
        inside = ap is_quoted (sym t.goes_on) ∙ inside;
        begins = omega (arith, begins, t.feeds, all, ap feeds_in last);
      },
      t.tallied,
    )

-- what is owed up to the last line feed is a front of what is owed
pub begun_to_last_feed : (T : Terms) (bytes written : List ℕ) → IsOwedToLastFeed T bytes written → IsBegun T bytes written
begun_to_last_feed T bytes written o = record {
  lines = o.lines;
  others = units_of T.form o.last;
  cut = ap (units_of T.form) o.cut ∙ ended_first T.form o.lines o.last o.each_one;
  owed = o.owed;
  each = o.each;
  rest = [];
  front = sym o.all ∙ sym (append-nil written);
}

-- a row or a record is too long with its next bytes, `part`: what was written, `out`, and the answers that wait are
-- those to the lines before it; `more` is what follows `part`
abbrev pub ends_too_long : (T : Terms) (bytes out part more : List ℕ) (state : Answering) → IsTaken T bytes out state
    → IsOneLine part → IsLongBy T.form (length state.kept.items) (length part)
    → EndsTooLong T (bytes ++ (part ++ more)) (out ++ state.owed.items) (line_of state)
ends_too_long T bytes out part more state t one long =
    let last : state.kept.items ≡ t.last = kept_long T.form state.kept.items t.last (length part) t.kept long in
    let all : feeds_in bytes ≡ feeds_in (ended t.lines) + feeds_in t.last = ap feeds_in t.cut ∙ feeds_in-append (ended t.lines) t.last in
    record {
      lines = t.lines;
      begun = t.last ++ part;
      rest = more;
      cut = ap (λ (l : List ℕ). l ++ (part ++ more)) t.cut ∙ append_assoc (ended t.lines) t.last (part ++ more)
          ∙ ap (λ (l : List ℕ). ended t.lines ++ l) (sym (append_assoc t.last part more));
      each_one = t.each_one;
      last_one = unit-append T.form t.last part t.last_one one;
      long = long_by T.form state.kept.items t.last part t.kept long;
      owed = t.owed;
      each = t.each;
      all = t.all;
      begins = omega (arith, t.feeds, all, ap feeds_in last);
    }

-- the answers to the lines before a row or a record that is too long are a front of what is owed
pub begun_too_long : (T : Terms) (bytes written : List ℕ) (line : ℕ) → EndsTooLong T bytes written line → IsBegun T bytes written
begun_too_long T bytes written line e = record {
  lines = e.lines;
  others = units_of T.form (e.begun ++ e.rest);
  cut = ap (units_of T.form) e.cut ∙ ended_first T.form e.lines (e.begun ++ e.rest) e.each_one;
  owed = e.owed;
  each = e.each;
  rest = [];
  front = sym e.all ∙ sym (append-nil written);
}

-- where a row or a record is too long with its next bytes, `part`, the tallies count the refused lines before it
pub too_long : (T : Terms) (bytes out part more : List ℕ) (state : Answering) → IsTaken T bytes out state
    → IsOneLine part → IsLongBy T.form (length state.kept.items) (length part)
    → TalliesTooLong T (line_of state) state.tallies (bytes ++ (part ++ more)) (out ++ state.owed.items)
too_long T bytes out part more state t one long = (ends_too_long T bytes out part more state t one long, t.tallied)
