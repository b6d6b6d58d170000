-- The loop in one call of `read_record`, each turn of which reads once: what is known at each turn, and how the call
-- ends.
use Rattle.std.proofs.Common.{Bor, MatchResult, is_ok, ◌≡◌, ◌≤◌, ◌+◌, ◌-◌, ◌++◌, ◌∷◌, ◌∙◌, inl, inr, ℕ, Bool, true}
use Rattle.std.proofs.Common.{false, List, [], Option, Result, Ok, Err, length, take, drop, sym, ap, refl, subst, arith}
use Rattle.std.proofs.Common.{zero, suc, add-zero, append_assoc, append-nil, length-append, length-drop}
use Rattle.std.proofs.KnownBytes.{Consumes-nil, Consumes-trans}
use Rattle.std.proofs.Math.Seq.{drop-append_seam}
use Rattle.std.proofs.lemmas.List.{drop-drop, drop-take, length-take-le}
use Rattle.std.proofs.lemmas.Str.{is_utf8-from_IsUtf8}
use Rattle.std.specs.Io.KnownBytes.{IsAtEnd}
use Rattle.std.specs.Str.{IsUtf8, is_utf8}
use Rattle.lt_jar.specs.Devices.{after_reads, failures_of, inner_of, one_more, reads_of}
use Rattle.lt_jar.specs.Lines.{IsOneLine, whole_lines}
use Rattle.lt_jar.specs.Limits.{most_records}
use Rattle.lt_jar.specs.Lending.{CutsRecord}
use Rattle.lt_jar.specs.Records.{Field}
use Rattle.lt_jar.specs.Reading.{going_on, rest_of, take_line}
use Rattle.lt_jar.specs.Pieces.{RefusesFirst, StopsAt, TakesRecord}
use Rattle.lt_jar.specs.Sources.{EndsAs, Fills, Finished, Finishes, IsRead, LastGave, LendsLast, ReadsRecord, Stops}
use Rattle.lt_jar.specs.Sources.{TakesUnread, kept_in, lent_by, line_of_kept, most_reads, record_in, unread_in}
use Rattle.lt_jar.specs.Views.{fault_in}
use Rattle.lt_jar.specs.declared.devices.Device.{Device}
use Rattle.lt_jar.specs.declared.faults.JarFaultKind.{JarFaultKind}
use Rattle.lt_jar.specs.declared.sources.JarSource.{JarSource}
use Rattle.lt_jar.specs.declared.sources.Status.TheVariants as state
use Rattle.lt_jar.proofs.TurnLemmas.{rest_some}
use Rattle.lt_jar.proofs.ReadingLemmas.{Refused, Runs, cut_short, fault_told, holds_here, lines_gather, reached_told}
use Rattle.lt_jar.proofs.ReadingLemmas.{runs_alone, runs_end, runs_out, runs_stops, runs_stops_last, runs_taken}
use Rattle.lt_jar.proofs.ReadingLemmas.{said_no_other}

-- The turns of a call of `read_record`. Since it began, with `old` and the device `before`, all reads gave bytes, and
-- no record ended. `rest` of the bytes is not yet handed on to the engine.
pub record SourceTurn {R : Type 0} (remaining : R → Option (List ℕ)) (old now : JarSource) (before after : Device R)
    (rest : List ℕ) : Type 0 where
  pub read : List ℕ
  pub reads : ℕ
  pub is_read : IsRead remaining old now before after read reads
  pub gave_bytes : reads ≤ length read
  pub last_gave : LastGave old before → LastGave now after
  pub failures : failures_of after ≡ failures_of before
  pub runs : Runs (lent_by old) (kept_in old ++ read) rest (line_of_kept old) now.engine
  pub status : now.status ≡ state.Open

-- at first no byte is read, and the bytes that were left from the call before are the rest
pub turn_begins : {R : Type 0} (remaining : R → Option (List ℕ)) (old now : JarSource) (device : Device R)
    → record_in now ≡ [] → kept_in now ≡ kept_in old → line_of_kept now ≡ line_of_kept old
    → lent_by now ≡ lent_by old → now.turns ≡ old.turns → old.turns ≤ most_reads → now.status ≡ state.Open
    → lent_by old ≤ most_records → SourceTurn remaining old now device device (unread_in now)
turn_begins remaining old now device none kept line lent turns bounded status few = record {
  read = [];
  reads = 0;
  is_read = record {
    consumes = Consumes-nil _;
    calls = refl;
    each = omega arith;
    turns = omega (arith, turns);
    bounded = omega (arith, turns, bounded);
  };
  gave_bytes = omega arith;
  last_gave = λ gave some. gave (omega (arith, some, turns));
  failures = refl;
  runs = record {
    lines = [];
    ran = record {
      few = few;
      each = tt;
      bytes = append-nil (kept_in old)
          ∙ sym kept;
      ran = ap going_on (sym none);
    };
    line = omega (arith, line);
    ended = lent;
  };
  status = status;
}

-- what was read holds of a source `new` too that counts as many reads as `now`
read_kept : {R : Type 0} {remaining : R → Option (List ℕ)} {old now new : JarSource} {before after : Device R} {read
    : List ℕ} {reads : ℕ} → new.turns ≡ now.turns
    → IsRead remaining old now before after read reads → IsRead remaining old new before after read reads
read_kept turns is = record {
  consumes = is.consumes;
  calls = is.calls;
  each = is.each;
  turns = turns
      ∙ is.turns;
  bounded = omega (arith, turns, is.bounded);
}

-- the engine takes all of the rest, without the end of a record in it, and nothing is left
pub turn_taken : {R : Type 0} {remaining : R → Option (List ℕ)} {old now : JarSource} (new : JarSource) {before after
    : Device R} {some : Bool} → SourceTurn remaining old now before after (unread_in now)
    → some ≡ false → TakesUnread now new (Ok some) → (new.turns ≡ now.turns) × (new.status ≡ now.status)
    → SourceTurn remaining old new before after []
turn_taken new turn none takes same = record {
  read = turn.read;
  reads = turn.reads;
  is_read = read_kept same.0 turn.is_read;
  gave_bytes = turn.gave_bytes;
  last_gave = λ gave some. turn.last_gave gave (omega (arith, some, same.0));
  failures = turn.failures;
  runs = runs_taken turn.runs (rw none at takes).0;
  status = same.1 ∙ turn.status;
}

-- a count after m reads, and then n reads more, is the count after m + n reads
after_more : (count m n : ℕ) → after_reads (after_reads count m) n ≡ after_reads count (m + n)
after_more count m zero = ap (after_reads count) (sym (add-zero m))
after_more count m (suc n) = let next : suc (m + n) ≡ m + suc n = omega arith in ap one_more (after_more count m n)
    ∙ ap (after_reads count) next

-- reads that gave the bytes `read`, and then others, which gave `more`, are together reads that gave both
pub more_read : {R : Type 0} (remaining : R → Option (List ℕ)) (old now new : JarSource)
    (before between after : Device R) (read more : List ℕ) (reads others : ℕ)
    → IsRead remaining old now before between read reads → IsRead remaining now new between after more others
    → IsRead remaining old new before after (read ++ more) (reads + others)
more_read remaining old now new before between after read more reads others first next = record {
  consumes = Consumes-trans _ _ _ _ _ first.consumes next.consumes;
  calls = next.calls ∙ ap (λ n. after_reads n others) first.calls ∙ after_more (reads_of before) reads others;
  each = omega (arith, first.each, next.each, length-append read more);
  turns = omega (arith, first.turns, next.turns);
  bounded = next.bounded;
}

-- one read more, where nothing was left: it gave bytes, which are the rest then
pub turn_filled : {R : Type 0} {remaining : R → Option (List ℕ)} {old now new : JarSource} {before between after
    : Device R} → SourceTurn remaining old now before between []
    → Fills remaining now new between after (Ok true) → new.engine ≡ now.engine → new.status ≡ now.status
    → SourceTurn remaining old new before after (unread_in new)
turn_filled {old = old} {now = now} {new = new} turn fills engine status =
    let gives = fills.fills in
    let runs = turn.runs in
    let partial = now.engine.partial.items in
    let bytes = sym (append_assoc (kept_in old) turn.read fills.read) ∙ ap (λ l. l ++ fills.read) runs.ran.bytes
    ∙ append_assoc (whole_lines runs.lines) (partial ++ []) fills.read
    ∙ ap (λ l. whole_lines runs.lines ++ l) (append_assoc partial [] fills.read ∙ ap (λ l. partial ++ l) (sym gives.0)) in
    record {
      read = turn.read ++ fills.read;
      reads = turn.reads + fills.reads;
      is_read = more_read _ _ _ _ _ _ _ turn.read fills.read turn.reads fills.reads turn.is_read fills.is_read;
      gave_bytes = omega (arith, length-append turn.read fills.read, turn.gave_bytes, gives.1, gives.2);
      last_gave = λ gave some. gives.4;
      failures = gives.3 ∙ turn.failures;
      runs = rw engine
          (record {
            lines = runs.lines;
            ran = record {
              few = runs.ran.few;
              each = runs.ran.each;
              bytes = bytes;
              ran = runs.ran.ran;
            };
            line = runs.line;
            ended = runs.ended;
          });
      status = status ∙ turn.status;
    }

-- a record ended in the rest: the engine stops there, in `mid`, the record is counted, in `new`, and the call lends it
pub turn_lends : {R : Type 0} {remaining : R → Option (List ℕ)} {old now : JarSource} (mid new : JarSource) {before
    after : Device R} {rest : List ℕ} → SourceTurn remaining old now before after rest
    → TakesRecord now.engine mid.engine rest (unread_in mid) → mid.turns ≡ now.turns → mid.status ≡ now.status
    → new.engine.partial.items ≡ mid.engine.partial.items → record_in new ≡ record_in mid
    → line_of_kept new ≡ line_of_kept mid → lent_by new ≡ lent_by mid + 1
    → unread_in new ≡ unread_in mid → new.turns ≡ mid.turns → new.status ≡ mid.status → ReadsRecord remaining old new before after (Ok true)
turn_lends {old = old} mid new turn takes mid_turns mid_status partial fields line lent unread turns status =
    let out = runs_out turn.runs takes in
    let kept : unread_in mid ≡ kept_in new = sym unread ∙ ap (λ l. l ++ unread_in new) (sym (partial ∙ takes.empty)) in
    record {
      read = turn.read;
      reads = turn.reads;
      is_read = read_kept (turns ∙ mid_turns) turn.is_read;
      ends = (
        lent ∙ ap (λ n. n + 1) (takes.ended ∙ turn.runs.ended),
        inl (record {
          lines = out.lines;
          cuts = subst (λ l. CutsRecord (lent_by old) (kept_in old ++ turn.read) (record_in new) out.lines l) kept
              (subst (λ f. CutsRecord (lent_by old) (kept_in old ++ turn.read) f out.lines (unread_in mid)) (sym fields)
              out.cuts);
          line = line ∙ out.line;
          gave_bytes = turn.gave_bytes;
          last_gave = λ gave some. turn.last_gave gave (omega (arith, some, turns, mid_turns));
          status = status ∙ mid_status ∙ turn.status;
        }),
      );
      rises = λ more. absurd (omega (arith, more, turn.failures));
      works = λ other. turn.failures;
    }

-- where a line is refused, the call stops as its contract says: with the line's fault, or for lack of memory
stops_said : {R : Type 0} (remaining : R → Option (List ℕ)) (old new : JarSource) (before after : Device R)
    (read : List ℕ) (reads : ℕ) (kind : JarFaultKind)
    → Refused (IsAtEnd (remaining (inner_of after))) (lent_by old) (kept_in old ++ read) (line_of_kept
    old) new.engine kind → Stops remaining old new before after read reads kind
stops_said remaining old new before after read reads kind r =
    let first = holds_here (λ t. RefusesFirst (lent_by old) r.fields t kind) _ r.tail r.refused in
    let other = said_no_other kind (take_line (lent_by old) r.fields first.line) first.said in
    let ran = r.ran in
    record {
      format = λ fault is. (
        length r.lines + 1,
        elim r.refused [
          | inl front ↦ inl (λ more.
              let bytes = ap (λ l. l ++ more) ran.bytes ∙ append_assoc (whole_lines r.lines) r.tail more in
              fault_told fault (record { few = ran.few; each = ran.each; bytes = bytes; ran = ran.ran }) (front more) is)
          | inr over ↦ inr (over.0, fault_told fault ran over.1 is)
        ],
        omega (arith, r.line),
        record {
          lines = r.lines;
          each = ran.each;
          rest = r.tail;
          bytes = ran.bytes;
          fields = r.fields;
          gathers = lines_gather ran;
          counted = refl;
        },
      );
      memory = λ is. (length r.lines + 1, reached_told ran first, omega (arith, r.line));
      device = λ is. absurd (other (ap fault_in is) (λ m. cc));
      all_made = λ is. absurd (other (ap fault_in is) (λ m. cc));
      first = λ is. other (ap fault_in is) (λ m. cc);
    }

-- a line of the rest is refused, and the call stops
pub turn_stops : {R : Type 0} {remaining : R → Option (List ℕ)} {old now : JarSource} (new : JarSource) {before after
    : Device R} {rest : List ℕ} {kind : JarFaultKind} → SourceTurn remaining old now before after rest
    → StopsAt now.engine new.engine rest kind → new.turns ≡ now.turns → ReadsRecord remaining old new before after (Err kind)
turn_stops new turn stops turns = record {
  read = turn.read;
  reads = turn.reads;
  is_read = read_kept turns turn.is_read;
  ends = stops_said _ _ new _ _ turn.read turn.reads _ (runs_stops turn.runs stops);
  rises = λ more. absurd (omega (arith, more, turn.failures));
  works = λ other. turn.failures;
}

-- what the engine went over in all bytes that were read, where a further read gave none
pub runs_over : {R : Type 0} {remaining : R → Option (List ℕ)} {old now : JarSource} (mid : JarSource) {before between
    : Device R} (more : List ℕ) → (turn : SourceTurn remaining old now before between []) → more ≡ []
    → mid.engine ≡ now.engine → Runs (lent_by old) (kept_in old ++ (turn.read ++ more)) [] (line_of_kept old) mid.engine
runs_over mid more turn none engine = rw (engine, none, append-nil turn.read) turn.runs

-- the further read failed, or all reads were made already, and the call stops
pub turn_failed : {R : Type 0} {remaining : R → Option (List ℕ)} {old now : JarSource} (new : JarSource) {before between
    after : Device R} {kind : JarFaultKind} → SourceTurn remaining old now before between []
    → IsOneLine new.engine.partial.items → Fills remaining now new between after (Err kind) → new.engine ≡ now.engine
    → ReadsRecord remaining old new before after (Err kind)
turn_failed {old = old} new {before} {between} {after} turn one fills engine =
    let runs = runs_over new fills.read turn fills.fills.0 engine in
    let short = cut_short (runs_alone runs) one (omega (arith, new.engine.short, new.engine.partial.ok.0)) in
    let line : line_of_kept new + 1 ≡ line_of_kept old + (length runs.lines + 1) = omega (arith, runs.line) in
    let long = length-append turn.read fills.read in
    record {
      read = turn.read ++ fills.read;
      reads = turn.reads + fills.reads;
      is_read = more_read _ _ _ _ _ _ _ turn.read fills.read turn.reads fills.reads turn.is_read fills.is_read;
      ends = record {
        format = λ fault is. absurd (grind (arith, fills.fills.1, is));
        memory = λ is. absurd (grind (arith, fills.fills.1, is));
        device = λ is. elim fills.fills.1 [
          | inl failed ↦ (rw (← turn.failures) failed.1, (length runs.lines + 1, short, line))
          | inr made ↦ let no = sym is ∙ made.0 in cc
        ];
        all_made = λ is. elim fills.fills.1 [
          | inl failed ↦ let no = sym failed.0 ∙ is in cc
          | inr made ↦ (
            made.2,
            omega (arith, made.3, turn.gave_bytes, long),
            λ gave some. omega (arith, turn.last_gave gave (omega (arith, made.2, made.3, fills.is_read.turns)), made.4),
            (length runs.lines + 1, short, line),
          )
        ];
        first = λ is. grind (arith, fills.fills.1, is);
      };
      rises = λ more. grind (arith, fills.fills.1, turn.failures, more);
      works = λ other. grind (arith, fills.fills.1, turn.failures, other);
    }

-- the further read came to the end of the text, and the call ends as `finish` answers
pub turn_over : {R : Type 0} {remaining : R → Option (List ℕ)} {old now mid : JarSource} (new : JarSource) {before
    between after : Device R} (r : Result Bool JarFaultKind) → SourceTurn remaining old now before between []
    → IsOneLine mid.engine.partial.items → Fills remaining now mid between after (Ok false) → mid.engine ≡ now.engine
    → Finished mid new r → ReadsRecord remaining old new before after r
turn_over {remaining = remaining} {old = old} {mid = mid} new {before} {after = after} r turn one fills engine fin = record {
  read = turn.read ++ fills.read;
  reads = turn.reads + fills.reads;
  is_read = read_kept (turns r fin) (more_read _ _ _ _ _ _ _ turn.read fills.read turn.reads fills.reads turn.is_read fills.is_read);
  ends = ends r fin;
  rises = λ rise. absurd (omega (arith, rise, turn.failures, fills.fills.3));
  works = λ other. fills.fills.3 ∙ turn.failures;
}
  where
    runs : Runs (lent_by old) (kept_in old ++ (turn.read ++ fills.read)) [] (line_of_kept old) mid.engine
    runs = runs_over mid fills.read turn fills.fills.1 engine

    turns : (r : Result Bool JarFaultKind) → Finished mid new r → new.turns ≡ mid.turns
    turns (Ok some) fin = fin.turns
    turns (Err kind) fin = fin.1

    lends : {some : Bool} (fin : Finishes mid new some) (records : List (List Field))
        → rest_of (record_in new) ≡ records → LendsLast remaining old new after (turn.read ++ fills.read) records
    lends fin records is =
        let end = runs_end runs one fin.going fin.ran in
        record {
          has = rw (← is, ← fin.record_is) end.has;
          sound = end.sound;
          used = fin.used;
          line = fin.line
              ∙ end.line;
          end = fills.fills.2;
          status = fin.status;
        }

    ends : (r : Result Bool JarFaultKind) → Finished mid new r
        → EndsAs remaining old new before after (turn.read ++ fills.read) (turn.reads + fills.reads) r
    ends (Ok true) fin = let there = fin.with_fields refl in
        (there.1 ∙ ap (λ n. n + 1) runs.ended, inr (lends fin (record_in new ∷ []) (rest_some (record_in new) there.0)))
    ends (Ok false) fin = let without = fin.without refl in (without.1 ∙ runs.ended, lends fin [] (ap rest_of without.0))
    ends (Err kind) fin = stops_said _ _ new _ _ (turn.read ++ fills.read) (turn.reads + fills.reads) kind
        (runs_stops_last runs one fin.0 fills.fills.2)

-- The bytes from `start` to `end` of a buffer are `front`, which is handed on, and `rest`: so the rest is the bytes
-- from `end`, less its length, to `end`.
pub unread_rest : (buffer : List ℕ) (start end : ℕ) (front rest : List ℕ) → start ≤ end → end ≤ length buffer
    → take (end - start) (drop start buffer) ≡ front ++ rest
    → take (end - (end - length rest)) (drop (end - length rest) buffer) ≡ rest
unread_rest buffer start end front rest low high is =
    let n = length rest in
    let k = length front in
    let fits : end - start ≤ length (drop start buffer) = omega (arith, length-drop start buffer) in
    let sum : end - start ≡ k + n = sym (length-take-le (end - start) (drop start buffer) fits) ∙ ap length is ∙ length-append front rest in
    let at : end - n ≡ start + k = omega (arith, sum, low) in
    let size : end - (end - n) ≡ n = omega (arith, sum, low) in
    cc (size, at, drop-drop k start buffer, drop-take k n (drop start buffer), sum, is, drop-append_seam front rest)

-- bytes that the check for UTF-8 accepts are UTF-8
pub found_text : {E : Type 0} (found : Result (Bor (List ℕ)) E) (bytes : List ℕ)
    → MatchResult found (λ s. (s.now ≡ bytes) × IsUtf8 bytes) (λ e. ¬ (IsUtf8 bytes))
    → is_ok found ≡ true → is_utf8 bytes ≡ true
found_text (Ok s) bytes cases is = is_utf8-from_IsUtf8 bytes cases.1
found_text (Err e) bytes cases is = cc
