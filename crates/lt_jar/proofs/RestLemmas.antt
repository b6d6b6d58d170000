-- The loop of `read_jar`, each turn of which reads one record: what is known of the text at each turn, when a turn is
-- refused, and at the end.
use Rattle.std.proofs.Common.{if◌then◌else◌, ◌≡◌, ◌∙◌, ◌++◌, ◌∷◌, inl, inr, ℕ, List, [], Bool, refl, sym, ap, subst}
use Rattle.std.proofs.Common.{length, ◌+◌, ◌≤◌, arith, length-append}
use Rattle.lt_jar.specs.Lines.{lines_of, whole_lines}
use Rattle.lt_jar.specs.Limits.{most_records}
use Rattle.lt_jar.specs.Records.{Field, HasRecords, IsWithin}
use Rattle.lt_jar.specs.Faults.{IsLineReached, begun}
use Rattle.lt_jar.specs.Lending.{IsSound}
use Rattle.lt_jar.proofs.ReadLemmas.{count_of, within_of}
use Rattle.lt_jar.proofs.TurnLemmas.{rest_by, whole_joined}
use Rattle.lt_jar.proofs.ReadingLemmas.{Refused, Runs, fault_told, holds_here, reached_told, runs_end, runs_out, runs_taken}
use Rattle.lt_jar.specs.Reading.{going_on}
use Rattle.lt_jar.specs.Pieces.{Finishes, RefusesFirst, TakesAll, TakesRecord, fields_in}
use Rattle.lt_jar.specs.Views.{IsFaultOf}
use Rattle.lt_jar.specs.declared.engine.Engine.{Engine}
use Rattle.lt_jar.specs.declared.faults.JarFaultKind.{JarFaultKind}
use Rattle.lt_jar.proofs.LentLemmas.{Behind, behind_more, behind_none, fault_on, lines_behind, reached_on, records_on}
use Rattle.lt_jar.proofs.LentLemmas.{some_lines, sound_on, wrong_is_behind}

-- a text that has these records, and with which nothing is wrong, keeps the limits
pub lent_within : {text : List ℕ} {records : List (List Field)} → HasRecords text records → IsSound 0 text → IsWithin text records
lent_within {text} {records} has sound = within_of text records has sound

-- the turns of `read_jar`: these records of the text are read, `rest` is left of it, and the engine begins a record
-- there
pub record TextTurn (text rest : List ℕ) (records : List (List Field)) (engine : Engine) : Type 0 where
  pub lines : List (List ℕ)
  pub front : Behind lines records engine.ended engine.line
  pub bytes : text ≡ whole_lines lines ++ rest
  pub few : engine.ended ≤ most_records
  pub fields : fields_in engine ≡ []
  pub empty : engine.partial.items ≡ []
  pub room : engine.line + length rest ≤ 1 + length text

-- at first no record is read, and the whole text is left
pub text_begins : (text : List ℕ) (engine : Engine) → (engine.partial.items ≡ []) × (fields_in engine ≡ [])
    → (engine.ended ≡ 0) × (engine.line ≡ 1) → TextTurn text text [] engine
text_begins text engine none start =
    record {
      lines = [];
      front = rw (start.0, start.1) behind_none;
      bytes = refl;
      few = omega (arith, start.0);
      fields = none.1;
      empty = none.0;
      room = omega (arith, start.1);
    }

-- at the beginning of a turn, the engine has gone over no line of what is left
pub text_runs : {text rest : List ℕ} {records : List (List Field)} {now : Engine} → TextTurn text rest records now
    → Runs now.ended rest rest now.line now
text_runs {rest = rest} turn =
    record {
      lines = [];
      ran = record {
        few = turn.few;
        each = tt;
        bytes = ap (λ l. l ++ rest) (sym turn.empty);
        ran = ap going_on (sym turn.fields);
      };
      line = omega arith;
      ended = refl;
    }

-- one record more ended, with the fields in `mid`, and was taken out of the engine, which is `new` then; `after` is
-- left
pub text_more : {text rest after : List ℕ} {records : List (List Field)} {now mid : Engine} (new : Engine)
    → TextTurn text rest records now → TakesRecord now mid rest after
    → (fields_in new ≡ []) × (new.ended ≡ mid.ended + 1) → (new.partial.items ≡ mid.partial.items)
    × (new.line ≡ mid.line) → TextTurn text after (records ++ fields_in mid ∷ []) new
text_more {text} {rest} {after} new turn takes begun same =
    let out = runs_out (text_runs turn) takes in
    record {
      lines = turn.lines ++ out.lines;
      front = behind_more turn.front out.cuts (omega (arith, begun.1, takes.ended)) (omega (arith, same.1, out.line));
      bytes = whole_joined text rest after turn.lines out.lines turn.bytes out.cuts.bytes;
      few = omega (arith, begun.1, takes.ended, out.few);
      fields = begun.0;
      empty = same.0 ∙ takes.empty;
      room = omega (arith, same.1, takes.room, turn.room);
    }

-- memory ran out as the record was taken out: the line that ended it, which has this number, is a line that is reached
pub text_refused : {text rest after : List ℕ} {records : List (List Field)} {now mid : Engine} (number : ℕ)
    → TextTurn text rest records now → TakesRecord now mid rest after → number + 1 ≡ mid.line
    → IsLineReached 0 text number
text_refused {text} {rest} {after} number turn takes counted =
    let out = runs_out (text_runs turn) takes in
    let bytes = whole_joined text rest after turn.lines out.lines turn.bytes out.cuts.bytes in
    let front = behind_more turn.front out.cuts refl out.line in
    record {
      from = omega (arith, length-append turn.lines out.lines, out.some, counted, front.line_is);
      to = omega (
        arith,
        counted,
        front.line_is,
        ap length (lines_behind after front bytes),
        length-append (turn.lines ++ out.lines) (lines_of after),
      );
      clean = λ other at wrong. let there = wrong_is_behind front bytes wrong in omega (arith, there.1, counted, there.2.counted);
    }

-- where a line of what is left is refused, its fault is the fault of the text, or memory ran out at it
pub said_of : {text rest : List ℕ} {records : List (List Field)} {now new : Engine} {kind : JarFaultKind}
    → TextTurn text rest records now → Refused (Unit {0}) now.ended rest now.line new kind
    → IsFaultOf text (record { kind = kind; line = new.line })
said_of {now = now} {new} {kind} turn r =
    let first = holds_here (λ t. RefusesFirst now.ended r.fields t kind) _ r.tail r.refused in
    let count : new.line + 1 ≡ now.line + (length r.lines + 1) = omega (arith, r.line) in
    elim first.said [
      | inl memory ↦ inr (memory, reached_on turn.front turn.bytes (reached_told r.ran first) count)
      | inr fault ↦ inl (fault.0, fault.1, fault_on turn.front turn.bytes (fault_told fault.0 r.ran first fault.1) count)
    ]

-- the text has ended: its records are those before and `more`, one or none, and if memory runs out at that one, its
-- line is a line that is reached
pub record TextEnds (text : List ℕ) (records more : List (List Field)) (new : Engine) : Type 0 where
  pub has : (all : List (List Field)) → all ≡ records ++ more → HasRecords text all × IsWithin text all
  pub few : new.ended + length more ≤ most_records
  pub reached : (number : ℕ) → number + 1 ≡ new.line → 1 ≤ length more → IsLineReached 0 text number

-- the engine takes all of what is left, as `mid`, and then the end of the text, as `new`: the last record is the one
-- that it holds, if `some`
pub text_ends : {text rest : List ℕ} {records : List (List Field)} {now mid : Engine} (new : Engine) {some : Bool}
    → TextTurn text rest records now → TakesAll now mid rest → Finishes mid new some
    → TextEnds text records (if some then fields_in new ∷ [] else []) new
text_ends {text} {rest} {records} new {some} turn takes fin =
    let more = if some then fields_in new ∷ [] else [] in
    let is = rest_by some (fields_in new) fin.with_fields fin.without in
    let end = runs_end (runs_taken (text_runs turn) takes) takes.over.begun fin.going fin.ran in
    let has = records_on turn.front turn.bytes (subst (HasRecords rest) (fin.record_is ∙ is) end.has) in
    let sound = sound_on turn.front turn.bytes end.sound in
    record {
      has = λ all same. rw same (has, within_of text (records ++ more) has sound);
      few = omega (arith, end.few, ap length (fin.record_is ∙ is), fin.ended, takes.over.ended);
      reached = λ number counted some.
          let lines = ap length (lines_behind rest turn.front turn.bytes) in
          let at : length (lines_of text) ≡ number = omega (
            arith,
            counted,
            fin.line,
            end.line,
            turn.front.line_is,
            lines,
            length-append turn.lines (lines_of rest),
          ) in
          record {
            from = omega (
              arith,
              at,
              some_lines (lines_of text)
                  (omega (arith, some, length-append records more, count_of text (records ++ more) has)),
            );
            to = omega (arith, at);
            clean = λ other line wrong. absurd (sound other line wrong);
          };
    }
