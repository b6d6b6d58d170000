-- What is known of a text after each answer of the engine: that it took a piece, ended a record, refused a line, or
-- came to the end. Lines *ran* if reading them one by one came to no fault; then nothing is wrong with them.
use Rattle.std.proofs.Common.{◌≡◌, ◌≢◌, ◌∙◌, ◌≤◌, ◌+◌, ◌∷◌, ℕ, List, [], Result, Ok, Err, refl, sym, ap, length, arith}
use Rattle.std.proofs.Common.{MatchResult, inl, inr, ◌++◌, subst, append_assoc, append-nil, add-zero, length-append}
use Rattle.std.proofs.Common.{Option, Some, None, zero-add}
use Rattle.lt_jar.specs.LineKinds.{Separator}
use Rattle.lt_jar.specs.Limits.{longest_line, most_records}
use Rattle.lt_jar.specs.Records.{Field, HasRecords, Written, lines_of_ended, nonblank}
use Rattle.lt_jar.specs.Faults.{Fault, IsLineReached, IsTheFault}
use Rattle.lt_jar.specs.Reading.{Ends, GoesOn, take_line, Going, finished, going_on, rest_of, on_going, steps, start, step}
use Rattle.std.specs.List.{AllByRecursion, flat_map}
use Rattle.lt_jar.specs.Lines.{HoldsOfWhole, IsOneLine, lines_of, whole_lines}
use Rattle.lt_jar.specs.Pieces.{StopsAtLast, RefusesFirst, StopsAt, last_line, TakesAll, TakesRecord, fields_in}
use Rattle.lt_jar.specs.Views.{IsSaid, fault_in, taken_in}
use Rattle.lt_jar.specs.declared.engine.Engine.{Engine}
use Rattle.lt_jar.specs.declared.faults.JarFaultKind.{JarFaultKind}
use Rattle.lt_jar.specs.declared.drafts.Progress.{Progress}
use Rattle.lt_jar.specs.Lending.{CutsRecord, Gathers, IsCutShort, IsSound}
use Rattle.lt_jar.proofs.GroupLemmas.{Leaves, records_of}
use Rattle.lt_jar.proofs.ReadLemmas.{HasRead, by_result, few_at, read_none, read_step, records_at_end}
use Rattle.lt_jar.specs.declared.faults.JarFaultKind.TheVariants as kinds
use Rattle.lt_jar.specs.declared.drafts.Progress.TheVariants as progress
use Rattle.lt_jar.proofs.TurnLemmas.{each-append, last_some, line_ends, lines_of-last_line, lines_of-whole}
use Rattle.lt_jar.proofs.TurnLemmas.{lines_of-whole_lines, ran_on, rest_some, step_first, steps-err, whole-append}
use Rattle.lt_jar.proofs.TurnLemmas.{whole_joined}

-- A last line is taken, in a reading where no record has ended. The records at the end of the text are the one record
-- of the fields `new`, or none.
pub last_taken : (earlier : ℕ) (old new : List Field) (line : List ℕ) (p : Progress) → take_line earlier old line ≡ Ok (taken_in p new)
    → (going : Going) × (on_going earlier (going_on old) line ≡ Ok going) × (finished going ≡ rest_of new)
last_taken earlier old new line progress.GoesOn said = (
  record { records = []; fields = new },
  step_first earlier old line (Ok (GoesOn new)) said,
  refl,
)
last_taken earlier old new line progress.Ends said =
    let ends = line_ends earlier old new line said in (
      record { records = new ∷ []; fields = [] },
      step_first earlier old line (Ok (Ends new)) said,
      sym (rest_some new (λ none. ends.2 (sym ends.0 ∙ none))),
    )

-- where lines run without a fault from a reading, the text is read that many lines further
read_more_lines : (earlier : ℕ) (text : List ℕ) (number : ℕ) (lines left : List (List ℕ)) (going new : Going)
    → HasRead earlier text number (lines ++ left) going
    → steps earlier (Ok going) lines ≡ Ok new → HasRead earlier text (number + length lines) left new
read_more_lines earlier text number [] left going new read ran = let same : going ≡ new = cc in rw (add-zero, ← same) read
read_more_lines earlier text number (line ∷ lines) left going new read ran =
    let count : (number + 1) + length lines ≡ number + length (line ∷ lines) = omega arith in
    by_result (step earlier going line) (read_step earlier text number going line (lines ++ left) read)
    (λ mid is found. subst (λ n. HasRead earlier text n left new) count
    (read_more_lines earlier text (number + 1) lines left mid new found (ap (λ r. steps earlier r lines) (sym is)
    ∙ ran)))
    (λ fault is found. let no = sym (steps-err earlier fault lines) ∙ ap (λ r. steps earlier r lines) (sym is) ∙ ran in cc)

-- the whole lines at the front of a text, which run without a fault: the text is read up to its rest
pub read_lines : (earlier : ℕ) (text : List ℕ) (lines : List (List ℕ)) (rest : List ℕ) (going : Going)
    → earlier ≤ most_records → AllByRecursion IsOneLine lines → text ≡ whole_lines lines ++ rest
    → steps earlier (going_on []) lines ≡ Ok going → HasRead earlier text (length lines) (lines_of rest) going
read_lines earlier text lines rest going few each bytes ran =
    let cut = ap lines_of bytes ∙ lines_of-whole lines rest each in
    let from = subst (λ l. HasRead earlier text 0 l start) cut (read_none earlier text few) in
    subst (λ n. HasRead earlier text n (lines_of rest) going) (zero-add (length lines))
    (read_more_lines earlier text 0 lines (lines_of rest) start going from ran)

-- groups that have ended, but make no record, have no lines but separators
all_separators : (ended : List (List Written)) → [] ≡ records_of ended
    → AllByRecursion (λ line. line ≡ Separator) (flat_map lines_of_ended ended)
all_separators [] none = tt
all_separators ([] ∷ ended) none = (refl, all_separators ended none)
all_separators ((field ∷ group) ∷ ended) none = cc

-- lines that run without a fault are groups that leave this reading, and nothing is wrong with them
pub lines_ran : (earlier : ℕ) (lines : List (List ℕ)) (going : Going) → earlier ≤ most_records
    → AllByRecursion IsOneLine lines → steps earlier (going_on []) lines ≡ Ok going
    → Leaves (nonblank lines) going × IsSound earlier (whole_lines lines)
lines_ran earlier lines going few each ran =
    let read = read_lines earlier (whole_lines lines) lines [] going few each (sym (append-nil (whole_lines lines))) ran in
    let before : read.before ≡ lines = sym (read.all ∙ append-nil read.before) ∙ lines_of-whole_lines lines each in
    (subst (λ l. Leaves (nonblank l) going) before read.leaves, (records_at_end earlier (whole_lines lines) (length lines) going read).1)

-- These whole lines at the front of a text run without a fault and end no record. `fields` are those of the record that
-- goes on, and `rest` comes after the lines.
pub record Ran (earlier : ℕ) (text : List ℕ) (lines : List (List ℕ)) (rest : List ℕ) (fields : List Field) : Type 0 where
  pub few : earlier ≤ most_records
  pub each : AllByRecursion IsOneLine lines
  pub bytes : text ≡ whole_lines lines ++ rest
  pub ran : steps earlier (going_on []) lines ≡ going_on fields

-- lines that ran at the front of a text (`Ran`), and more that run in the bytes `kept` after them: all of them ran
ran_more : {earlier : ℕ} {text kept : List ℕ} {lines : List (List ℕ)} {fields new : List Field} (more : List
    (List ℕ)) (rest : List ℕ) → Ran earlier text lines kept fields → AllByRecursion IsOneLine more
    → kept ≡ whole_lines more ++ rest → steps earlier (going_on fields) more ≡ going_on new → Ran earlier text (lines ++ more) rest new
ran_more {earlier} {text} {kept} {lines} {fields} more rest r each bytes ran = record {
  few = r.few;
  each = each-append lines more r.each each;
  bytes = whole_joined text kept rest lines more r.bytes bytes;
  ran = ran_on earlier (going_on []) lines more fields _ r.ran ran;
}

-- a text is read up to the rest behind lines that ran (`Ran`); `left` are the lines of the rest
read_ran : {earlier : ℕ} {text rest : List ℕ} {lines left : List (List ℕ)} {fields : List Field}
    → Ran earlier text lines rest fields → lines_of rest ≡ left
    → HasRead earlier text (length lines) left (record { records = []; fields = fields })
read_ran {earlier} {text} {rest} {lines} r cut = rw (← cut) (read_lines earlier text lines rest _ r.few r.each r.bytes r.ran)

-- lines that ran (`Ran`) are separators and then the lines of the fields that they leave
pub lines_gather : {earlier : ℕ} {text rest : List ℕ} {lines : List (List ℕ)} {fields : List Field}
    → Ran earlier text lines rest fields → Gathers lines fields
lines_gather {earlier} {lines = lines} r =
    let leaves = (lines_ran earlier lines _ r.few r.each r.ran).0 in
    record {
      skipped = flat_map lines_of_ended leaves.ended;
      separators = all_separators leaves.ended (ap (λ (g : Going). g.records) leaves.going_is);
      group = leaves.last;
      lines_are = leaves.lines_are;
      fields_are = ap (λ (g : Going). g.fields) leaves.going_is;
    }

-- a text of lines that ran (`Ran`) and a rest without a line feed, which is not too long, is cut short in the rest
pub cut_short : {earlier : ℕ} {text rest : List ℕ} {lines : List (List ℕ)} {fields : List Field}
    → Ran earlier text lines rest fields → IsOneLine rest → length rest ≤ longest_line
    → IsCutShort earlier text (length lines + 1)
cut_short {earlier} {rest = rest} {lines} {fields} r one short = record {
  lines = lines;
  each = r.each;
  rest = rest;
  one = one;
  short = short;
  bytes = r.bytes;
  fields = fields;
  gathers = lines_gather r;
  sound = (lines_ran earlier lines _ r.few r.each r.ran).1;
  counted = refl;
}

-- where the kind of fault that was answered is one of the format, it is the fault that is said of the line
pub said_fault : {A : Type 0} (kind : JarFaultKind) (said : Result A Fault) (fault : Fault) → IsSaid kind said
    → fault_in kind ≡ Some fault → said ≡ Err fault
said_fault {A} kind said fault (inl memory) is = let no : (let o : Option Fault = None in o) ≡ Some fault =
    ap fault_in (sym memory) ∙ is in cc
said_fault {A} kind said fault (inr found) is = cc

-- the kind of fault that is answered of a line is one of the format or OutOfMemory, and no other
pub said_no_other : {A : Type 0} (kind : JarFaultKind) (said : Result A Fault) → IsSaid kind said → fault_in kind ≡ None
    → kind ≢ kinds.OutOfMemory → ⊥
said_no_other kind said (inl memory) none other = other memory
said_no_other kind said (inr found) none other = cc

-- what holds of the whole text holds of the bytes that are read of it
pub holds_here : (P : List ℕ → Type 0) (ended : Type 0) (bytes : List ℕ) → HoldsOfWhole P ended bytes → P bytes
holds_here P ended bytes (inl each) = subst P (append-nil bytes) (each [])
holds_here P ended bytes (inr over) = over.1

-- where the first line behind lines that run is refused with a fault of the format, that is the fault of the text
pub fault_told : {earlier : ℕ} {text rest : List ℕ} {lines : List (List ℕ)} {fields : List Field} {kind
    : JarFaultKind} (fault : Fault) → Ran earlier text lines rest fields → RefusesFirst earlier fields rest kind
    → fault_in kind ≡ Some fault → IsTheFault earlier text fault (length lines + 1)
fault_told {earlier} {text} {lines = lines} {fields} {kind} fault r first is =
    subst (λ said. MatchResult said (HasRead earlier text (length lines + 1) first.after)
    (λ f. IsTheFault earlier text f (length lines + 1)))
    (step_first earlier fields first.line _ (said_fault kind (take_line earlier fields first.line) fault first.said is))
    (read_step earlier text (length lines) _ first.line first.after (read_ran r first.cut))

-- where the first line behind lines that run is refused, it is a line that is reached
pub reached_told : {earlier : ℕ} {text rest : List ℕ} {lines : List (List ℕ)} {fields : List Field} {kind
    : JarFaultKind} → Ran earlier text lines rest fields → RefusesFirst earlier fields rest kind
    → IsLineReached earlier text (length lines + 1)
reached_told {earlier} {text} {lines = lines} r first =
    let read = read_ran r first.cut in
    record {
      from = omega arith;
      to = omega (arith, ap length read.all, length-append read.before (first.line ∷ first.after), read.counted);
      clean = λ other at wrong. omega (arith, read.clean other at wrong);
    }

-- The bytes `all` come after `earlier` records and begin in the line `start`. Of them the engine has gone over whole
-- lines, which ended no record, and keeps the front of a line. `rest` is not yet handed on to it.
pub record Runs (earlier : ℕ) (all rest : List ℕ) (start : ℕ) (engine : Engine) : Type 0 where
  pub lines : List (List ℕ)
  pub ran : Ran earlier all lines (engine.partial.items ++ rest) (fields_in engine)
  pub line : engine.line ≡ start + length lines
  pub ended : engine.ended ≡ earlier

-- the engine takes all of the rest, and nothing is left
pub runs_taken : {earlier start : ℕ} {all rest : List ℕ} {now new : Engine} → Runs earlier all rest start now
    → TakesAll now new rest → Runs earlier all [] start new
runs_taken {now = now} {new} runs takes = record {
  lines = runs.lines ++ takes.lines;
  ran = ran_more takes.lines (new.partial.items ++ []) runs.ran takes.over.each
      (takes.bytes ∙ ap (λ l. whole_lines takes.lines ++ l) (sym (append-nil new.partial.items)))
      (ap (λ n. steps n (going_on (fields_in now)) takes.lines) (sym runs.ended) ∙ takes.over.ran);
  line = omega (arith, takes.over.line, runs.line, length-append runs.lines takes.lines);
  ended = takes.over.ended ∙ runs.ended;
}

-- of lines without line feeds, those before the last have none, and the last has none
last_one : (lines : List (List ℕ)) (last : List ℕ) → AllByRecursion IsOneLine (lines ++ last ∷ [])
    → AllByRecursion IsOneLine lines × IsOneLine last
last_one [] last each = (tt, each.0)
last_one (line ∷ lines) last each = let rest = last_one lines last each.1 in ((each.0, rest.0), rest.1)

-- The bytes `all` come after `earlier` records and begin in the line `start`. In them a record ended, which is no more
-- than the last that a text may have. The engine holds its fields, and `rest` is left.
pub record RunsOut (earlier : ℕ) (all rest : List ℕ) (start : ℕ) (engine : Engine) : Type 0 where
  pub lines : List (List ℕ)
  pub cuts : CutsRecord earlier all (fields_in engine) lines rest
  pub few : earlier + 1 ≤ most_records
  pub line : engine.line ≡ start + length lines
  pub some : 1 ≤ length lines

-- the text of lines, of which one is the last, is that of the others, and that line with its line feed
whole_last : (lines : List (List ℕ)) (last rest : List ℕ) → whole_lines (lines ++ last ∷ []) ++ rest
    ≡ whole_lines lines ++ (last ++ 10 ∷ rest)
whole_last lines last rest = simp (whole-append, append_assoc, append-nil)

-- the engine comes to the end of a record in what is left; `after` is left then
pub runs_out : {earlier start : ℕ} {all rest after : List ℕ} {now new : Engine} → Runs earlier all rest start now
    → TakesRecord now new rest after → RunsOut earlier all after start new
runs_out {earlier} {all = all} {after = after} {now} {new} runs takes =
    let alone = last_one takes.lines takes.last takes.each in
    let lines = runs.lines ++ takes.lines in
    let r = ran_more takes.lines (takes.last ++ 10 ∷ after) runs.ran alone.0
    (takes.bytes ∙ whole_last takes.lines takes.last after)
    (ap (λ n. steps n (going_on (fields_in now)) takes.lines) (sym runs.ended) ∙ takes.ran) in
    let ends = ap (λ n. take_line n (fields_in new) takes.last) (sym runs.ended) ∙ takes.ends in
    let end = line_ends earlier (fields_in new) (fields_in new) takes.last ends in
    let each = each-append lines (takes.last ∷ []) r.each (alone.1, tt) in
    let bytes = r.bytes ∙ sym (whole_last lines takes.last after) in
    let ran = ran_on earlier (going_on []) lines (takes.last ∷ []) (fields_in new) _ r.ran
    (step_first earlier (fields_in new) takes.last _ ends) in
    record {
      lines = lines ++ takes.last ∷ [];
      cuts = record {
        each = each;
        bytes = bytes;
        ends = record { before = lines; last = takes.last; lines_are = refl; separator = end.1; gathers = lines_gather r; some = end.2 };
        sound = (lines_ran earlier (lines ++ takes.last ∷ []) _ r.few each ran).1;
      };
      few = few_at earlier all _ _ _ (read_lines earlier all (lines ++ takes.last ∷ []) after _ r.few each bytes ran);
      line = omega (arith, takes.line, runs.line, length-append runs.lines takes.lines, length-append lines (takes.last ∷ []));
      some = omega (arith, length-append lines (takes.last ∷ []));
    }

-- The line after whole lines, which ended no record, has a fault of this kind, or memory ran out at it. This holds
-- whatever bytes follow, or where the text has ended (`ended`). The engine's line number is that line's.
pub record Refused (ended : Type 0) (earlier : ℕ) (all : List ℕ) (start : ℕ) (new : Engine) (kind : JarFaultKind) : Type 0 where
  pub lines : List (List ℕ)
  pub tail : List ℕ
  pub fields : List Field
  pub ran : Ran earlier all lines tail fields
  pub refused : HoldsOfWhole (λ text. RefusesFirst earlier fields text kind) ended tail
  pub line : new.line ≡ start + length lines

-- the engine stops at a line of what is left, which is refused
pub runs_stops : {earlier start : ℕ} {all rest : List ℕ} {now new : Engine} {kind : JarFaultKind} {ended : Type 0}
    → Runs earlier all rest start now → StopsAt now new rest kind → Refused ended earlier all start new kind
runs_stops {now = now} {kind = kind} runs stops = record {
  lines = runs.lines ++ stops.lines;
  tail = stops.tail;
  fields = stops.fields;
  ran = ran_more stops.lines stops.tail runs.ran stops.each stops.bytes
      (ap (λ n. steps n (going_on (fields_in now)) stops.lines) (sym runs.ended) ∙ stops.ran);
  refused = inl (λ more. subst (λ n. RefusesFirst n stops.fields (stops.tail ++ more) kind) runs.ended (stops.refused more));
  line = omega (arith, stops.line, runs.line, length-append runs.lines stops.lines);
}

-- where nothing is left, the engine keeps all bytes behind the lines that it went over
pub runs_alone : {earlier start : ℕ} {all : List ℕ} {now : Engine} → (runs : Runs earlier all [] start now)
    → Ran earlier all runs.lines now.partial.items (fields_in now)
runs_alone {earlier} {all = all} {now} runs = subst (λ l. Ran earlier all runs.lines l (fields_in now))
    (append-nil now.partial.items) runs.ran

-- the last line of all, which the end of the text ends, is refused
pub runs_stops_last : {earlier start : ℕ} {all : List ℕ} {now new : Engine} {kind : JarFaultKind} {ended : Type 0}
    → Runs earlier all [] start now → IsOneLine now.partial.items → StopsAtLast now new kind → ended
    → Refused ended earlier all start new kind
runs_stops_last {now = now} {kind = kind} runs one stops over =
    let partial = now.partial.items in
    let said = subst (λ n. IsSaid kind (take_line n (fields_in now) partial)) runs.ended stops.said in
    record {
      lines = runs.lines;
      tail = partial;
      fields = fields_in now;
      ran = runs_alone runs;
      refused = inr (
        over,
        record {
          line = partial;
          after = [];
          cut = lines_of-last_line partial one
              ∙ last_some partial stops.some;
          said = said;
        },
      );
      line = stops.line ∙ runs.line;
    }

-- The bytes `all` come after `earlier` records and begin in the line `start`. They are the rest of a text that has
-- ended: these are their records, and nothing is wrong with them.
pub record RunsEnd (earlier : ℕ) (all : List ℕ) (start : ℕ) (engine : Engine) (records : List (List Field)) : Type 0 where
  pub has : HasRecords all records
  pub sound : IsSound earlier all
  pub few : earlier + length records ≤ most_records
  pub line : engine.line + length (last_line engine.partial.items) ≡ start + length (lines_of all)

-- the last line of all runs without a fault at the end of the text: the records of the reading are those of the bytes
pub runs_end : {earlier start : ℕ} {all : List ℕ} {now : Engine} → Runs earlier all [] start now
    → IsOneLine now.partial.items → (going : Going)
    → steps now.ended (going_on (fields_in now)) (last_line now.partial.items) ≡ Ok going → RunsEnd earlier all start now (finished going)
runs_end {earlier} {start} {all} {now} runs one going ran =
    let last = last_line now.partial.items in
    let cut = lines_of-last_line now.partial.items one in
    let r = runs_alone runs in
    let more = ap (λ n. steps n (going_on (fields_in now)) last) (sym runs.ended) ∙ ran in
    let end = read_more_lines earlier all (length runs.lines) last [] _ going (read_ran r (cut ∙ sym (append-nil last))) more in
    let records = records_at_end earlier all _ going end in
    record {
      has = records.0;
      sound = records.1;
      few = few_at earlier all _ [] going end;
      line = omega (
        arith,
        runs.line,
        ap length (ap lines_of r.bytes ∙ lines_of-whole runs.lines now.partial.items r.each
            ∙ ap (λ l. runs.lines ++ l) cut),
        length-append runs.lines last,
      );
    }
