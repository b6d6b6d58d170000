-- What a line does to the record that goes on; and what is known at each turn of the loop of `Engine::take`, where a
-- turn takes one line of the piece.
use Rattle.std.proofs.Common.{◌≡◌, ◌≢◌, Bool, true, false, if◌then◌else◌, ◌∙◌, ◌≤◌, ◌<◌, ◌+◌, ◌∷◌, ℕ, zero, suc, List}
use Rattle.std.proofs.Common.{[], Result, Ok, Err, refl, sym, ap, length, get_or, arith, nat_lt, MatchResult, ◌⊎◌, inl}
use Rattle.std.proofs.Common.{inr, ◌++◌, subst, append_assoc, append-nil, add-zero, length-append}
use Rattle.std.proofs.Math.ListN.{set}
use Rattle.std.proofs.lemmas.Bool.{cond_both, lt-ltb}
use Rattle.lt_jar.specs.LineKinds.{Line, Blank, Separator, Continuation, Start, Bad, line_of}
use Rattle.lt_jar.specs.Limits.{longest_line, most_records}
use Rattle.lt_jar.specs.Records.{Field}
use Rattle.lt_jar.specs.Faults.{Fault, LineTooLong, begun}
use Rattle.lt_jar.specs.Reading.{Ends, GoesOn, Taken, continued, lengthened, take_kind, take_line, with_text, Going}
use Rattle.lt_jar.specs.Reading.{going_on, rest_of, on_going, on_taken, steps}
use Rattle.std.specs.List.{AllByRecursion}
use Rattle.std.proofs.lemmas.Grind.{flat_map-append}
use Rattle.std.proofs.lemmas.List.Elements.{All-append, All-nil}
use Rattle.lt_jar.specs.Lines.{IsOneLine, lines_of, whole_lines}
use Rattle.lt_jar.specs.Pieces.{GoesOver, RefusesFirst, StopsAt, last_line, TakesAll, TakesRecord, fields_in}
use Rattle.lt_jar.specs.Views.{IsSaid, fault_in}
use Rattle.lt_jar.specs.declared.engine.Engine.{Engine}
use Rattle.lt_jar.specs.declared.faults.JarFaultKind.{JarFaultKind}
use Rattle.lt_jar.proofs.CutLemmas.{IsNoEnd, first_goes_on, lines_of-ended, lines_of-last}
use Rattle.lt_jar.proofs.ReadLemmas.{by_test}
use Rattle.lt_jar.specs.declared.faults.JarFaultKind.TheVariants as kinds

-- lengthening the body of the last field is setting the field at the index i, which is the last, to the lengthened one
with_text-set : (text : List ℕ) (fields : List Field) (i : ℕ) (last : Field) → i + 1 ≡ length fields → get_or fields i last ≡ last
    → with_text text fields ≡ set fields i (last.0, lengthened last.1 text)
with_text-set text [] i last at is = absurd (omega arith)
with_text-set text (field ∷ []) zero last at is = ap (λ (f : Field). let g : Field = (f.0, lengthened f.1 text) in g ∷ []) is
with_text-set text (field ∷ []) (suc i) last at is = absurd (omega arith)
with_text-set text (field ∷ next ∷ fields) zero last at is = absurd (omega arith)
with_text-set text (field ∷ next ∷ fields) (suc i) last at is = ap (λ l. field ∷ l)
    (with_text-set text (next ∷ fields) i last (omega arith) is)

-- what a continuation line makes of the fields: the one at the index i, the last, is set to `new`, of the same name
-- and with the longer body
pub continued-set : (text : List ℕ) (fields : List Field) (i : ℕ) (last : Field) (new : Field) → i + 1 ≡ length fields
    → get_or fields i last ≡ last → new.0 ≡ last.0 → new.1 ≡ lengthened last.1 text
    → continued text fields ≡ Ok (GoesOn (set fields i new))
continued-set text [] i last new at is name body = absurd (omega arith)
continued-set text (field ∷ fields) i last new at is name body =
    let same = ap (λ (a : List ℕ). let f : Field = (a, lengthened last.1 text) in f) (sym name)
    ∙ ap (λ (b : List ℕ). let f : Field = (new.0, b) in f) (sym body) in
    rw (with_text-set text (field ∷ fields) i last at is, same) refl

-- if the record ends with the fields `new`, the line is a separator, and `new` are the fields before it, at least one
abbrev EndsBy : List Field → Line → Taken → Type 0
EndsBy fields kind (GoesOn new) = Unit {0}
EndsBy fields kind (Ends new) = (new ≡ fields) × (kind ≡ Separator) × (fields ≢ [])

-- if what is said of a line is that it ends the record, it is a separator, and the record has the fields before it
abbrev EndsIf : List Field → Line → Result Taken Fault → Type 0
EndsIf fields kind said = MatchResult said (EndsBy fields kind) (λ fault. Unit {0})

-- where `take_kind` ends a record, the line is a separator, and the record has the fields before it
kind_ends : (ended : ℕ) (fields : List Field) (kind : Line) → EndsIf fields kind (take_kind ended fields kind)
kind_ends ended fields Blank = tt
kind_ends ended [] Separator = tt
kind_ends ended (field ∷ fields) Separator = (refl, refl, λ h. cc)
kind_ends ended [] (Continuation text) = tt
kind_ends ended (field ∷ fields) (Continuation text) = tt
kind_ends ended [] (Start name body) = cond_both (nat_lt ended most_records) _ _ (EndsIf [] (Start name body)) (λ below. tt) (λ full. tt)
kind_ends ended (field ∷ fields) (Start name body) = tt
kind_ends ended fields Bad = tt

-- a line that ends a record is a separator, and the record has the fields before it, at least one
pub line_ends : (ended : ℕ) (fields new : List Field) (line : List ℕ) → take_line ended fields line ≡ Ok (Ends new)
    → (new ≡ fields) × (line_of line ≡ Separator) × (fields ≢ [])
line_ends ended fields new line e =
    subst (EndsIf fields (line_of line)) e (by_test ended fields line (EndsIf fields (line_of line)) (λ long. tt)
    (λ short utf8. kind_ends ended fields (line_of line)) (λ short not. tt))

-- reading two lists of lines, one after the other, is reading the second from where the first leads
pub steps-append : (earlier : ℕ) (said : Result Going Fault) (xs ys : List (List ℕ))
    → steps earlier said (xs ++ ys) ≡ steps earlier (steps earlier said xs) ys
steps-append earlier said [] ys = refl
steps-append earlier said (x ∷ xs) ys = steps-append earlier (on_going earlier said x) xs ys

-- after a fault the lines that follow change nothing
pub steps-err : (earlier : ℕ) (fault : Fault) (lines : List (List ℕ)) → steps earlier (Err fault) lines ≡ Err fault
steps-err earlier fault [] = refl
steps-err earlier fault (line ∷ lines) = steps-err earlier fault lines

-- where no record has ended since the `earlier` ones, the reading after one more line is what this line makes of the
-- fields (`said`)
pub step_first : (earlier : ℕ) (fields : List Field) (line : List ℕ) (said : Result Taken Fault) → take_line earlier fields line ≡ said
    → on_going earlier (going_on fields) line ≡ on_taken (record { records = []; fields = fields }) said
step_first earlier fields line said is = rw (add-zero earlier, is) refl

-- the text of two lists of lines, one after the other, is the text of the first and then that of the second
pub whole-append : (xs ys : List (List ℕ)) → whole_lines (xs ++ ys) ≡ whole_lines xs ++ whole_lines ys
whole-append xs ys = flat_map-append (λ (line : List ℕ). line ++ 10 ∷ []) xs ys

-- if the bytes kept after whole lines are more whole lines and a rest, then all the bytes are the lines of both and
-- this rest
pub whole_joined : (all kept rest : List ℕ) (lines more : List (List ℕ)) → all ≡ whole_lines lines ++ kept
    → kept ≡ whole_lines more ++ rest → all ≡ whole_lines (lines ++ more) ++ rest
whole_joined all kept rest lines more is next = rw (is, next) (simp (whole-append, append_assoc))

-- if no line of two lists has a line feed, none of both together has one
pub each-append : (xs ys : List (List ℕ)) → AllByRecursion IsOneLine xs → AllByRecursion IsOneLine ys → AllByRecursion IsOneLine (xs ++ ys)
each-append [] ys each more = more
each-append (x ∷ xs) ys each more = (each.0, each-append xs ys each.1 more)

-- a text of whole lines and a rest has these lines, and then those of the rest
pub lines_of-whole : (lines : List (List ℕ)) (rest : List ℕ) → AllByRecursion IsOneLine lines
    → lines_of (whole_lines lines ++ rest) ≡ lines ++ lines_of rest
lines_of-whole [] rest each = refl
lines_of-whole (line ∷ lines) rest each =
    ap lines_of (append_assoc (line ++ 10 ∷ []) (whole_lines lines) rest ∙ append_assoc line (10 ∷ []) (whole_lines lines ++ rest))
    ∙ lines_of-ended line (whole_lines lines ++ rest) each.0 ∙ ap (λ l. line ∷ l) (lines_of-whole lines rest each.1)

-- a text of only whole lines has just these lines
pub lines_of-whole_lines : (lines : List (List ℕ)) → AllByRecursion IsOneLine lines → lines_of (whole_lines lines) ≡ lines
lines_of-whole_lines lines each = ap lines_of (sym (append-nil (whole_lines lines))) ∙ lines_of-whole lines [] each ∙ append-nil lines

-- a text without a line feed is one line, or none if it is empty
pub lines_of-last_line : (line : List ℕ) → IsOneLine line → lines_of line ≡ last_line line
lines_of-last_line [] one = refl
lines_of-last_line (byte ∷ line) one = lines_of-last (byte ∷ line) one (omega arith)

-- bytes kept at the end of a text, if there are any, are its last line
pub last_some : (line : List ℕ) → line ≢ [] → last_line line ≡ line ∷ []
last_some [] some = absurd (some refl)
last_some (byte ∷ line) some = refl

-- after lines that end no record, the answer to more lines is the answer to all of them
pub ran_on : (earlier : ℕ) (from : Result Going Fault) (lines more : List (List ℕ)) (fields : List Field) (said : Result
    Going Fault) → steps earlier from lines ≡ going_on fields
    → steps earlier (going_on fields) more ≡ said → steps earlier from (lines ++ more) ≡ said
ran_on earlier from lines more fields said ran next = steps-append earlier from lines more ∙ ap (λ r. steps earlier r more) ran ∙ next

-- So far the engine has taken these lines of the piece, which ended no record, and `rest` of it is left. `old` is the
-- engine before the piece, and `now` the one at this turn.
pub record PieceTurn (old now : Engine) (piece rest : List ℕ) : Type 0 where
  pub lines : List (List ℕ)
  pub over : GoesOver old now lines
  pub bytes : old.partial.items ++ piece ≡ whole_lines lines ++ (now.partial.items ++ rest)
  pub front : List ℕ
  pub split : piece ≡ front ++ rest
  pub room : now.line + length rest ≤ old.line + length piece

-- one line more is taken, which ends no record: `line`, up to the next line feed, after the bytes kept from pieces
-- before; `after` is left
pub turn_next : {old now : Engine} (new : Engine) {piece rest : List ℕ} (line after : List ℕ)
    → PieceTurn old now piece rest → rest ≡ line ++ 10 ∷ after → IsOneLine line
    → take_line now.ended (fields_in now) (now.partial.items ++ line) ≡ Ok (GoesOn (fields_in new))
    → new.ended ≡ now.ended → new.line ≡ now.line + 1 → new.partial.items ≡ []
    → PieceTurn old new piece after
turn_next {old} {now} new {piece} {rest} line after turn cut one said ended counted none =
    let whole = now.partial.items ++ line in
    let long = ap length cut ∙ length-append line (10 ∷ after) in
    record {
      lines = turn.lines ++ whole ∷ [];
      over = record {
        each = each-append turn.lines (whole ∷ []) turn.over.each (All-append IsNoEnd now.partial.items line turn.over.begun one, tt);
        ran = ran_on old.ended _ turn.lines (whole ∷ []) (fields_in now) _ turn.over.ran
            (step_first old.ended (fields_in now) whole _
            (ap (λ n. take_line n (fields_in now) whole) (sym turn.over.ended) ∙ said));
        line = omega (arith, counted, turn.over.line, length-append turn.lines (whole ∷ []));
        ended = ended ∙ turn.over.ended;
        begun = subst IsOneLine (sym none) (All-nil IsNoEnd);
      };
      bytes = simp (whole-append, append_assoc, append-nil) (cc (turn.bytes, cut, none));
      front = turn.front ++ (line ++ 10 ∷ []);
      split = simp append_assoc (cc (turn.split, cut));
      room = omega (arith, counted, turn.room, long);
    }

-- One line more is taken: the bytes kept from pieces before, and then `line`, up to the next line feed. It ends a
-- record, so that the engine stops there and leaves `after`.
pub turn_ends : {old now : Engine} (new : Engine) {piece rest : List ℕ} (line after : List ℕ)
    → PieceTurn old now piece rest → rest ≡ line ++ 10 ∷ after → IsOneLine line
    → take_line now.ended (fields_in now) (now.partial.items ++ line) ≡ Ok (Ends (fields_in new))
    → new.ended ≡ now.ended → new.line ≡ now.line + 1 → new.partial.items ≡ []
    → TakesRecord old new piece after
turn_ends {old} {now} new {piece} {rest} line after turn cut one said ended counted none =
    let whole = now.partial.items ++ line in
    let same = (line_ends now.ended (fields_in now) (fields_in new) whole said).0 in
    let long = ap length cut ∙ length-append line (10 ∷ after) in
    record {
      lines = turn.lines;
      last = whole;
      each = each-append turn.lines (whole ∷ []) turn.over.each (All-append IsNoEnd now.partial.items line turn.over.begun one, tt);
      ran = turn.over.ran ∙ ap going_on (sym same);
      ends = ap (λ n. take_line n (fields_in new) whole) (sym turn.over.ended) ∙ ap (λ f. take_line now.ended f whole) same ∙ said;
      line = omega (arith, counted, turn.over.line);
      ended = ended ∙ turn.over.ended;
      empty = none;
      bytes = simp (whole-append, append_assoc, append-nil) (cc (turn.bytes, cut));
      front = turn.front ++ (line ++ 10 ∷ []);
      split = simp append_assoc (cc (turn.split, cut));
      room = omega (arith, counted, turn.room, long);
    }

-- the first line of what is left is refused, whatever bytes follow the piece, so that the engine stops at it
pub turn_stops : {old now : Engine} (new : Engine) {piece rest : List ℕ} {kind : JarFaultKind}
    → PieceTurn old now piece rest
    → ((more : List ℕ) → RefusesFirst now.ended (fields_in now) ((now.partial.items ++ rest) ++ more) kind)
    → new.ended ≡ now.ended → new.line ≡ now.line → IsOneLine new.partial.items → StopsAt old new piece kind
turn_stops {now = now} new {rest = rest} {kind} turn refused ended counted begun = record {
  lines = turn.lines;
  each = turn.over.each;
  fields = fields_in now;
  ran = turn.over.ran;
  tail = now.partial.items ++ rest;
  refused = λ more. subst (λ n. RefusesFirst n (fields_in now) ((now.partial.items ++ rest) ++ more) kind) turn.over.ended (refused more);
  bytes = turn.bytes;
  room = omega (arith, counted, turn.room);
  line = counted ∙ turn.over.line;
  ended = ended ∙ turn.over.ended;
  begun = begun;
}

-- The first line of what is left has its line feed in the piece. It is the bytes of `partial`, kept from pieces before,
-- and those of `line`. If these are refused, the line is.
pub first_refused : {ended : ℕ} {fields : List Field} {rest : List ℕ} (partial line after more : List ℕ) {kind
    : JarFaultKind} → IsOneLine partial → IsOneLine line → rest ≡ line ++ 10 ∷ after
    → IsSaid kind (take_line ended fields (partial ++ line)) → RefusesFirst ended fields ((partial ++ rest) ++ more) kind
first_refused partial line after more begun one cut said = record {
  line = partial ++ line;
  after = lines_of (after ++ more);
  cut = ap (λ l. lines_of ((partial ++ l) ++ more)) cut ∙ ap (λ l. lines_of (l ++ more)) (sym (append_assoc partial line (10 ∷ after)))
      ∙ ap lines_of (append_assoc (partial ++ line) (10 ∷ after) more)
      ∙ lines_of-ended (partial ++ line) (after ++ more) (All-append IsNoEnd partial line begun one);
  said = said;
}

-- a line whose line feed is not in the piece is refused, whatever bytes follow, where it is too long already, or
-- memory ran out
pub unended_refused : (ended : ℕ) (fields : List Field) (line more : List ℕ) (kind : JarFaultKind) → IsOneLine line
    → line ≢ [] → (kind ≡ kinds.OutOfMemory) ⊎ ((kind ≡ kinds.LineTooLong) × (longest_line < length line))
    → RefusesFirst ended fields (line ++ more) kind
unended_refused ended fields [] more kind one some why = absurd (some refl)
unended_refused ended fields (byte ∷ line) more kind one some why =
    let first = first_goes_on byte line more one in
    record {
      line = (byte ∷ line) ++ first.0;
      after = first.1;
      cut = first.2;
      said = elim why [
        | inl memory ↦ inl memory
        | inr long ↦ inr (
          LineTooLong,
          ap fault_in long.0,
          rw (lt-ltb longest_line (length ((byte ∷ line) ++ first.0))
              (omega (arith, long.1, length-append (byte ∷ line) first.0))) refl,
        )
      ];
    }

-- what is left has no line feed and is kept, so that all of the piece is taken
pub turn_all : {old now : Engine} (new : Engine) {piece rest : List ℕ} → PieceTurn old now piece rest → IsOneLine rest
    → new.partial.items ≡ now.partial.items ++ rest → fields_in new ≡ fields_in now
    → new.ended ≡ now.ended → new.line ≡ now.line → TakesAll old new piece
turn_all {now = now} new {rest = rest} turn one kept same ended counted = record {
  lines = turn.lines;
  over = record {
    each = turn.over.each;
    ran = turn.over.ran ∙ ap going_on (sym same);
    line = counted ∙ turn.over.line;
    ended = ended ∙ turn.over.ended;
    begun = subst IsOneLine (sym kept) (All-append IsNoEnd now.partial.items rest turn.over.begun one);
  };
  bytes = turn.bytes ∙ ap (λ l. whole_lines turn.lines ++ l) (sym kept);
  room = omega (arith, counted, turn.room);
}

-- fields, at least one, are one record
pub rest_some : (fields : List Field) → fields ≢ [] → rest_of fields ≡ fields ∷ []
rest_some [] some = absurd (some refl)
rest_some (field ∷ fields) some = refl

-- the record of these fields, or none, by `some`, which tells whether there is a field
pub rest_by : (some : Bool) (fields : List Field) → (some ≡ true → fields ≢ []) → (some ≡ false → fields ≡ [])
    → rest_of fields ≡ (if some then fields ∷ [] else [])
rest_by true fields has none = rest_some fields (has refl)
rest_by false fields has none = ap rest_of (none refl)
