-- A text is whole lines, the records of which were lent or read, and a rest (`Behind`). So the records, the fault and
-- the numbers of lines of the whole text follow from those of the rest: `JarReader` and `read_jar` need this after each
-- record.
use Rattle.std.proofs.Common.{◌≡◌, ◌∙◌, ◌++◌, ◌∷◌, ◌⊎◌, inl, inr, ℕ, List, [], false, refl, sym, ap, subst}
use Rattle.std.proofs.Common.{append_assoc, append-nil, length, ◌+◌, ◌≤◌, arith, length-append, Option}
use Rattle.std.specs.List.{AllByRecursion, filter, flat_map}
use Rattle.std.proofs.lemmas.Grind.{flat_map-append}
use Rattle.lt_jar.specs.Lines.{IsOneLine, lines_of, whole_lines, HoldsOfWhole}
use Rattle.lt_jar.specs.LineKinds.{Line, Separator}
use Rattle.lt_jar.specs.Records.{Field, HasRecords, Written, has_field, is_nonblank, lines_of_ended, lines_of_group, record_of, nonblank}
use Rattle.lt_jar.specs.Faults.{Fault, IsLineReached, IsTheFault, IsWrong, IsWrongAt, begun, is_inside}
use Rattle.lt_jar.specs.Lending.{AreEnded, CutsRecord, EndsRecord, IsSound, BreaksOff, IsCutShort}
use Rattle.lt_jar.proofs.GroupLemmas.{finished-going_of, past_ended, records_of, records_of-append}
use Rattle.lt_jar.proofs.ReadLemmas.{each_fault, nonblank-append}
use Rattle.lt_jar.proofs.TurnLemmas.{each-append, lines_of-whole, lines_of-whole_lines, rest_some, whole_joined, whole-append}
use Rattle.lt_jar.specs.LentSoFar.{HasLent}
use Rattle.lt_jar.specs.Sources.{IsFresh, LendsEnded, LendsLast, kept_in, lent_by, line_of_kept, record_in}
use Rattle.lt_jar.specs.declared.devices.Device.{Device}
use Rattle.lt_jar.specs.declared.sources.JarSource.{JarSource}
use Rattle.lt_jar.specs.Reading.{rest_of}
use Rattle.std.proofs.lemmas.List.{length-map}

-- where `y` is in two lists, one after the other: in `xs`, with `rest` behind it there, or in `ys`, with `more` before
-- it there
where_in : {A : Type 0} (xs ys front : List A) (y : A) (after : List A) → xs ++ ys ≡ front ++ y ∷ after
    → ((rest : List A) × (xs ≡ front ++ y ∷ rest)) ⊎ ((more : List A) × (front ≡ xs ++ more) × (ys ≡ more ++ y ∷ after))
where_in [] ys front y after e = inr (front, refl, e)
where_in (x ∷ xs) ys [] y after e = inl (xs, cc)
where_in (x ∷ xs) ys (b ∷ front) y after e =
    elim (where_in xs ys front y after (cc)) [
      | inl within ↦ inl (within.0, cc (within.1, e))
      | inr behind ↦ inr (behind.0, cc (behind.1, e), behind.2)
    ]

-- These whole lines, at the front of a text, have no fault, and each of their records is ended. There are `earlier`
-- records, and the next line has the number `line`.
pub record Behind (lines : List (List ℕ)) (records : List (List Field)) (earlier line : ℕ) : Type 0 where
  pub each : AllByRecursion IsOneLine lines
  pub ended : AreEnded lines records
  pub sound : IsSound 0 (whole_lines lines)
  pub counted : earlier ≡ length records
  pub line_is : line ≡ length lines + 1

-- at the start there are no lines and no records, and the next line is line 1
pub behind_none : Behind [] [] 0 1
behind_none = record {
  each = tt;
  ended = record { groups = []; lines_are = refl; records_are = refl };
  sound = λ fault number wrong. omega (arith, ap length wrong.all, length-append wrong.before (wrong.line ∷ wrong.after));
  counted = refl;
  line_is = refl;
}

-- a text that begins with lines as in `Behind` has these lines, and then those of the rest
pub lines_behind : {lines : List (List ℕ)} {records : List (List Field)} {earlier line : ℕ} {text : List ℕ} (rest : List
    ℕ) → Behind lines records earlier line → text ≡ whole_lines lines ++ rest → lines_of text ≡ lines ++ lines_of rest
lines_behind {lines} rest front bytes = ap lines_of bytes ∙ lines_of-whole lines rest front.each

-- a line has a fault behind lines as in `Behind` exactly if it has that fault in a text that comes after `earlier`
-- records
wrong_as : {lines : List (List ℕ)} {records : List (List Field)} {earlier at : ℕ} → Behind lines records earlier at
    → (before : List (List ℕ)) (line : List ℕ) (fault : Fault)
    → (IsWrong earlier fault before line → IsWrong 0 fault (lines ++ before) line)
    × (IsWrong 0 fault (lines ++ before) line → IsWrong earlier fault before line)
wrong_as {lines} {records} {earlier} front before line =
    let ended = front.ended in
    let inside = ap (is_inside false) (nonblank-append lines before ∙ ap (λ l. l ++ nonblank before) ended.lines_are)
    ∙ (past_ended ended.groups (nonblank before)).0 in
    let more = before ++ line ∷ [] in
    let begins = ap (λ l. begun false (nonblank l)) (append_assoc lines before (line ∷ []))
    ∙ ap (begun false) (nonblank-append lines more ∙ ap (λ l. l ++ nonblank more) ended.lines_are)
    ∙ (past_ended ended.groups (nonblank more)).1 in
    let long : length records ≡ length (filter has_field ended.groups) = ap length ended.records_are
    ∙ length-map (filter has_field ended.groups) record_of in
    each_fault (λ fault. (IsWrong earlier fault before line → IsWrong 0 fault (lines ++ before) line)
    × (IsWrong 0 fault (lines ++ before) line → IsWrong earlier fault before line))
    (λ w. w, λ w. w) (λ w. w, λ w. w) (λ w. (w.0, inside ∙ w.1), λ w. (w.0, sym inside ∙ w.1)) (λ w. w, λ w. w)
    (λ w. omega (arith, w, begins, long, front.counted), λ w. omega (arith, w, begins, long, front.counted))

-- what is wrong, at the line `at`, with a text that begins with lines as in `Behind` is wrong with the rest, at its
-- line k
pub wrong_is_behind : {lines : List (List ℕ)} {records : List (List Field)} {earlier line : ℕ} {text rest : List
    ℕ} {fault : Fault} {at : ℕ} → Behind lines records earlier line → text ≡ whole_lines lines ++ rest
    → IsWrongAt 0 text fault at
    → (k : ℕ) × (at + 1 ≡ line + k) × IsWrongAt earlier rest fault k
wrong_is_behind {lines} {rest = rest} {fault = fault} {at} front bytes wrong =
    elim (where_in lines _ wrong.before wrong.line wrong.after (sym (lines_behind rest front bytes) ∙ wrong.all)) [
      | inl within ↦ absurd (front.sound fault at
          (record {
            before = wrong.before;
            line = wrong.line;
            after = within.0;
            all = lines_of-whole_lines lines front.each ∙ within.1;
            counted = wrong.counted;
            wrong = wrong.wrong;
          }))
      | inr behind ↦
          let there = (wrong_as front behind.0 wrong.line fault).1 (subst (λ b. IsWrong 0 fault b wrong.line) behind.1 wrong.wrong) in (
            length behind.0 + 1,
            omega (arith, wrong.counted, front.line_is, ap length behind.1, length-append lines behind.0),
            record { before = behind.0; line = wrong.line; after = wrong.after; all = behind.2; counted = refl; wrong = there },
          )
    ]

-- a text that begins with lines as in `Behind` is sound if its rest is, which comes after `earlier` records
pub sound_on : {lines : List (List ℕ)} {records : List (List Field)} {earlier line : ℕ} {text rest : List ℕ}
    → Behind lines records earlier line → text ≡ whole_lines lines ++ rest → IsSound earlier rest → IsSound 0 text
sound_on front bytes sound = λ fault number wrong. let there = wrong_is_behind front bytes wrong in sound fault there.0 there.2

-- the fault of the rest behind lines as in `Behind` is that of the text, at a number that those lines raise
pub fault_on : {lines : List (List ℕ)} {records : List (List Field)} {earlier line : ℕ} {text rest : List ℕ} {fault
    : Fault} {number at : ℕ} → Behind lines records earlier line → text ≡ whole_lines lines ++ rest
    → IsTheFault earlier rest fault number → at + 1 ≡ line + number → IsTheFault 0 text fault at
fault_on {lines} {earlier = earlier} {rest = rest} {fault = fault} {number} {at} front bytes is count =
    let wrong = is.wrong in
    record {
      wrong = record {
        before = lines ++ wrong.before;
        line = wrong.line;
        after = wrong.after;
        all = lines_behind rest front bytes ∙ ap (λ l. lines ++ l) wrong.all
            ∙ sym (append_assoc lines wrong.before (wrong.line ∷ wrong.after));
        counted = omega (arith, count, front.line_is, wrong.counted, length-append lines wrong.before);
        wrong = (wrong_as front wrong.before wrong.line fault).0 wrong.wrong;
      };
      lowest = λ other here w. let there = wrong_is_behind front bytes w in omega (arith, there.1, count, is.lowest other there.0 there.2);
      first = λ other w.
          let there = wrong_is_behind front bytes w in
          let same : there.0 ≡ number = omega (arith, there.1, count) in
          is.first other (subst (IsWrongAt earlier rest other) same there.2);
    }

-- a line that is reached in the rest behind lines as in `Behind` is reached in the text
pub reached_on : {lines : List (List ℕ)} {records : List (List Field)} {earlier line : ℕ} {text rest : List ℕ} {number
    at : ℕ} → Behind lines records earlier line → text ≡ whole_lines lines ++ rest
    → IsLineReached earlier rest number → at + 1 ≡ line + number → IsLineReached 0 text at
reached_on {lines} {rest = rest} front bytes is count = record {
  from = omega (arith, is.from, count, front.line_is);
  to = omega (arith, is.to, count, front.line_is, ap length (lines_behind rest front bytes), length-append lines (lines_of rest));
  clean = λ other here wrong. let there = wrong_is_behind front bytes wrong in
      omega (arith, there.1, count, is.clean other there.0 there.2);
}

-- two lists of lines whose records are ended have, one after the other, the records of both
ended-append : (xs ys : List (List ℕ)) (first second : List (List Field)) → AreEnded xs first → AreEnded ys second
    → AreEnded (xs ++ ys) (first ++ second)
ended-append xs ys first second ended more = record {
  groups = ended.groups ++ more.groups;
  lines_are = cc (nonblank-append xs ys, flat_map-append lines_of_ended ended.groups more.groups);
  records_are = cc (records_of-append ended.groups more.groups);
}

-- lines that are all separators are the lines of groups without a field
empty_groups : (skipped : List Line) → AllByRecursion (λ line. line ≡ Separator) skipped
    → (groups : List (List Written)) × (skipped ≡ flat_map lines_of_ended groups) × (records_of groups ≡ [])
empty_groups [] each = ([], refl, refl)
empty_groups (line ∷ skipped) each = let rest = empty_groups skipped each.1 in ([] ∷ rest.0, cc (each.0, rest.1), rest.2)

-- lines whose last is the separator that ends a record are the lines of that one record
one_ended : (lines : List (List ℕ)) (fields : List Field) → EndsRecord lines fields → AreEnded lines (fields ∷ [])
one_ended lines fields ends =
    let gathers = ends.gathers in
    let empty = empty_groups gathers.skipped gathers.separators in
    let separator : nonblank (ends.last ∷ []) ≡ Separator ∷ [] = ap (λ k. filter is_nonblank (k ∷ [])) ends.separator in
    record {
      groups = empty.0 ++ gathers.group ∷ [];
      lines_are = simp (flat_map-append, append-nil)
          (cc (
            nonblank-append ends.before (ends.last ∷ []),
            separator,
            append_assoc gathers.skipped
                (lines_of_group gathers.group) (Separator ∷ []),
            empty.1,
          ));
      records_are = cc (
        rest_some fields ends.some,
        ap rest_of gathers.fields_are,
        finished-going_of [] gathers.group,
        empty.2,
        records_of-append empty.0 (gathers.group ∷ []),
      );
    }

-- one record more is cut from the rest behind lines as in `Behind`: its lines join those, and it joins their records
pub behind_more : {lines more : List (List ℕ)} {records : List (List Field)} {fields : List Field} {earlier line
    earlier' line' : ℕ} {text rest : List ℕ} → Behind lines records earlier line
    → CutsRecord earlier text fields more rest
    → earlier' ≡ earlier + 1 → line' ≡ line + length more → Behind (lines ++ more) (records ++ fields ∷ []) earlier' line'
behind_more {lines} {more} {records} {fields} front cuts one longer = record {
  each = each-append lines more front.each cuts.each;
  ended = ended-append lines more records (fields ∷ []) front.ended (one_ended more fields cuts.ends);
  sound = sound_on front (whole-append lines more) cuts.sound;
  counted = omega (arith, one, front.counted, length-append records (fields ∷ []));
  line_is = omega (arith, longer, front.line_is, length-append lines more);
}

-- a text that begins with lines as in `Behind` has their records, and then those of the rest
pub records_on : {lines : List (List ℕ)} {records more : List (List Field)} {earlier line : ℕ} {text rest : List ℕ}
    → Behind lines records earlier line → text ≡ whole_lines lines ++ rest → HasRecords rest more
    → HasRecords text (records ++ more)
records_on {lines} {records} {more} {rest = rest} front bytes has =
    let ended = front.ended in
    record {
      ended = ended.groups ++ has.ended;
      last = has.last;
      lines = simp (flat_map-append, append_assoc)
          (cc (lines_behind rest front bytes, nonblank-append lines (lines_of rest), ended.lines_are));
      all = cc (records_of-append ended.groups (has.ended ++ has.last ∷ []), append_assoc ended.groups has.ended (has.last ∷ []));
    }

-- lines in which a record begins are at least one line
pub some_lines : (lines : List (List ℕ)) → 1 ≤ begun false (nonblank lines) → 1 ≤ length lines
some_lines [] some = omega (arith, some)
some_lines (line ∷ lines) some = omega arith

-- what a source has lent is lines as in `Behind`, before the bytes that it keeps
front_of : {bytes : List ℕ} {records : List (List Field)} {s : JarSource} → (lent : HasLent bytes records s)
    → Behind lent.lines records (lent_by s) (line_of_kept s)
front_of lent = record { each = lent.each; ended = lent.ended; sound = lent.sound; counted = lent.counted; line_is = lent.line }

-- the bytes so far and those of a call are the lines that were lent, the bytes that were kept, and those read
text_is : {bytes : List ℕ} {records : List (List Field)} {s : JarSource} (read : List ℕ)
    → (lent : HasLent bytes records s) → bytes ++ read ≡ whole_lines lent.lines ++ (kept_in s ++ read)
text_is {s} read lent = ap (λ l. l ++ read) lent.bytes_are ∙ append_assoc (whole_lines lent.lines) (kept_in s) read

-- nothing is lent at the start
pub lent_start : {s : JarSource} → IsFresh s → HasLent [] [] s
lent_start fresh = record {
  lines = [];
  each = tt;
  bytes_are = sym fresh.kept;
  ended = behind_none.ended;
  sound = behind_none.sound;
  counted = fresh.lent;
  line = fresh.line;
}

-- after a call that lends a record that a separator ends, one record more is lent
pub lent_more : {R : Type 0} {bytes read : List ℕ} {records : List (List Field)} {old new : JarSource} {before after
    : Device R} {reads : ℕ} → HasLent bytes records old → LendsEnded old new before after read reads
    → lent_by new ≡ lent_by old + 1
    → HasLent (bytes ++ read) (records ++ record_in new ∷ []) new
lent_more {bytes} {read} {old = old} {new} lent lends count =
    let front = behind_more (front_of lent) lends.cuts count lends.line in
    record {
      lines = lent.lines ++ lends.lines;
      each = front.each;
      bytes_are = whole_joined (bytes ++ read) (kept_in old ++ read) (kept_in new) lent.lines lends.lines
          (text_is read lent) lends.cuts.bytes;
      ended = front.ended;
      sound = front.sound;
      counted = front.counted;
      line = front.line_is;
    }

-- the text ended: the records that were lent before, and `more`, are all that it has, and nothing is wrong with it
pub lent_last : {R : Type 0} {remaining : R → Option (List ℕ)} {bytes read : List ℕ} {records more : List
    (List Field)} {old new : JarSource} {after : Device R} → HasLent bytes records old
    → LendsLast remaining old new after read more → HasRecords (bytes ++ read) (records ++ more) × IsSound 0 (bytes ++ read)
lent_last {read = read} lent lends = (
  records_on (front_of lent) (text_is read lent) lends.has,
  sound_on (front_of lent) (text_is read lent) lends.sound,
)

-- the fault that a call finds in the bytes since the last record is the fault of the whole text, at the number that
-- the source tells
pub lent_fault : {bytes : List ℕ} {records : List (List Field)} {old : JarSource} {fault : Fault} {number : ℕ} {ended
    : Type 0} (read : List ℕ) (new : JarSource) → HasLent bytes records old
    → HoldsOfWhole (λ text. IsTheFault (lent_by old) text fault number) ended (kept_in old ++ read)
    → line_of_kept new + 1 ≡ line_of_kept old + number
    → HoldsOfWhole (λ text. IsTheFault 0 text fault (line_of_kept new)) ended (bytes ++ read)
lent_fault {bytes} {old = old} read new lent is line =
    elim is [
      | inl each ↦ inl (λ more.
          let text = ap (λ l. l ++ more) (text_is read lent) ∙ append_assoc (whole_lines lent.lines) (kept_in old ++ read) more in
          fault_on (front_of lent) text (each more) line)
      | inr over ↦ inr (over.0, fault_on (front_of lent) (text_is read lent) over.1 line)
    ]

-- the line that a call reached, counted from the last record, is a line that is reached in the whole text
pub lent_reached : {bytes : List ℕ} {records : List (List Field)} {old : JarSource} {number : ℕ} (read : List ℕ) (new
    : JarSource) → HasLent bytes records old → IsLineReached (lent_by old) (kept_in old ++ read) number
    → line_of_kept new + 1 ≡ line_of_kept old + number → IsLineReached 0 (bytes ++ read) (line_of_kept new)
lent_reached read new lent is line = reached_on (front_of lent) (text_is read lent) is line

-- where the bytes since the last record are cut short, the whole text breaks off, in the same line
pub lent_cut : {bytes : List ℕ} {records : List (List Field)} {old : JarSource} {number : ℕ} (read : List ℕ) (new
    : JarSource) → HasLent bytes records old → IsCutShort (lent_by old) (kept_in old ++ read) number
    → line_of_kept new + 1 ≡ line_of_kept old + number → BreaksOff 0 (bytes ++ read) (line_of_kept new)
lent_cut {bytes} {records} {old} read new lent cut line = record {
  ended = lent.lines;
  records = records;
  are_ended = lent.ended;
  more = cut.lines;
  fields = cut.fields;
  gathers = cut.gathers;
  each = each-append lent.lines cut.lines lent.each cut.each;
  rest = cut.rest;
  one = cut.one;
  short = cut.short;
  bytes = whole_joined (bytes ++ read) (kept_in old ++ read) cut.rest lent.lines cut.lines (text_is read lent) cut.bytes;
  sound = sound_on (front_of lent) (whole-append lent.lines cut.lines) cut.sound;
  counted = omega (arith, line, lent.line, cut.counted, length-append lent.lines cut.lines);
}
