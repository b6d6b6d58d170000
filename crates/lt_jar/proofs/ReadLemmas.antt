-- What `take_line` computes of a line is right: no fault, or the first of its faults. So a text has records and keeps
-- the limits, or it has one fault, and never both. `HasRead` says what is known once the first lines of a text are
-- read.
use Rattle.std.proofs.Common.{◌≡◌, ◌∙◌, ◌++◌, ◌∷◌, ◌⊎◌, inl, inr, ℕ, List, [], Bool, true, false, Result, Ok, Err, refl}
use Rattle.std.proofs.Common.{sym, ap, subst, append_assoc, append-nil, map, nat_lt, length, get_or, ◌+◌, ◌<◌, ◌≤◌}
use Rattle.std.proofs.Common.{arith, MatchResult, length-append}
use Rattle.std.specs.List.{All, filter}
use Rattle.std.specs.Str.{IsUtf8, is_utf8}
use Rattle.std.proofs.Math.Seq.{drop-append_seam, take-append_seam}
use Rattle.std.proofs.lemmas.Str.{IsUtf8-from_is_utf8, is_utf8-from_IsUtf8}
use Rattle.std.proofs.lemmas.Bool.{both_ways, cases_lt, cond_both, ltb-false, ltb-true, true_from_ne_false}
use Rattle.std.proofs.lemmas.List.{length-map, map-append}
use Rattle.std.proofs.lemmas.List.Elements.{All-cons, All-drop, All-head, All-nil, filter-append}
use Rattle.lt_jar.specs.Lines.{lines_of}
use Rattle.lt_jar.specs.LineKinds.{Line, Blank, Separator, Continuation, Start, Bad, line_of}
use Rattle.lt_jar.specs.Limits.{longest_line, most_records}
use Rattle.lt_jar.specs.Records.{Field, HasRecords, IsWithin, Written, field_of, has_field, is_nonblank, lines_of_group, nonblank}
use Rattle.lt_jar.specs.Faults.{Fault, LineTooLong, NotUtf8, LeadingContinuation, BadLine, TooManyRecords, IsTheFault}
use Rattle.lt_jar.specs.Faults.{IsWrong, IsWrongAt, begun, is_continuation, is_inside, rank}
use Rattle.lt_jar.specs.Reading.{Going, Taken, finished, on_taken, start, step, take_kind, take_line}
use Rattle.lt_jar.specs.Lending.{IsSound}
use Rattle.lt_jar.proofs.GroupLemmas.{Leaves, Makes, begun-append, begun-groups, finished-going_of, fits, fits-behind}
use Rattle.lt_jar.proofs.GroupLemmas.{leaves_more, one_list, past_ended, past_last, records_of}

-- two lists of lines, one after the other, have the nonblank lines of the first and then those of the second
pub nonblank-append : (xs ys : List (List ℕ)) → nonblank (xs ++ ys) ≡ nonblank xs ++ nonblank ys
nonblank-append xs ys = ap (filter is_nonblank) (map-append line_of xs ys) ∙ filter-append is_nonblank (map line_of xs) (map line_of ys)

-- what is true of each of the five faults is true of any
pub each_fault : (P : Fault → Type 0) → P LineTooLong → P NotUtf8 → P LeadingContinuation → P BadLine → P TooManyRecords
    → (fault : Fault) → P fault
each_fault P long text leading bad many LineTooLong = long
each_fault P long text leading bad many NotUtf8 = text
each_fault P long text leading bad many LeadingContinuation = leading
each_fault P long text leading bad many BadLine = bad
each_fault P long text leading bad many TooManyRecords = many

-- What is said of a line is right. Where it was taken, it has no fault, and the records stay within their limit. Where
-- a fault is answered, the line has it, and no fault of a lower rank.
abbrev Judges : ℕ → List (List ℕ) → List ℕ → Result Taken Fault → Type 0
Judges earlier before line said = MatchResult said
    (λ taken. ((other : Fault) → IsWrong earlier other before line → ⊥)
    × (earlier + begun false (nonblank (before ++ line ∷ [])) ≤ most_records))
    (λ fault. IsWrong earlier fault before line × ((other : Fault) → IsWrong earlier other before line → rank fault ≤ rank other))

-- a line that is UTF-8 and not too long, after lines in which no more records began than may; `count` of those records
-- have ended
module _ (earlier : ℕ) (before : List (List ℕ)) (line : List ℕ) (count : ℕ) (short : length line ≤ longest_line)
    (utf8 : IsUtf8 line) (few : earlier + begun false (nonblank before) ≤ most_records) where
  -- How many records begin with the line: those of the lines before, and one more if the line begins one. k is its
  -- kind, and b tells whether a record goes on before it.
  added : (b : Bool) (k : Line) → is_inside false (nonblank before) ≡ b → line_of line ≡ k
      → begun false (nonblank (before ++ line ∷ [])) ≡ begun false (nonblank before)
      + begun b (filter is_nonblank (k ∷ []))
  added b k at so = rw (← at, ← so) (ap (begun false) (nonblank-append before (line ∷ []))
      ∙ begun-append false (nonblank before) (nonblank (line ∷ [])))

  -- a line of the kind k has no fault where it is no continuation without a field, is not bad, and no more records
  -- have begun with it than may
  calm : (k : Line) → line_of line ≡ k → (is_continuation k ≡ true → is_inside false (nonblank before) ≡ true)
      → (k ≡ Bad → ⊥) → earlier + begun false (nonblank (before ++ line ∷ [])) ≤ most_records
      → ((other : Fault) → IsWrong earlier other before line → ⊥) × (earlier + begun false (nonblank (before ++ line ∷ [])) ≤ most_records)
  calm k so goes good room = (
    each_fault (λ other. IsWrong earlier other before line → ⊥) (λ w. omega arith)
        (λ w. w utf8) (λ w. both_ways _ w.1 (goes (sym (ap is_continuation so) ∙ w.0))) (λ w. good (sym so ∙ w))
        (λ w. omega arith),
    room,
  )

  -- Each fault of the line has at least the rank n, which is at most the greatest rank. This is asked of two faults: a
  -- continuation without a field, and a bad line.
  least : (n : ℕ) → (IsWrong earlier LeadingContinuation before line → n ≤ 2)
      → (IsWrong earlier BadLine before line → n ≤ 3) → n ≤ 4 → (other : Fault) → IsWrong earlier other before line
      → n ≤ rank other
  least n leading bad any = each_fault (λ other. IsWrong earlier other before line → n ≤ rank other)
      (λ w. absurd (omega arith)) (λ w. absurd (w utf8)) leading bad (λ w. any)

  -- what `take_kind` answers to the kind k of the line is right, where l is the group of fields that goes on before it
  kind_judges : (l : List Written) (k : Line) → is_inside false (nonblank before) ≡ has_field l
      → begun false (nonblank before) ≡ count + length (filter has_field (l ∷ [])) → line_of line ≡ k
      → Judges earlier before line (take_kind (earlier + count) (map field_of l) k)
  kind_judges l Blank at sum so = calm Blank so (λ m. cc) (λ m. cc) (omega (arith, added (has_field l) Blank at so))
  kind_judges [] Separator at sum so = calm Separator so (λ m. cc) (λ m. cc) (omega (arith, added false Separator at so))
  kind_judges (field ∷ l) Separator at sum so = calm Separator so (λ m. cc) (λ m. cc) (omega (arith, added true Separator at so))
  kind_judges [] (Continuation text) at sum so = ((ap is_continuation so, at), least 2 (λ w. omega arith) (λ w. omega arith) (omega arith))
  kind_judges (field ∷ l) (Continuation text) at sum so = calm (Continuation text) so (λ m. at) (λ m. cc)
      (omega (arith, added true (Continuation text) at so))
  kind_judges [] (Start name body) at sum so =
      let more = added false (Start name body) at so in
      cond_both (nat_lt (earlier + count) most_records) _ _ (Judges earlier before line)
      (λ below. calm (Start name body) so (λ m. cc) (λ m. cc) (omega (arith, more, sum, ltb-true _ _ below)))
      (λ full. (
        omega (arith, more, sum, ltb-false _ _ full),
        least 4 (λ w. let no = sym (ap is_continuation so)
            ∙ w.0 in cc) (λ w. let no = sym so ∙ w in cc) (omega arith),
      ))
  kind_judges (field ∷ l) (Start name body) at sum so = calm (Start name body) so (λ m. cc) (λ m. cc)
      (omega (arith, added true (Start name body) at so))
  kind_judges l Bad at sum so = (so, least 3 (λ w. let no = sym (ap is_continuation so) ∙ w.0 in cc) (λ w. omega arith) (omega arith))

-- P is true of what `take_line` answers if it is true in each case: the line is too long, or short and UTF-8, or short
-- and not UTF-8
pub by_test : (ended : ℕ) (fields : List Field) (line : List ℕ) (P : Result Taken Fault → Type 0)
    → (longest_line < length line → P (Err LineTooLong))
    → (length line ≤ longest_line → IsUtf8 line → P (take_kind ended fields (line_of line)))
    → (length line ≤ longest_line → (IsUtf8 line → ⊥) → P (Err NotUtf8)) → P (take_line ended fields line)
by_test ended fields line P long text other = cond_both (nat_lt longest_line (length line)) _ _ P
    (λ is. long (ltb-true _ _ is)) (λ low. cond_both (is_utf8 line) _ _ P
    (λ is. text (ltb-false _ _ low) (IsUtf8-from_is_utf8 line is))
    (λ no. other (ltb-false _ _ low) (λ utf8. both_ways _ no (is_utf8-from_IsUtf8 line utf8))))

-- what `take_line` answers to a line is right, after lines that leave the reading `going`
judges : (earlier : ℕ) (before : List (List ℕ)) (line : List ℕ) (going : Going) → Leaves (nonblank before) going
    → earlier + begun false (nonblank before) ≤ most_records
    → Judges earlier before line (take_line (earlier + length going.records) going.fields line)
judges earlier before line going leaves few =
    let inside = ap (is_inside false) leaves.lines_are ∙ (past_ended leaves.ended (lines_of_group leaves.last)).0
    ∙ (past_last leaves.last).0 in
    let count : begun false (nonblank before) ≡ length (records_of leaves.ended) + length (filter has_field (leaves.last ∷ [])) =
    ap (begun false) leaves.lines_are ∙ begun-groups leaves.ended leaves.last ∙ simp (filter-append, length-map, length-append) in
    rw leaves.going_is (by_test _ _ line (Judges earlier before line) (λ long. (long, λ other wrong. omega arith))
    (λ short utf8. kind_judges earlier before line (length (records_of leaves.ended)) short utf8 few leaves.last
    (line_of line) inside count refl)
    (λ short not. (
      not,
      each_fault (λ other. IsWrong earlier other before line → 1 ≤ rank other)
          (λ w. absurd (omega arith)) (λ w. omega arith) (λ w. omega arith) (λ w. omega arith) (λ w. omega arith),
    )))

-- the first `number` lines of the text, which comes after `earlier` records, are read without a fault, and left the
-- reading `going`; `left` are the others
pub record HasRead (earlier : ℕ) (text : List ℕ) (number : ℕ) (left : List (List ℕ)) (going : Going) : Type 0 where
  pub before : List (List ℕ)
  pub all : lines_of text ≡ before ++ left
  pub counted : number ≡ length before
  pub leaves : Leaves (nonblank before) going
  pub few : earlier + begun false (nonblank before) ≤ most_records
  pub clean : (other : Fault) (at : ℕ) → IsWrongAt earlier text other at → number < at

-- at first no line is read, and all are left
pub read_none : (earlier : ℕ) (text : List ℕ) → earlier ≤ most_records → HasRead earlier text 0 (lines_of text) start
read_none earlier text few = record {
  before = [];
  all = refl;
  counted = refl;
  leaves = record { ended = []; last = []; lines_are = refl; going_is = refl };
  few = omega arith;
  clean = λ other at wrong. omega (arith, wrong.counted);
}

-- a fault at the number of the line behind those of `before` is a fault of that line
wrong_there : (earlier : ℕ) (text : List ℕ) (before : List (List ℕ)) (line : List ℕ) (after : List (List ℕ)) (other
    : Fault) (at : ℕ) → lines_of text ≡ before ++ line ∷ after → IsWrongAt earlier text other at
    → at ≡ length before + 1 → IsWrong earlier other before line
wrong_there earlier text before line after other at all wrong here =
    let long : length wrong.before ≡ length before = omega (arith, wrong.counted) in
    let same : wrong.before ≡ before = cc (
      take-append_seam wrong.before (wrong.line ∷ wrong.after),
      take-append_seam before (line ∷ after),
      wrong.all,
      all,
      long,
    ) in
    let rest : wrong.line ∷ wrong.after ≡ line ∷ after = cc (
      drop-append_seam wrong.before (wrong.line ∷ wrong.after),
      drop-append_seam before (line ∷ after),
      wrong.all,
      all,
      long,
    ) in
    let first : wrong.line ≡ line = cc in
    subst (λ l. IsWrong earlier other before l) first (subst (λ b. IsWrong earlier other b wrong.line) same wrong.wrong)

-- a proof of X from a result of which P or Q is true: it is proved both if the result is Ok and if it is Err
pub by_result : {A E X : Type 0} {P : A → Type 0} {Q : E → Type 0} (r : Result A E) → MatchResult r P Q
    → ((x : A) → r ≡ Ok x → P x → X) → ((e : E) → r ≡ Err e → Q e → X) → X
by_result (Ok x) found ok err = ok x refl found
by_result (Err e) found ok err = err e refl found

-- one line more: either it is read, or its fault is the fault of the text
pub read_step : (earlier : ℕ) (text : List ℕ) (number : ℕ) (going : Going) (line : List ℕ) (after : List (List ℕ))
    → HasRead earlier text number (line ∷ after) going
    → MatchResult (step earlier going line) (λ new. HasRead earlier text (number + 1) after new) (λ fault. IsTheFault
    earlier text fault (number + 1))
read_step earlier text number going line after read =
    let n = earlier + length going.records in
    by_said (take_line n going.fields line) (judges earlier read.before line going read.leaves read.few)
    (by_test n going.fields line (Makes (nonblank read.before ++ nonblank (line ∷ [])) going) (λ long. tt)
    (λ short utf8. leaves_more (nonblank read.before) going (line_of line) n read.leaves) (λ short not. tt))
  where
    there : (other : Fault) (at : ℕ) → IsWrongAt earlier text other at → at ≡ number + 1 → IsWrong earlier other read.before line
    there other at wrong here = wrong_there earlier text read.before line after other at read.all wrong (omega (arith, here, read.counted))

    by_said : (said : Result Taken Fault) → Judges earlier read.before line said
        → Makes (nonblank read.before ++ nonblank (line ∷ [])) going said
        → MatchResult (on_taken going said) (λ new. HasRead earlier text (number + 1) after new) (λ fault. IsTheFault
        earlier text fault (number + 1))
    by_said (Ok taken) judged leaves = record {
      before = read.before ++ line ∷ [];
      all = read.all ∙ sym (append_assoc read.before (line ∷ []) after);
      counted = omega (arith, read.counted, length-append read.before (line ∷ []));
      leaves = rw nonblank-append leaves;
      few = judged.1;
      clean = λ other at wrong. elim (cases_lt (number + 1) at) [
        | inl below ↦ below
        | inr above ↦ absurd (judged.0 other (there other at wrong (omega (arith, above, read.clean other at wrong))))
      ];
    }
    by_said (Err fault) judged leaves = record {
      wrong = record {
        before = read.before;
        line = line;
        after = after;
        all = read.all;
        counted = ap (λ k. k + 1) read.counted;
        wrong = judged.0;
      };
      lowest = λ other at wrong. omega (arith, read.clean other at wrong);
      first = λ other wrong. judged.1 other (there other (number + 1) wrong refl);
    }

-- the records that are read, the last one among them, are no more than may be
pub few_at : (earlier : ℕ) (text : List ℕ) (number : ℕ) (left : List (List ℕ)) (going : Going)
    → HasRead earlier text number left going → earlier + length (finished going) ≤ most_records
few_at earlier text number left going read =
    let leaves = read.leaves in
    let records = ap finished leaves.going_is ∙ finished-going_of leaves.ended leaves.last in
    omega (arith, ap length records, ap (begun false) leaves.lines_are ∙ begun-groups leaves.ended leaves.last, read.few)

-- where all lines are read, the reading's records are those of the text, and nothing is wrong with it
pub records_at_end : (earlier : ℕ) (text : List ℕ) (number : ℕ) (going : Going) → HasRead earlier text number [] going
    → HasRecords text (finished going) × IsSound earlier text
records_at_end earlier text number going read =
    let all = read.all ∙ append-nil read.before in
    let leaves = read.leaves in (
      record {
        ended = leaves.ended;
        last = leaves.last;
        lines = ap nonblank all ∙ leaves.lines_are;
        all = ap finished leaves.going_is ∙ finished-going_of leaves.ended leaves.last;
      },
      λ fault at wrong. omega (
        arith,
        read.clean fault at wrong,
        ap length (sym all ∙ wrong.all),
        length-append wrong.before (wrong.line ∷ wrong.after),
        wrong.counted,
        read.counted,
      ),
    )

-- what is true of an element wherever it stands in a list is true of all
all_of : {A : Type 0} (P : A → Type 0) (xs : List A)
    → ((front : List A) (x : A) (after : List A) → xs ≡ front ++ x ∷ after → P x) → All P xs
all_of P [] each = All-nil P
all_of P (x ∷ xs) each = All-cons P x xs (each [] x xs refl)
    (all_of P xs (λ front y after is. each (x ∷ front) y after (ap (λ l. x ∷ l) is)))

-- from any point on, a text is read to its end, or it has a fault
read_all : (text : List ℕ) (number : ℕ) (left : List (List ℕ)) (going : Going) → HasRead 0 text number left going
    → ((n : ℕ) × ((end : Going) × HasRead 0 text n [] end)) ⊎ ((fault : Fault) × ((at : ℕ) × IsTheFault 0 text fault at))
read_all text number [] going read = inl (number, (going, read))
read_all text number (line ∷ left) going read =
    by_result (step 0 going line) (read_step 0 text number going line left read)
    (λ new is next. read_all text (number + 1) left new next) (λ fault is found. inr (fault, (number + 1, found)))

-- as many records begin in a text as it has
pub count_of : (text : List ℕ) (records : List (List Field)) → HasRecords text records
    → begun false (nonblank (lines_of text)) ≡ length records
count_of text records has = ap (begun false) has.lines ∙ begun-groups has.ended has.last ∙ sym (ap length has.all)

-- a text that has these records, and with which nothing is wrong, keeps the limits
pub within_of : (text : List ℕ) (records : List (List Field)) → HasRecords text records → IsSound 0 text → IsWithin text records
within_of text records has sound = record {
  short = all_of (λ line. length line ≤ longest_line) (lines_of text) (λ front line after is.
      elim (cases_lt longest_line (length line)) [
        | inl long ↦ absurd
            (sound LineTooLong _
            (record { before = front; line = line; after = after; all = is; counted = refl; wrong = long }))
        | inr short ↦ short
      ]);
  utf8 = all_of IsUtf8 (lines_of text) (λ front line after is. IsUtf8-from_is_utf8 line (true_from_ne_false (is_utf8 line) (λ no.
      sound NotUtf8 _
      (record {
        before = front;
        line = line;
        after = after;
        all = is;
        counted = refl;
        wrong = λ utf8. both_ways _ no
            (is_utf8-from_IsUtf8 line utf8);
      }))));
  few = elim (read_all text 0 (lines_of text) _ (read_none 0 text (omega arith))) [
    | inl read ↦ omega (
      arith,
      few_at 0 text _ [] read.1.0 read.1.1,
      ap length (one_list text records _ has (records_at_end 0 text _ read.1.0 read.1.1).0),
    )
    | inr fault ↦ absurd (sound fault.0 fault.1.0 fault.1.1.wrong)
  ];
}

-- what is true of all lines is true of the one between others
all_at : (P : List ℕ → Type 0) (before : List (List ℕ)) (line : List ℕ) (after : List (List ℕ)) → All P (before ++ line ∷ after) → P line
all_at P before line after all = All-head P line after
    (subst (All P) (drop-append_seam before (line ∷ after)) (All-drop P (length before) (before ++ line ∷ after) all))

-- a continuation line, at the front where no record goes on, does not fit
misfit : (kind : Line) (kinds : List Line) → is_continuation kind ≡ true → fits false (filter is_nonblank (kind ∷ kinds)) ≡ true → ⊥
misfit Blank kinds is fit = cc
misfit Separator kinds is fit = cc
misfit (Continuation text) kinds is fit = cc
misfit (Start name body) kinds is fit = cc
misfit Bad kinds is fit = cc

-- with a text that has these records and keeps the limits, nothing is wrong
pub nothing_wrong_at : (text : List ℕ) (records : List (List Field)) → HasRecords text records → IsWithin text records
    → (fault : Fault) (number : ℕ) → IsWrongAt 0 text fault number → ⊥
nothing_wrong_at text records has within fault number wrong =
    let front = wrong.before in
    let line = wrong.line in
    let behind = fits-behind false (nonblank front) (nonblank (line ∷ wrong.after))
    (ap (fits false) (sym (nonblank-append front (line ∷ wrong.after)) ∙ ap nonblank (sym wrong.all) ∙ has.lines)
    ∙ (past_ended has.ended (lines_of_group has.last)).2 ∙ (past_last has.last).2) in
    each_fault (λ f. IsWrong 0 f front line → ⊥)
    (λ w. omega (
      arith,
      w,
      all_at (λ l. length l ≤ longest_line) front line wrong.after
          (subst (All (λ l. length l ≤ longest_line)) wrong.all within.short),
    ))
    (λ w. w (all_at IsUtf8 front line wrong.after (subst (All IsUtf8) wrong.all within.utf8)))
    (λ w. misfit (line_of line) (map line_of wrong.after) w.0 (subst (λ b. fits b (nonblank (line ∷ wrong.after)) ≡ true) w.1 behind))
    (λ w. let bad = subst
    (λ k. fits (is_inside false (nonblank front)) (filter is_nonblank (k ∷ map line_of wrong.after)) ≡ true) w
    behind in cc)
    (λ w.
    let split = ap nonblank (wrong.all ∙ sym (append_assoc front (line ∷ []) wrong.after))
    ∙ nonblank-append (front ++ line ∷ []) wrong.after in
    omega (
      arith,
      w,
      ap (begun false) split ∙ begun-append false (nonblank (front ++ line ∷ [])) (nonblank wrong.after),
      count_of text records has,
      within.few,
    )) fault wrong.wrong

-- the fault of a rank: ranks count from 0 in the order of this list
abbrev of_rank : ℕ → Fault
of_rank n = get_or (LineTooLong ∷ NotUtf8 ∷ LeadingContinuation ∷ BadLine ∷ TooManyRecords ∷ []) n LineTooLong

-- a text has one fault at most, at one line
pub same_fault : (earlier : ℕ) (text : List ℕ) (a b : Fault) (m n : ℕ) → IsTheFault earlier text a m
    → IsTheFault earlier text b n → (a ≡ b) × (m ≡ n)
same_fault earlier text a b m n first second =
    let line : m ≡ n = omega (arith, first.lowest b n second.wrong, second.lowest a m first.wrong) in
    let same : rank a ≡ rank b =
    omega (
      arith,
      first.first b (subst (IsWrongAt earlier text b) (sym line) second.wrong),
      second.first a (subst (IsWrongAt earlier text a) line first.wrong),
    ) in
    let back = each_fault (λ f. of_rank (rank f) ≡ f) refl refl refl refl refl in
    (sym (back a) ∙ ap of_rank same ∙ back b, line)

-- a text has records and keeps the limits, or it has a fault
pub decided : (text : List ℕ) → ((records : List (List Field)) × HasRecords text records × IsWithin text records)
    ⊎ ((fault : Fault) × ((number : ℕ) × IsTheFault 0 text fault number))
decided text = elim (read_all text 0 (lines_of text) _ (read_none 0 text (omega arith))) [
  | inl read ↦ let end = records_at_end 0 text _ read.1.0 read.1.1 in
      inl (finished read.1.0, end.0, within_of text (finished read.1.0) end.0 end.1)
  | inr fault ↦ inr fault
]
