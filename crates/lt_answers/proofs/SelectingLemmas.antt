-- Lemmas for `select_lines`: a run over a text that answers each line by itself or by nothing writes the lines that are
-- selected, and counts them.
use Rattle.std.proofs.Common.{◌≡◌, ◌≤◌, ◌+◌, ◌++◌, ◌∷◌, ◌∙◌, inl, inr, ℕ, List, [], Bool, true, false, Option, Result}
use Rattle.std.proofs.Common.{Ok, Err, length, take, sym, ap, refl, subst, arith, append-nil, length-append, take_all}
use Rattle.lt_jar.specs.Lines.{whole_lines}
use Rattle.lt_jar.specs.declared.devices.Device.{Device}
use Rattle.lt_jar.proofs.TurnLemmas.{whole-append}
use Rattle.lt_stream.specs.Lines as stream
use Rattle.lt_stream.specs.Texts.{EndsAfterMark, RunsOverText}
use Rattle.lt_stream.specs.declared.faults.ToolFault.{ToolFault}
use Rattle.lt_stream.specs.declared.faults.ToolFault.TheVariants as faults
use Rattle.lt_answers.specs.Selecting.{EndsAs, SelectsLines}
use Rattle.lt_answers.specs.Selection.{AreOwed, AreSelected, IsBegun, IsOwedToLastFeed, Selection, longest_kept}
use Rattle.lt_answers.proofs.MatchedLemmas.{TellsByFront}
use Rattle.lt_answers.proofs.SelectionLemmas.{selected_no, selected_yes}

-- no more lines are selected than there are
few_selected : (P : Selection) (lines selected : List (List ℕ)) → AreSelected P lines selected → length selected ≤ length lines
few_selected P [] selected none = omega (arith, ap length none)
few_selected P (line ∷ lines) selected (inl (is, rest, split, are)) = omega (arith, ap length split, few_selected P lines rest are)
few_selected P (line ∷ lines) selected (inr (not, are)) = omega (arith, few_selected P lines selected are)

-- no more lines are counted as selected than there are
pub owed_few : (P : Selection) (lines : List (List ℕ)) (bytes : List ℕ) (count : ℕ) → AreOwed P lines bytes count → count ≤ length lines
owed_few P lines bytes count o = omega (arith, o.counted, few_selected P lines o.selected o.are)

-- a further line, of which `front` is kept, after lines for which `bytes` are to be written, and `count` of which are
-- selected
module _ (P : Selection) (tells : TellsByFront P) (lines : List (List ℕ)) (bytes line front : List ℕ) (count : ℕ)
    (kept : front ≡ take longest_kept line) (o : AreOwed P lines bytes count) where
  -- the further line is selected: it is to be written, with a line feed (10), and is counted
  pub owed_yes : P front → AreOwed P (lines ++ line ∷ []) (bytes ++ (front ++ 10 ∷ [])) (count + 1)
  owed_yes is =
      let whole : front ≡ line = kept ∙ take_all longest_kept line (tells.front line (subst P kept is)) in
      record {
        selected = o.selected ++ line ∷ [];
        are = selected_yes P lines o.selected line o.are (subst P whole is);
        all = ap (λ (l : List ℕ). l ++ (front ++ 10 ∷ [])) o.all ∙ ap (λ (l : List ℕ). whole_lines o.selected ++ (l ++ 10 ∷ [])) whole
            ∙ sym (whole-append o.selected (line ∷ []) ∙ ap (λ (l : List ℕ). whole_lines o.selected ++ l) (append-nil (line ++ 10 ∷ [])));
        counted = omega (arith, o.counted, length-append o.selected (line ∷ []));
      }

  -- the further line is not selected, and nothing is to be written for it
  pub owed_no : (P front → ⊥) → AreOwed P (lines ++ line ∷ []) (bytes ++ []) count
  owed_no not = record {
    selected = o.selected;
    are = selected_no P lines o.selected line o.are
        (λ is. not (subst P (sym (kept ∙ take_all longest_kept line (tells.short line is))) is));
    all = append-nil bytes ∙ o.all;
    counted = o.counted;
  }

-- ---- how a run ends

-- whether a run ended by no fault
abbrev is_done : {X : Type 0} → Result X ToolFault → Bool
is_done (Ok x) = true
is_done (Err f) = false

-- a run that is done ended by no fault
pub never : {X : Type 0} (r : Result X ToolFault) (f : ToolFault) → is_done r ≡ true → r ≡ Err f → ⊥
never r f done is = let bad : true ≡ false = sym done ∙ ap is_done is in cc

-- the fault of a run, or `default` if it ended by none
abbrev fault_of : {X : Type 0} → ToolFault → Result X ToolFault → ToolFault
fault_of default (Ok x) = default
fault_of default (Err f) = f

-- a run that ended by a fault ended by this one
pub ended_by : {X : Type 0} (r : Result X ToolFault) (f g : ToolFault) → r ≡ Err f → r ≡ Err g → f ≡ g
ended_by r f g one other = sym (ap (fault_of f) one) ∙ ap (fault_of f) other

-- a run that answers lines by those that are selected, as `Q` says of the state that answers them; `count` gives how
-- many lines this state has selected
module _ {I O A : Type 0} (P : Selection) (Q : stream.Answered A) (count : A → ℕ)
    (owes : (answers : A) (lines : List (List ℕ)) (bytes : List ℕ) → Q answers lines bytes
    → AreOwed P lines bytes (count answers))
    (remaining : I → Option (List ℕ)) (contents : O → Option (List ℕ)) (input input' : Device I)
    (output output' : Device O) (answers : A) where
  -- what was written is a front of the selected lines
  begun_selecting : (text written : List ℕ) → stream.IsBegun Q text written → IsBegun P text written
  begun_selecting text written b =
      let o = owes b.answers b.lines b.all b.answered in
      record {
        lines = b.lines;
        others = b.others;
        cut = b.cut;
        selected = o.selected;
        are = o.are;
        rest = b.rest;
        front = sym o.all ∙ b.front;
      }

  -- the selected lines up to the last line feed were written
  fed_selecting : (text written : List ℕ) → stream.IsAnsweredToLastFeed Q text written answers → IsOwedToLastFeed P text written
  fed_selecting text written t =
      let o = owes answers t.lines written t.answered in
      record {
        lines = t.lines;
        last = t.last;
        cut = t.cut;
        each_one = t.each_one;
        last_one = t.last_one;
        selected = o.selected;
        are = o.are;
        all = o.all;
      }

  -- a run that ended by a fault ended as selecting lines ends by this fault
  ends_selecting : (f : ToolFault) (reads : ℕ) (read text written : List ℕ)
      → EndsAfterMark Q remaining input input' output output' reads read text written answers (Err f)
      → EndsAs P remaining input input' output output' reads read text written (Err f)
  ends_selecting faults.Read reads read text written e = record { failed = e.failed; owed = fed_selecting text written e.owed }
  ends_selecting faults.Write reads read text written e = e
  ends_selecting faults.TooManyTurns reads read text written e = record {
    all_made = e.all_made;
    gave_bytes = e.gave_bytes;
    last_gave = e.last_gave;
    owed = fed_selecting text written
        e.owed;
  }
  ends_selecting faults.OutOfMemory reads read text written e = e
  ends_selecting (faults.BadCsv line) reads read text written e = e
  ends_selecting (faults.BadTsv line) reads read text written e = e
  ends_selecting faults.Utf16 reads read text written e = e

  -- a run that read all lines selects them
  pub selects : RunsOverText Q remaining contents input input' output output' answers (Ok tt)
      → SelectsLines P remaining contents input input' output output' (Ok (count answers))
  selects r = record {
    read = r.read;
    mark = r.mark;
    text = r.text;
    split = r.split;
    narrow = λ wide. elim (r.narrow wide) [
      | inl bad ↦ absurd (never (Ok tt) faults.Utf16 refl bad)
      | inr bad ↦ absurd
          (never (Ok tt) faults.OutOfMemory refl bad)
    ];
    written = r.written;
    reads = r.reads;
    consumes = r.consumes;
    appends = r.appends;
    begun = begun_selecting r.text r.written r.begun;
    calls = r.calls;
    bounded = r.bounded;
    ends = record { end = r.ends.end; owed = owes answers _ r.written r.ends.answered };
    read_rises = λ lt. absurd (never (Ok tt) faults.Read refl (r.read_rises lt));
    write_rises = λ lt. absurd (never (Ok tt) faults.Write refl (r.write_rises lt));
  }

  -- a run that ended by a fault selects lines and ends by this fault
  pub selects_not : (f : ToolFault) → RunsOverText Q remaining contents input input' output output' answers (Err f)
      → SelectsLines P remaining contents input input' output output' (Err f)
  selects_not f r = record {
    read = r.read;
    mark = r.mark;
    text = r.text;
    split = r.split;
    narrow = λ wide. elim (r.narrow wide) [
      | inl is ↦ inl (ap (λ (e : ToolFault). Err e) (ended_by (Err f) f faults.Utf16 refl is))
      | inr is ↦ inr (ap (λ (e : ToolFault). Err e) (ended_by (Err f) f faults.OutOfMemory refl is))
    ];
    written = r.written;
    reads = r.reads;
    consumes = r.consumes;
    appends = r.appends;
    begun = begun_selecting r.text r.written r.begun;
    calls = r.calls;
    bounded = r.bounded;
    ends = ends_selecting f r.reads r.read r.text r.written r.ends;
    read_rises = λ lt. ap (λ (e : ToolFault). Err e) (ended_by (Err f) f faults.Read refl (r.read_rises lt));
    write_rises = λ lt. ap (λ (e : ToolFault). Err e) (ended_by (Err f) f faults.Write refl (r.write_rises lt));
  }
