-- Lemmas for `verify_lines`, which judges the lines of an explanation piece by piece, as a reader gives them: the
-- verdict on the kept bytes and those to come is the verdict on all bytes. An explanation as it is printed has the
-- verdict Right.
use Rattle.std.proofs.Common.{IsErrAnd, ◌≡◌, ◌≢◌, ◌<◌, ◌^◌, ◌++◌, ◌∷◌, ◌∙◌, ℕ, List, [], Option, Some, sym, ap, refl}
use Rattle.std.proofs.Common.{arith, ◌+◌, inl, inr, length, append_assoc, length-append, None, subst, append-nil, codes}
use Rattle.std.proofs.Common.{Ok, Err, Result}
use Rattle.std.proofs.lemmas.List.Elements.{All-append, All-cons, All-nil}
use Rattle.lt_rewrite.specs.declared.steps.Step.{Step}
use Rattle.lt_answers.specs.StepLines.{end_line}
use Rattle.lt_tag.specs.Parts.{TagForm}
use Rattle.lt_registry.specs.Parts.{EntryParts}
use Rattle.lt_answers.specs.Judging.{Judges, IsProperIf, SettlesFront, FlowIs}
use Rattle.lt_answers.specs.Verdicts.{IsVerdict, Lead}
use Rattle.lt_answers.specs.declared.verdicts.Verdict.{Verdict}
use Rattle.lt_answers.specs.Laws.{NumbersFit, ExplanationsAreRight}
use Rattle.lt_jar.proofs.CutLemmas.{lines_of-ended, first_goes_on, lines_of-last}
use Rattle.lt_jar.specs.Lines.{IsOneLine, lines_of}
use Rattle.lt_tag.proofs.OneTagLemmas.{one_tag_of_text}
use Rattle.lt_answers.specs.Verifying.{GoesOn, GoesTo, JudgesEnd, IsFollowed, JudgesAll, KeepsMore, Settles}
use Rattle.lt_answers.specs.Verifying.{SettlesKept, Takes, TakesPiece, Begins, EndsAs, IsVerdictOf, VerifiesLines}
use Rattle.lt_answers.specs.Verifying.{JudgesKept}
use Rattle.lt_answers.specs.declared.following.Following.{Following}
use Rattle.std.proofs.lemmas.Result.{err_from_is_err_and}
use Rattle.std.proofs.KnownBytes.{Consumes-nil}
use Rattle.lt_jar.specs.Devices.{failures_of}
use Rattle.lt_jar.specs.declared.devices.Device.{Device}
use Rattle.lt_stream.specs.Pieces as pieces
use Rattle.lt_stream.specs.Pieces.{EndFact, IsStoppedByRead, IsStoppedByTurns, IsWithoutMemory, RunFact, RunsPieces}
use Rattle.lt_rewrite.proofs.PartLists.{some_long}
use Rattle.lt_answers.specs.declared.judging.Flow.TheVariants as flows
use Rattle.lt_answers.specs.declared.verdicts.Verdict.TheVariants as verdicts
use Rattle.lt_tag.specs.Texts.{text_of}
use Rattle.lt_canon.specs.ExplanationTexts as printed
use Rattle.lt_stream.specs.declared.faults.ToolFault.{ToolFault}
use Rattle.lt_stream.specs.declared.faults.ToolFault.TheVariants as faults
use Rattle.lt_answers.proofs.LineLemmas.{step_is_line}
use Rattle.lt_answers.proofs.JudgingLemmas.{IsNoFeed, few, step_fits, tag_line, verdict_behind}

-- ---- the lines

-- the printed lines of steps, `text`, lead from `t` to `end`, and what follows them begins a line of its own
steps_led : (R : List EntryParts) → NumbersFit R → (steps : List Step) (end t : TagForm) (text : List ℕ)
    → printed.AreStepLines R steps end t text
    → (lines : List (List ℕ)) × Lead R t lines end × ((more : List ℕ) → lines_of (text ++ more) ≡ lines ++ lines_of more)
steps_led R all [] end t text are = ([], are.0, λ more. ap (λ (l : List ℕ). lines_of (l ++ more)) are.1)
steps_led R all (step ∷ steps) end t text are =
    let after = are.after in
    let rest = steps_led R all steps end after are.rest are.printed in
    let fit = step_fits R all t after step are.leads in
    let line = printed.step_line step (text_of after) in
    let one : IsOneLine line = step_is_line step (text_of after) fit.0 fit.1 (tag_line after are.leads.0.to.tag.tag) in
    let whole : (more : List ℕ) → text ++ more ≡ line ++ 10 ∷ (are.rest ++ more) = λ more. rw are.line_is (simp append_assoc) in (
      line ∷ rest.0,
      (after, record { step = step; leads = are.leads; is_line = record { place = fit.0; number = fit.1; line_is = refl } }, rest.1),
      λ more. ap lines_of (whole more) ∙ lines_of-ended line (are.rest ++ more) one ∙ ap (λ (l : List (List ℕ)). line ∷ l) (rest.2 more),
    )

-- an explanation as it is printed has the verdict Right
pub explanations_right : (R : List EntryParts) → NumbersFit R → ExplanationsAreRight R
explanations_right R all text shown t read is =
    let are = is.are_lines in
    let led = steps_led R all is.steps is.end is.tag are.of_steps are.are_steps in
    let last = end_line (text_of is.end) in
    let one : IsOneLine last = All-cons IsNoFeed 61 (32 ∷ text_of is.end) (λ e. absurd (omega (arith, e)))
    (All-cons IsNoFeed 32 (text_of is.end) (λ e. absurd (omega (arith, e)))
    (tag_line is.end is.is_explanation.form.canonical.valid.proper.tag.tag)) in
    subst (λ (u : TagForm). IsVerdict R u (lines_of shown) verdicts.Right) (one_tag_of_text text is.tag t is.read read) (record {
      steps = led.0;
      end = is.end;
      lead = led.1;
      all = ap lines_of (are.all ∙ append_assoc are.of_steps (codes "= ") (printed.tag_line is.end))
          ∙ led.2 (last ++ 10 ∷ []) ∙ ap (λ (l : List (List ℕ)). led.0 ++ l) (lines_of-ended last [] one);
    })

-- a state that is the same as before took no bytes
pub takes_nothing : (R : List EntryParts) (state : Following) → IsProperIf R state.here → Takes R [] state state
takes_nothing R state proper = record {
  proper = proper;
  counted = omega arith;
  one = λ one. one;
  follows = λ more v one judged. judged;
}

-- the bytes `front` were taken and then the bytes `piece`, so both were taken as one piece
takes_trans : (R : List EntryParts) (front piece : List ℕ) (old mid new : Following) → Takes R front old mid
    → Takes R piece mid new → Takes R (front ++ piece) old new
takes_trans R front piece old mid new a b = record {
  proper = b.proper;
  counted = omega (arith, a.counted, b.counted, length-append front piece);
  one = λ was. b.one (a.one was);
  follows = λ more v was judged.
      subst (λ (l : List ℕ). Judges R old.number old.here (lines_of (old.kept.items ++ l)) v)
      (sym (append_assoc front piece more)) (a.follows (piece ++ more) v was (b.follows more v (a.one was) judged));
}

-- a part without a line feed was kept, so it was taken: the unfinished line goes on
takes_part : {R : List EntryParts} {part : List ℕ} {old new : Following} → IsProperIf R old.here → IsOneLine part
    → KeepsMore part old new → Takes R part old new
takes_part {R = R} {part = part} {old = old} proper one keeps = record {
  proper = subst (IsProperIf R) (sym keeps.here) proper;
  counted = omega (arith, keeps.number);
  one = λ was. subst IsOneLine (sym keeps.kept) (All-append (λ byte. byte ≢ 10) old.kept.items part was one);
  follows = λ more v was judged. rw (keeps.number, keeps.here, keeps.kept, append_assoc old.kept.items part more) at judged;
}

-- the kept line was judged and settles nothing, so the line feed (10) that ends it was taken
takes_feed : {R : List EntryParts} {old new : Following} → GoesOn R old new → Takes R (10 ∷ []) old new
takes_feed {old = old} g = record {
  proper = g.proper;
  counted = omega (arith, g.counted);
  one = λ was. subst IsOneLine (sym g.emptied) (All-nil (λ byte. byte ≢ 10));
  follows = λ more v was judged. rw (lines_of-ended old.kept.items more was) (g.follows (lines_of more) v (rw g.emptied at judged));
}

-- ---- the lines of a piece

-- the lines that end in the front of a piece were judged, and `rest` is left: `old` is the state before the piece, and
-- `now` the state after its front
pub record PieceTurn (R : List EntryParts) (piece rest : List ℕ) (old now : Following) : Type 0 where
  pub front : List ℕ
  pub cut : piece ≡ front ++ rest
  pub takes : Takes R front old now

-- before the first line of a piece all of it is left
pub first_turn : {R : List EntryParts} {piece : List ℕ} {state : Following} → IsProperIf R state.here → PieceTurn R piece piece state state
first_turn {R = R} {state = state} proper = record { front = []; cut = refl; takes = takes_nothing R state proper }

-- the tag to which the lines lead so far is proper
pub turn_proper : {R : List EntryParts} {piece rest part : List ℕ} {old now mid : Following}
    → PieceTurn R piece rest old now → KeepsMore part now mid → IsProperIf R mid.here
turn_proper {R = R} t keeps = subst (IsProperIf R) (sym keeps.here) t.takes.proper

-- the next line of a piece ends: its last bytes, `part`, were kept, which gives the state `mid`, and `after` follows
-- the line feed
module _ {R : List EntryParts} {piece rest : List ℕ} {old now mid : Following} (part after : List ℕ)
    (t : PieceTurn R piece rest old now) (split : IsOneLine part × (rest ≡ part ++ 10 ∷ after))
    (keeps : KeepsMore part now mid) where
  -- the number of the line after it is less than 2 to the 64
  pub turn_room : old.number + length piece + 1 < 2 ^ 64 → mid.number + 1 < 2 ^ 64
  turn_room few = omega (
    arith,
    few,
    keeps.number,
    t.takes.counted,
    ap length t.cut,
    length-append t.front rest,
    ap length split.1,
    length-append part (10 ∷ after),
  )

  -- the bytes before the line feed were taken
  part_taken : Takes R (t.front ++ part) old mid
  part_taken = takes_trans R t.front part old now mid t.takes (takes_part t.takes.proper split.0 keeps)

  -- the piece is those bytes, a line feed (10), and `after`
  cut_more : piece ≡ (t.front ++ part) ++ 10 ∷ after
  cut_more = t.cut ∙ ap (λ l. t.front ++ l) split.1 ∙ sym (append_assoc t.front part (10 ∷ after))

  -- the line settles nothing, and `after` is left
  pub next_turn : {new : Following} (judged : Option Verdict) → JudgesKept R mid new judged → judged ≡ None
      → PieceTurn R piece after old new
  next_turn {new = new} judged g none = record {
    front = (t.front ++ part) ++ 10 ∷ [];
    cut = cut_more ∙ sym (append_assoc (t.front ++ part) (10 ∷ []) after);
    takes = takes_trans R (t.front ++ part) (10 ∷ []) old mid new part_taken (takes_feed (rw none at g));
  }

  -- the line settles the verdict `v`, whatever follows
  pub settled_turn : (new : Following) (v : Verdict)
      → ((lines : List (List ℕ)) → Judges R mid.number mid.here (mid.kept.items ∷ lines) v)
      → TakesPiece R piece old new (Some v)
  settled_turn new v judged = λ more was.
      let same : piece ++ more ≡ (t.front ++ part) ++ 10 ∷ (after ++ more) = ap (λ l. l ++ more) cut_more
      ∙ append_assoc (t.front ++ part) (10 ∷ after) more in
      rw same (part_taken.follows (10 ∷ (after ++ more)) v was
      (rw (lines_of-ended mid.kept.items (after ++ more) (part_taken.one was)) (judged (lines_of (after ++ more)))))

-- the rest of a piece, which has no line feed, was kept
takes_rest : {R : List EntryParts} {piece rest : List ℕ} {old now new : Following} → PieceTurn R piece rest old now
    → IsOneLine rest → KeepsMore rest now new → Takes R piece old new
takes_rest {R = R} {rest = rest} {old = old} {now = now} {new = new} t one keeps =
    subst (λ (l : List ℕ). Takes R l old new) (sym t.cut)
    (takes_trans R t.front rest old now new t.takes (takes_part t.takes.proper one keeps))

-- The end of the loop over the lines of a piece: `rest`, which has no line feed, was kept, which led from `now` to
-- `new`. What the kept front of a line settles, `judged`, the whole piece settles from `old` on: a verdict, or that it
-- was taken.
pub last_turn : {R : List EntryParts} {piece rest : List ℕ} {old now new : Following} → PieceTurn R piece rest old now
    → IsOneLine rest → KeepsMore rest now new
    → (judged : Option Verdict) → SettlesKept R new judged → TakesPiece R piece old new judged
last_turn t one keeps None settles = (takes_rest t one keeps, settles)
last_turn t one keeps (Some v) settles = λ more was. let takes = takes_rest t one keeps in
    takes.follows more v was (settles more (takes.one was))

-- ---- the line that is kept

-- a line that leads to the tag `here`, or, if that is None, is that of the end, was judged and settles nothing
pub went_on : {R : List EntryParts} {t : TagForm} {here : Option TagForm} {old new : Following} → old.here ≡ Some t
    → GoesTo here old new → IsProperIf R here
    → ((lines : List (List ℕ)) (v : Verdict) → Judges R (old.number + 1) here lines v
    → Judges R old.number (Some t) (old.kept.items ∷ lines) v) → GoesOn R old new
went_on {R = R} there to proper follows = record {
  proper = subst (IsProperIf R) (sym to.there) proper;
  emptied = to.emptied;
  counted = to.counted;
  follows = λ lines v judged. rw there (follows lines v (rw (to.counted, to.there) at judged));
}

-- the line of the end was judged, and settles nothing
pub ends_on : {R : List EntryParts} {t : TagForm} {line : List ℕ} {old new : Following} (flow : _) → old.here ≡ Some t
    → line ≡ old.kept.items → FlowIs R old.number t line flow → flow ≡ flows.Ends → GoesTo None old new
    → GoesOn R old new
ends_on flow there same goes is to = went_on there to tt (λ lines v judged. inr (inl (rw (is, same) at goes, judged)))

-- the line of a step to `u` was judged, and settles nothing
pub leads_on : {R : List EntryParts} {t u : TagForm} {line : List ℕ} {old new : Following} (flow : _)
    → old.here ≡ Some t → line ≡ old.kept.items → FlowIs R old.number t line flow → flow ≡ flows.Leads u
    → GoesTo (Some u) old new → GoesOn R old new
leads_on {u = u} flow there same goes is to = let leads = rw (is, same) at goes in
    went_on there to leads.0 (λ lines v judged. inl (u, leads.1, judged))

-- the first line of a text begins with the front of the text, which has no line feed and is not empty
pub begun_line : (front more : List ℕ) → IsOneLine front → (front ≡ [] → ⊥) → (rest : List ℕ) × (after : List (List ℕ))
    × (lines_of (front ++ more) ≡ (front ++ rest) ∷ after)
begun_line [] more one some = absurd (some refl)
begun_line (byte ∷ front) more one some = first_goes_on byte front more one

-- if the lines so far lead to the tag `t`, what the kept front of a line settles after `t` is settled in this state
pub settled_rest : (R : List EntryParts) (t : TagForm) (state : Following) → state.here ≡ Some t
    → (judged : Option Verdict) → SettlesFront R state.number t state.kept.items judged → SettlesKept R state judged
settled_rest R t state here None settles = rw here settles
settled_rest R t state here (Some v) settles = λ more one.
    let goes = begun_line state.kept.items more one (λ e. absurd (omega (arith, settles.0, ap length e))) in
    rw (here, goes.2) (inr (inr (settles.1 goes.0)))

-- ---- the end

-- the verdict on a kept last line, which no line feed ends, is the verdict at the end of the bytes
pub last_judged : (R : List EntryParts) (state : Following) (v : Verdict) → (state.kept.items ≡ [] → ⊥)
    → Judges R state.number state.here (state.kept.items ∷ []) v → JudgesEnd R state v
last_judged R state v some judged = λ one. rw (lines_of-last state.kept.items one (some_long state.kept.items some)) judged

-- ---- the bytes of a reader

-- at the beginning of a run no bytes were taken
pub followed_none : (R : List EntryParts) (t : TagForm) (first : Following) → Begins t first → IsProperIf R (Some t)
    → IsFollowed R first [] first
followed_none R t first begins proper = record {
  one = subst IsOneLine (sym begins.kept) (All-nil (λ byte. byte ≢ 10));
  number = begins.number;
  takes = takes_nothing R first (subst (IsProperIf R) (sym begins.here) proper);
}

-- the bytes `read` were taken; `S` is the entries by the table that the state has, which are those at the beginning
module _ (R S : List EntryParts) (same : S ≡ R) (first : Following) (read : List ℕ) (old : Following)
    (f : IsFollowed R first read old) where
  -- the tag to which the lines lead so far is proper
  pub followed_proper : IsProperIf S old.here
  followed_proper = rw same f.takes.proper

  -- while fewer than 2 to the 63 bytes are read, the number of a line is less than 2 to the 64
  pub followed_room : (count : ℕ) → length read + count < 2 ^ 63 → old.number + count + 1 < 2 ^ 64
  followed_room count few = omega (arith, few, f.number, f.takes.counted)

  -- one piece more was taken, and settled no verdict
  pub followed_piece : (piece : List ℕ) (new : Following) (judged : Option Verdict) → judged ≡ None
      → TakesPiece S piece old new judged → IsFollowed R first (read ++ piece) new
  followed_piece piece new judged none takes = record {
    one = f.one;
    number = f.number;
    takes = takes_trans R read piece
        first old new f.takes (rw (none, same) at takes).0;
  }

  -- one piece more settled the verdict `v`
  pub settled_piece : (piece : List ℕ) (new : Following) (judged : Option Verdict) (v : Verdict) → judged ≡ Some v
      → TakesPiece S piece old new judged → Settles R first (read ++ piece) (Ok v)
  settled_piece piece new judged v is takes = λ more.
      rw (append_assoc read piece more) (f.takes.follows (piece ++ more) v f.one ((rw (is, same) at takes) more (f.takes.one f.one)))

  -- the verdict at the end of the bytes is that on all of them
  pub judged_all : (v : Verdict) → JudgesEnd S old v → JudgesAll R first read (Ok v)
  judged_all v ends =
      f.takes.follows [] v f.one (subst (λ (l : List ℕ). Judges R old.number old.here (lines_of l) v)
      (sym (append-nil old.kept.items)) ((rw same at ends) (f.takes.one f.one)))

-- a run over the pieces of a reader that begins at the tag `t`: `here` is its state at the end, and `T` is true of the
-- bytes read and this state
module _ {I A : Type 0} (R : List EntryParts) (t : TagForm) (first : Following) (remaining : I → Option (List ℕ))
    (input input' : Device I) (here : A) (T : List ℕ → A → Type 0) (begins : Begins t first) where
  -- what such a run did, by its result
  abbrev Runs : Result Verdict ToolFault → Type 0
  Runs r = RunsPieces {O = Unit {0}} (λ _ _ read state. T read state) (λ _ _ read _ r. Settles R first read r)
      (λ _ _ read _ r. JudgesAll R first read r) remaining input input' tt tt here r

  -- what is judged of the lines from the beginning is the verdict on them
  verdict_of : (bytes : List ℕ) (v : Verdict)
      → Judges R first.number first.here (lines_of (first.kept.items ++ bytes)) v → IsVerdictOf R t v bytes
  verdict_of bytes v judged = verdict_behind R t t [] (lines_of bytes) v 1 refl refl
      (rw (begins.kept, begins.number, begins.here) at judged)

  -- a run verified lines, if its end is one of those that are allowed, and if a failed read is its fault
  verifies : (r : Result Verdict ToolFault) (p : Runs r) → EndsAs R t remaining input input' p.reads p.read r
      → (failures_of input < failures_of input' → r ≡ Err faults.Read) → VerifiesLines R t remaining input input' r
  verifies r p ends rises = record {
    read = p.read;
    reads = p.reads;
    consumes = p.consumes;
    calls = p.calls;
    bounded = p.bounded;
    ends = ends;
    read_rises = rises;
  }

  -- a run that ended since memory ran out verified lines, as the contract allows
  verifies_by : (r : Result Verdict ToolFault) (p : Runs r) (f : ToolFault) → r ≡ Err f → (f ≡ faults.OutOfMemory)
      → failures_of input' ≡ failures_of input → VerifiesLines R t remaining input input' r
  verifies_by r p f is memory same = verifies r p (rw (is, memory) tt) (λ lt. absurd (omega (arith, lt, same)))

  -- a run over the pieces of a reader verified the lines of the reader, however it ended
  pub run_verifies : (r : Result Verdict ToolFault) → Runs r → VerifiesLines R t remaining input input' r
  run_verifies (Ok v) p = elim p.ends [
    | inl e ↦ verifies (Ok v) p
        (inr (e.end, subst (IsVerdictOf R t v) (append-nil p.read) (verdict_of (p.read ++ []) v e.finished)))
        (λ lt. absurd (omega (arith, lt, e.same)))
    | inr (inl s) ↦ verifies (Ok v) p (inl (λ more. verdict_of (p.read ++ more) v (s.stopped more)))
        (λ lt. absurd (omega (arith, lt, s.same)))
    | inr (inr (inl s)) ↦ let bad = s.fault in cc
    | inr (inr (inr (inl s))) ↦ let bad = s.fault in cc
    | inr (inr (inr (inr s))) ↦ let bad = s.fault in cc
  ]
  run_verifies (Err f) p = elim p.ends [
    | inl e ↦ verifies_by (Err f) p f refl e.finished e.same
    | inr (inl s) ↦ verifies_by (Err f) p f refl s.stopped s.same
    | inr (inr (inl s)) ↦ run_failed (Err f) p s
    | inr (inr (inr (inl s))) ↦ run_turned (Err f) p s
    | inr (inr (inr (inr s))) ↦ run_lacked (Err f) p s
  ]
    where
      -- so did one that a failed read ended
      run_failed : (r : Result Verdict ToolFault) (p : Runs r)
          → IsStoppedByRead (λ bytes. T bytes here) input input' p.read r → VerifiesLines R t remaining input input' r
      run_failed r p s = verifies r p (rw s.fault s.failed) (λ _. s.fault)

      -- so did one that made all reads that it may make
      run_turned : (r : Result Verdict ToolFault) (p : Runs r)
          → IsStoppedByTurns (λ bytes. T bytes here) input input' p.reads p.read r
          → VerifiesLines R t remaining input input' r
      run_turned r p s = verifies r p (rw s.fault (s.all_made, s.last_gave)) (λ lt. absurd (omega (arith, lt, s.same)))

      -- so did one that had no memory for a piece
      run_lacked : (r : Result Verdict ToolFault) (p : Runs r)
          → IsWithoutMemory (λ bytes. T bytes here) input input' p.read r → VerifiesLines R t remaining input input' r
      run_lacked r p s = verifies r p (rw s.fault tt) (λ lt. absurd (omega (arith, lt, s.same)))

-- a run that ran out of memory before the first read verified lines, as the contract allows
pub run_lacks : {I : Type 0} {R : List EntryParts} {t : TagForm} {remaining : I → Option (List ℕ)} {input : Device I}
    → (r : _) → IsErrAnd r (λ e. e ≡ faults.OutOfMemory) → VerifiesLines R t remaining input input r
run_lacks r lacks = let p = err_from_is_err_and r lacks in rw (p.1, p.2) (record {
  read = [];
  reads = 0;
  consumes = Consumes-nil _;
  calls = refl;
  bounded = omega arith;
  ends = tt;
  read_rises = λ lt. absurd (omega (arith, lt));
})

-- what a piece did, by `judged`, the verdict that it settled or None, is what the contract of pieces asks: `T` is what
-- is true while the run reads, and `S` what is true where a piece ends it
pub takes_or_settles : {A : Type 0} (T : A → RunFact (Unit {0}) A) (S : A → EndFact (Unit {0}) A Verdict)
    (piece : List ℕ) (before after : Unit {0}) (old new : A) (judged : Option Verdict)
    → (judged ≡ None → (first : A) (start : Unit {0}) (read : List ℕ) → T first start before read old
    → T first start after (read ++ piece) new)
    → ((v : Verdict) → judged ≡ Some v → (first : A) (start : Unit {0}) (read : List ℕ) → T first start before read old
    → S first start after (read ++ piece) new (Ok v))
    → pieces.TakesPiece T S piece before after old new (Ok judged)
takes_or_settles T S piece before after old new None more settles = more refl
takes_or_settles T S piece before after old new (Some v) more settles = settles v refl
