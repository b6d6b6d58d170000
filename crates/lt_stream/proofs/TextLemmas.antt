-- Lemmas for `Text::take_piece` and `Text::finish`, by whether the first bytes of the text wait, since they may be a
-- part of a byte order mark, or the text is past its mark. What a piece, or the end, does to the lines after the mark
-- is what it does to the text.
use Rattle.std.proofs.Common.{◌≡◌, ◌≤◌, ◌<◌, ◌+◌, ◌^◌, ◌++◌, ◌∙◌, inl, inr, ℕ, List, [], true, false, Option, Some}
use Rattle.std.proofs.Common.{None, Result, Ok, Err, length, sym, ap, refl, subst, arith, append_assoc, append-nil}
use Rattle.std.proofs.Common.{length-append}
use Rattle.std.proofs.lemmas.List.{nil_from_length}
use Rattle.lt_jar.specs.Lines.{IsOneLine, lines_of, whole_lines}
use Rattle.lt_jar.specs.declared.devices.Device.{Device}
use Rattle.lt_rows.specs.Marks.{IsWide, MayBeMark, SplitsMark}
use Rattle.lt_rows.proofs.MarkLemmas.{short_narrow, split_more, split_of, wide_more}
use Rattle.lt_stream.specs.Begun.{Begins, FinishesText, IsPast, IsTakenText, IsWaiting, StopsText}
use Rattle.lt_stream.specs.Lined.{Finishes, IsTaken, Stops}
use Rattle.lt_stream.specs.Lines.{Answered, IsBegun}
use Rattle.lt_stream.specs.Pieces.{FinishesPieces, HasRoom, TakesPiece}
use Rattle.lt_stream.specs.Texts.{IsRefusedFront}
use Rattle.lt_stream.specs.declared.faults.ToolFault.{ToolFault}
use Rattle.lt_stream.specs.declared.faults.ToolFault.TheVariants as faults
use Rattle.lt_stream.specs.declared.lines.Lined.{Lined}
use Rattle.lt_stream.specs.declared.texts.Text.{Text}
use Rattle.lt_stream.proofs.LinedLemmas.{during_lacks, few_lines}

-- a state is not both past the mark and waiting
not_both : {A : Type 0} (state : Text A) → state.is_begun ≡ true → state.is_begun ≡ false → ⊥
not_both state begun waits = let bad : true ≡ false = sym begun ∙ waits in cc

-- a split that holds whatever follows the bytes holds of the bytes
pub split_now : (bytes mark text : List ℕ) → ((more : List ℕ) → SplitsMark (bytes ++ more) mark (text ++ more)) → SplitsMark bytes mark text
split_now bytes mark text split = subst (λ (l : List ℕ). SplitsMark l mark text) (append-nil bytes)
    (subst (λ (l : List ℕ). SplitsMark (bytes ++ []) mark l) (append-nil text) (split []))

-- bytes that begin with no mark of UTF-16 whatever follows them begin with none
pub narrow_now : (bytes : List ℕ) → ((more : List ℕ) → IsWide (bytes ++ more) → ⊥) → IsWide bytes → ⊥
narrow_now bytes narrow = subst (λ (l : List ℕ). IsWide l → ⊥) (append-nil bytes) (narrow [])

-- the text after the mark is no longer than the bytes
text_short : (bytes mark text : List ℕ) → SplitsMark bytes mark text → length text ≤ length bytes
text_short bytes mark text s = omega (arith, ap length s.whole, length-append mark text)

-- where no byte is taken yet, there is no whole line
pub no_lines : (lines : List (List ℕ)) (last : List ℕ) → [] ≡ whole_lines lines ++ last → lines ≡ []
no_lines lines last cut = nil_from_length lines (omega (arith, few_lines lines, ap length cut, length-append (whole_lines lines) last))

-- a run with room for some bytes has room for fewer
pub room_less : {O P : Type 0} (T : P → O → O → List ℕ → P → Type 0) (count less : ℕ) (now : O) (state : P)
    → less ≤ count → HasRoom T count now state → HasRoom T less now state
room_less T count less now state few r = record {
  first = r.first;
  start = r.start;
  read = r.read;
  taken = r.taken;
  few = omega (arith, r.few, few);
}

-- lines that are answered as Q says, of each of which at most `longest` bytes are kept
module _ {A W : Type 0} (Q : A → Answered A) (longest : ℕ) (contents : W → Option (List ℕ)) where
  -- a piece of a text was taken, by what is true of the text before and after
  abbrev pub TextTakes : List ℕ → (before after : Device W) → (old new : Text A) → Result (Option (Unit {0})) ToolFault → Type 0
  TextTakes = TakesPiece (λ first. IsTakenText (Q first.lined.answers) longest contents)
      (λ first start now read _ end. StopsText (Q first.lined.answers) contents start now read end)

  -- a piece of its lines was taken
  abbrev pub LinesTake : List ℕ → (before after : Device W) → (old new : Lined A) → Result (Option (Unit {0})) ToolFault → Type 0
  LinesTake = TakesPiece (λ first. IsTaken (Q first.answers) longest contents)
      (λ first start now read _ end. Stops (Q first.answers) contents start now read end)

  -- the end of a text was taken
  abbrev pub TextFinishes : (before after : Device W) → (old new : Text A) → Result (Unit {0}) ToolFault → Type 0
  TextFinishes = FinishesPieces (λ first. IsTakenText (Q first.lined.answers) longest contents)
      (λ first. FinishesText (Q first.lined.answers) contents)

  -- the end of its lines was taken
  abbrev pub LinesFinish : (before after : Device W) → (old new : Lined A) → Result (Unit {0}) ToolFault → Type 0
  LinesFinish = FinishesPieces (λ first. IsTaken (Q first.answers) longest contents) (λ first. Finishes (Q first.answers) contents)

  -- a run over a text has room for this many bytes more
  abbrev pub TextRoom : ℕ → Device W → Text A → Type 0
  TextRoom = HasRoom (λ first. IsTakenText (Q first.lined.answers) longest contents)

  -- a run over its lines has room for this many bytes more
  abbrev pub LineRoom : ℕ → Device W → Lined A → Type 0
  LineRoom = HasRoom (λ first. IsTaken (Q first.answers) longest contents)

  -- ---- past the mark

  -- past the mark a run over the lines has the room of the run over the text
  pub past_room : (count : ℕ) (now : Device W) (state : Text A) → state.is_begun ≡ true → TextRoom count now state
      → LineRoom count now state.lined
  past_room count now state begun r = elim r.taken [
    | inl p ↦ record {
      first = r.first.lined;
      start = r.start;
      read = p.text;
      taken = p.taken;
      few = omega (arith, r.few, text_short r.read p.mark p.text (split_now r.read p.mark p.text p.split));
    }
    | inr w ↦ absurd (not_both state begun w.begun)
  ]

  -- past the mark a piece that the lines take is taken by the text
  pub past_takes : (piece : List ℕ) (before after : Device W) (old new : Text A) (r : Result (Option (Unit {0}))
      ToolFault) → old.is_begun ≡ true → new.is_begun ≡ true → LinesTake piece before after old.lined new.lined r
      → TextTakes piece before after old new r
  past_takes piece before after old new (Ok None) begun still h = λ first start read t. elim t [
    | inl p ↦ inl (record {
      begun = still;
      mark = p.mark;
      text = p.text ++ piece;
      split = λ more. rw (append_assoc read piece more, append_assoc p.text piece more) (p.split (piece ++ more));
      narrow = λ more. rw (append_assoc read piece more) (p.narrow (piece ++ more));
      taken = h first.lined start p.text p.taken;
    })
    | inr w ↦ absurd (not_both old begun w.begun)
  ]
  past_takes piece before after old new (Ok (Some u)) begun still h = λ first start read t. elim t [
    | inl p ↦ absurd (h first.lined start p.text p.taken)
    | inr w ↦ absurd (not_both old begun w.begun)
  ]
  past_takes piece before after old new (Err f) begun still h = λ first start read t. elim t [
    | inl p ↦
        inl (record {
          mark = p.mark;
          text = p.text ++ piece;
          split = p.split piece;
          narrow = λ wide. absurd (p.narrow piece wide);
          cut = h first.lined start p.text p.taken;
        })
    | inr w ↦ absurd (not_both old begun w.begun)
  ]

  -- past the mark the end that the lines take is taken by the text
  pub past_finishes : (before after : Device W) (old new : Text A) (r : Result (Unit {0}) ToolFault)
      → old.is_begun ≡ true → LinesFinish before after old.lined new.lined r → TextFinishes before after old new r
  past_finishes before after old new (Ok u) begun h = λ first start read t. elim t [
    | inl p ↦ record {
      mark = p.mark;
      text = p.text;
      split = split_now read p.mark p.text p.split;
      narrow = narrow_now read p.narrow;
      all = h first.lined start p.text p.taken;
    }
    | inr w ↦ absurd (not_both old begun w.begun)
  ]
  past_finishes before after old new (Err f) begun h = λ first start read t. elim t [
    | inl p ↦ record {
      mark = p.mark;
      text = p.text;
      split = split_now read p.mark p.text p.split;
      narrow = λ wide. absurd (narrow_now read p.narrow wide);
      cut = h first.lined start p.text p.taken;
    }
    | inr w ↦ absurd (not_both old begun w.begun)
  ]

  -- ---- the first bytes wait

  -- while the first bytes wait, no bytes, which is what was written, are a front of the answers to any text
  begun_none : (first : Text A) (start now : Device W) (state : Text A)
      → IsTaken (Q first.lined.answers) longest contents start now [] state.lined → (text : List ℕ)
      → IsBegun (Q first.lined.answers) text []
  begun_none first start now state t text =
      let d = t.during in
      record {
        lines = [];
        others = lines_of text;
        cut = refl;
        answers = state.lined.answers;
        all = d.written ++ state.lined.owed.items;
        answered = rw (no_lines d.lines d.last d.cut) at d.answered;
        rest = d.written ++ state.lined.owed.items;
        front = refl;
      }

  -- the lines have room for the first bytes and a piece
  pub waiting_room : (piece : List ℕ) (now : Device W) (state : Text A) (count : ℕ) → state.is_begun ≡ false
      → count ≤ length state.front.items + length piece → TextRoom (length piece) now state
      → LineRoom count now state.lined
  waiting_room piece now state count waits most r = elim r.taken [
    | inl p ↦ absurd (not_both state p.begun waits)
    | inr w ↦ record {
      first = r.first.lined;
      start = r.start;
      read = [];
      taken = w.taken;
      few = omega (arith, r.few, most, ap length w.kept);
    }
  ]

  -- if the first bytes with a piece may still be a part of a mark, and are kept, the piece is taken
  pub waiting_more : (piece : List ℕ) (now : Device W) (old new : Text A) → old.is_begun ≡ false → new.is_begun ≡ false
      → new.front.items ≡ old.front.items ++ piece → new.lined ≡ old.lined → MayBeMark (old.front.items ++ piece)
      → TextTakes piece now now old new (Ok None)
  waiting_more piece now old new waits still added same may = λ first start read t. elim t [
    | inl p ↦ absurd (not_both old p.begun waits)
    | inr w ↦ inr (record {
      begun = still;
      kept = added ∙ ap (λ (l : List ℕ). l ++ piece) w.kept;
      may_be = rw w.kept at may;
      untouched = w.untouched;
      taken = rw same w.taken;
    })
  ]

  -- if the first bytes with a piece are refused, the piece ends the run by this fault
  pub waiting_refused : (piece : List ℕ) (now : Device W) (old new : Text A) (f : ToolFault) → old.is_begun ≡ false
      → IsRefusedFront (old.front.items ++ piece) f → TextTakes piece now now old new (Err f)
  waiting_refused piece now old new f waits (inl wide) = λ first start read t. elim t [
    | inl p ↦ absurd (not_both old p.begun waits)
    | inr w ↦
        inr (record {
          named = wide.0;
          wide = rw w.kept at wide.1;
          untouched = w.untouched;
          begun = begun_none first start now old w.taken;
        })
  ]
  waiting_refused piece now old new f waits (inr lacks) = λ first start read t. elim t [
    | inl p ↦ absurd (not_both old p.begun waits)
    | inr w ↦
        let s = split_of (read ++ piece) in
        inl (record {
          mark = s.0;
          text = s.1;
          split = s.2;
          narrow = λ _. lacks;
          cut = rw lacks (during_lacks Q first.lined.answers longest contents start now [] s.1 old.lined
              w.taken.during);
        })
  ]

  -- If the first bytes with a piece can't be a part of a mark any more, and what follows the mark, or all of them, is
  -- taken as lines, the piece is taken. `mid` is the state in which they are kept.
  pub waiting_begins : (piece : List ℕ) (before after : Device W) (old mid new : Text A) (r : Result (Option (Unit {0}))
      ToolFault) → old.is_begun ≡ false → mid.front.items ≡ old.front.items ++ piece → mid.lined ≡ old.lined
      → (MayBeMark (old.front.items ++ piece) → ⊥) → (IsWide (old.front.items ++ piece) → ⊥)
      → Begins Q longest contents mid new before after r → TextTakes piece before after old new r
  waiting_begins piece before after old mid new (Ok None) waits added same none narrow b = λ first start read t. elim t [
    | inl p ↦ absurd (not_both old p.begun waits)
    | inr w ↦
        let split = rw (added, w.kept) at b.split in
        inl (record {
          begun = b.begun;
          mark = b.mark;
          text = b.text;
          split = λ more. split_more (read ++ piece) b.mark b.text more (rw w.kept at none) split;
          narrow = λ more. wide_more (read ++ piece) more (rw w.kept at none) (rw w.kept at narrow);
          taken = b.takes first.lined start [] (rw same w.taken);
        })
  ]
  waiting_begins piece before after old mid new (Ok (Some u)) waits added same none narrow b = λ first start read t. elim t [
    | inl p ↦ absurd (not_both old p.begun waits)
    | inr w ↦ absurd (b.takes first.lined start [] (rw same w.taken))
  ]
  waiting_begins piece before after old mid new (Err f) waits added same none narrow b = λ first start read t. elim t [
    | inl p ↦ absurd (not_both old p.begun waits)
    | inr w ↦
        inl (record {
          mark = b.mark;
          text = b.text;
          split = rw (added, w.kept) at b.split;
          narrow = λ wide. absurd (rw w.kept at narrow wide);
          cut = b.takes first.lined start [] (rw same w.taken);
        })
  ]

  -- ---- the end while the first bytes wait

  -- once the first bytes are taken at the end, the lines have room for their end
  pub ending_room : (before after : Device W) (old new : Text A) (o : Option (Unit {0})) → old.is_begun ≡ false
      → TextRoom 0 before old → Begins Q longest contents old new before after (Ok o) → LineRoom 0 after new.lined
  ending_room before after old new None waits r b = elim r.taken [
    | inl p ↦ absurd (not_both old p.begun waits)
    | inr w ↦ record {
      first = r.first.lined;
      start = r.start;
      read = b.text;
      taken = b.takes r.first.lined r.start []
          w.taken;
      few = omega (arith, r.few, text_short old.front.items b.mark b.text b.split, ap length w.kept);
    }
  ]
  ending_room before after old new (Some u) waits r b = elim r.taken [
    | inl p ↦ absurd (not_both old p.begun waits)
    | inr w ↦ absurd (b.takes r.first.lined r.start [] w.taken)
  ]

  -- if the first bytes can't be taken at the end, the text ends by this fault
  pub ending_fails : (before after : Device W) (old new last : Text A) (f : ToolFault) → old.is_begun ≡ false
      → Begins Q longest contents old new before after (Err f) → TextFinishes before after old last (Err f)
  ending_fails before after old new last f waits b = λ first start read t. elim t [
    | inl p ↦ absurd (not_both old p.begun waits)
    | inr w ↦ record {
      mark = b.mark;
      text = b.text;
      split = rw w.kept at b.split;
      narrow = λ wide. absurd (short_narrow read w.may_be wide);
      cut = b.takes first.lined start [] w.taken;
    }
  ]

  -- if the first bytes are taken at the end, and then the end of the lines, the end of the text is taken
  pub ending_finishes : (before between after : Device W) (old new last : Text A) (o : Option (Unit {0})) (r : Result
      (Unit {0}) ToolFault) → old.is_begun ≡ false → Begins Q longest contents old new before between (Ok o)
      → LinesFinish between after new.lined last.lined r
      → TextFinishes before after old last r
  ending_finishes before between after old new last (Some u) r waits b h = λ first start read t. elim t [
    | inl p ↦ absurd (not_both old p.begun waits)
    | inr w ↦ absurd (b.takes first.lined start [] w.taken)
  ]
  ending_finishes before between after old new last None (Ok u) waits b h = λ first start read t. elim t [
    | inl p ↦ absurd (not_both old p.begun waits)
    | inr w ↦ record {
      mark = b.mark;
      text = b.text;
      split = rw w.kept at b.split;
      narrow = short_narrow read w.may_be;
      all = h first.lined start b.text (b.takes first.lined start [] w.taken);
    }
  ]
  ending_finishes before between after old new last None (Err f) waits b h = λ first start read t. elim t [
    | inl p ↦ absurd (not_both old p.begun waits)
    | inr w ↦ record {
      mark = b.mark;
      text = b.text;
      split = rw w.kept at b.split;
      narrow = λ wide. absurd (short_narrow read w.may_be wide);
      cut = h first.lined start b.text
          (b.takes first.lined start [] w.taken);
    }
  ]
