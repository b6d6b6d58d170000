-- Lemmas for the functions of `FirstRow`, which takes the first row of a text that comes in pieces. From what
-- `take_text` does with the text after the byte order mark, they show what taking a piece, or the end of the bytes,
-- does. The mark may be known before, or not.
use Rattle.std.proofs.Common.{◌≡◌, ◌++◌, ◌∙◌, ◌⊎◌, inl, inr, ℕ, List, [], Bool, Option, Some, None, Result, Ok, Err}
use Rattle.std.proofs.Common.{true, false, length, take, sym, ap, refl, subst, append_assoc, append-nil}
use Rattle.std.proofs.Math.Seq.{take-append_seam}
use Rattle.lt_rows.specs.Marks.{IsWide, MayBeMark, SplitsMark}
use Rattle.lt_rows.proofs.MarkLemmas.{short_narrow, split_more, wide_more}
use Rattle.lt_rows.specs.declared.quotes.Place.{Place}
use Rattle.lt_rows.specs.declared.rows.Separator.{Separator}
use Rattle.lt_stream.specs.declared.faults.ToolFault.{ToolFault}
use Rattle.lt_stream.specs.declared.faults.ToolFault.TheVariants as faults
use Rattle.lt_heading.specs.Headings.{BeginsText, EndsText, FinishesText, HasLongHeading, IsBegun, IsGoing, IsMarked}
use Rattle.lt_heading.specs.Headings.{IsRowIn, IsUndecided, TakesPiece, TakesText, long_fault, taken_by}
use Rattle.lt_heading.specs.declared.first_rows.FirstRow.{FirstRow}

-- ---- the mark is split off

-- All bytes so far, `kept`, were split into `mark` and `text`, and `text` was taken. Then these two are the new mark
-- and the new text, and the new text is one row so far, or has a first row of the length `end`.
pub begin_done : (S : Separator) (kept mark text old_text new_text new_mark : List ℕ) (place : Place) (end : Option ℕ)
    → SplitsMark kept mark text
    → old_text ≡ [] → new_mark ≡ take (length mark) kept → TakesText S text old_text new_text place (Ok end)
    → SplitsMark kept new_mark new_text × IsRowIn S new_text place end
begin_done S kept mark text old_text new_text new_mark place end s none cut t =
    let same_text : new_text ≡ text = t.0 ∙ ap (λ l. l ++ text) none in
    let same_mark : new_mark ≡ mark = cut ∙ ap (take (length mark)) s.whole ∙ take-append_seam mark text in
    (rw (same_text, same_mark) s, t.1)

-- the text after the mark could not be taken, for the fault `f`: memory ran out, or the first row of the bytes `kept`
-- is too long
pub begin_stopped : (S : Separator) (kept mark text old_text new_text : List ℕ) (place : Place) (f : ToolFault) → SplitsMark kept mark text
    → old_text ≡ [] → TakesText S text old_text new_text place (Err f) → (f ≡ faults.OutOfMemory)
    ⊎ ((f ≡ long_fault S) × HasLongHeading S kept)
begin_stopped S kept mark text old_text new_text place f s none (inl memory) = inl memory
begin_stopped S kept mark text old_text new_text place f s none (inr long) = inr (
  long.0,
  record {
    mark = mark;
    text = text;
    split = s;
    begins = record {
      begun = long.1.begun;
      rest = long.1.rest;
      cut = sym (ap (λ l. l ++ text) none) ∙ long.1.cut;
      one = long.1.one;
      long = long.1.long;
    };
  },
)

-- ---- pieces

-- a flag is not true and false at once
unbegun : {P : Type 0} (b : Bool) → b ≡ true → b ≡ false → P
unbegun b begun not = let bad : true ≡ false = sym begun ∙ not in cc

-- a state that takes more bytes and is begun knows its byte order mark
pub begun_of : (S : Separator) (state : FirstRow) → state.is_begun ≡ true → IsGoing S state → IsBegun S state
begun_of S state begun (inl b) = b
begun_of S state begun (inr u) = unbegun state.is_begun begun u.begun

-- a state that takes more bytes and is not begun holds what may be a part of a byte order mark
pub undecided_of : (S : Separator) (state : FirstRow) → state.is_begun ≡ false → IsGoing S state → IsUndecided state
undecided_of S state not (inl b) = unbegun state.is_begun b.begun not
undecided_of S state not (inr u) = u

-- while the mark is not known, all bytes that were taken are those that are kept for it
kept_alone : (state : FirstRow) → state.text.items ≡ [] → taken_by state ≡ state.mark.items
kept_alone state none = ap (λ l. state.mark.items ++ l) none ∙ append-nil state.mark.items

-- once bytes were split into the mark and the text after it, they are all bytes that were taken
split_whole : (bytes : List ℕ) (state : FirstRow) → SplitsMark bytes state.mark.items state.text.items → taken_by state ≡ bytes
split_whole bytes state s = sym s.whole

-- `old` and `new` are the states before and after a piece was taken
module _ (S : Separator) (piece : List ℕ) (old new : FirstRow) where
  -- the bytes taken before, the piece and any bytes `more` are the bytes taken after it and `more`
  all_more : (more : List ℕ) → new.mark.items ≡ old.mark.items → new.text.items ≡ old.text.items ++ piece
      → taken_by old ++ (piece ++ more) ≡ taken_by new ++ more
  all_more more mark text = sym (append_assoc (taken_by old) piece more) ∙ ap (λ l. l ++ more)
      (append_assoc old.mark.items old.text.items piece ∙ ap (λ l. old.mark.items ++ l) (sym text)
      ∙ ap (λ l. l ++ new.text.items) (sym mark))

  -- a known mark stays known when the piece is appended to the text after it
  marked_more : IsMarked old → new.mark.items ≡ old.mark.items → new.text.items ≡ old.text.items ++ piece → IsMarked new
  marked_more marked mark text = record {
    split = λ more.
        let after : old.text.items ++ (piece ++ more) ≡ new.text.items ++ more =
        sym (append_assoc old.text.items piece more) ∙ ap (λ l. l ++ more) (sym text) in
        subst (λ l. SplitsMark (taken_by new ++ more) l (new.text.items ++ more)) (sym mark)
        (subst (λ l. SplitsMark (taken_by new ++ more) old.mark.items l) after
        (subst (λ l. SplitsMark l old.mark.items (old.text.items ++ (piece ++ more))) (all_more more mark text)
        (marked.split (piece ++ more))));
    narrow = λ more. subst (λ l. IsWide l → ⊥) (all_more more mark text) (marked.narrow (piece ++ more));
  }

  -- the bytes that were taken grow by the piece
  taken_more : new.mark.items ≡ old.mark.items → new.text.items ≡ old.text.items ++ piece → taken_by new ≡ taken_by old ++ piece
  taken_more mark text = rw (mark, text) (sym (append_assoc old.mark.items old.text.items piece))

  -- a piece after a known mark: the result `r` of appending it to the text is that of taking it
  pub piece_begun : (r : Result (Option ℕ) ToolFault) → IsBegun S old → new.mark.items ≡ old.mark.items → new.is_begun ≡ true
      → TakesText S piece old.text.items new.text.items new.place r → TakesPiece S piece old new r
  piece_begun (Ok None) b mark begun t = (
    taken_more mark t.0,
    inl (record { begun = begun; marked = marked_more b.marked mark t.0; so_far = t.1 }),
  )
  piece_begun (Ok (Some end)) b mark begun t = (taken_more mark t.0, marked_more b.marked mark t.0, t.1)
  piece_begun (Err f) b mark begun (inl memory) = inl memory
  piece_begun (Err f) b mark begun (inr long) =
      inr (inr (long.0, record { mark = old.mark.items; text = old.text.items ++ piece; split = b.marked.split piece; begins = long.1 }))

  -- a piece is kept with the bytes before it where all of them may be a part of a byte order mark
  pub piece_may_be : IsUndecided old → new.is_begun ≡ false → new.mark.items ≡ old.mark.items ++ piece
      → new.text.items ≡ old.text.items → new.place ≡ old.place
      → MayBeMark (old.mark.items ++ piece) → TakesPiece S piece old new (Ok None)
  piece_may_be u not mark text place may = (
    kept_alone new (text ∙ u.none) ∙ mark ∙ ap (λ l. l ++ piece) (sym (kept_alone old u.none)),
    inr (record { begun = not; may_be = rw mark may; none = text ∙ u.none; fresh = place ∙ u.fresh }),
  )

  -- a piece is refused where it completes a byte order mark of UTF-16
  pub piece_wide : IsUndecided old → IsWide (old.mark.items ++ piece) → TakesPiece S piece old new (Err faults.Utf16)
  piece_wide u wide = inr (inl (refl, rw (kept_alone old u.none) wide))

  -- the mark is known with the piece: the kept bytes are neither a part of a mark nor a mark of UTF-16; `mid` is the
  -- state in which the piece was appended to them
  module _ (mid : FirstRow) (u : IsUndecided old) (mark : mid.mark.items ≡ old.mark.items ++ piece)
      (narrow : IsWide (old.mark.items ++ piece) → ⊥)
      (none : MayBeMark (old.mark.items ++ piece) → ⊥) where
    -- the bytes kept in `mid` are all that were taken, with the piece
    all_kept : mid.mark.items ≡ taken_by old ++ piece
    all_kept = mark ∙ ap (λ l. l ++ piece) (sym (kept_alone old u.none))

    -- the mark that is split off the bytes kept in `mid` is known whatever bytes follow
    marked_now : SplitsMark mid.mark.items new.mark.items new.text.items → IsMarked new
    marked_now s =
        let undecided = subst (λ l. MayBeMark l → ⊥) (sym mark) none in
        record {
          split = λ more. subst (λ l. SplitsMark (l ++ more) new.mark.items (new.text.items ++ more)) s.whole
              (split_more mid.mark.items new.mark.items new.text.items more undecided s);
          narrow = λ more. subst (λ l. IsWide (l ++ more) → ⊥) s.whole
              (wide_more mid.mark.items more undecided (subst (λ l. IsWide l → ⊥) (sym mark) narrow));
        }

    -- a piece with which the mark is known: the result `r` of splitting that off and taking the text after it is that
    -- of taking the piece
    pub piece_begins : (r : Result (Option ℕ) ToolFault) → BeginsText S mid new r → TakesPiece S piece old new r
    piece_begins (Ok None) b = (
      split_whole mid.mark.items new b.1 ∙ all_kept,
      inl (record { begun = b.0; marked = marked_now b.1; so_far = b.2 }),
    )
    piece_begins (Ok (Some end)) b = (split_whole mid.mark.items new b.1 ∙ all_kept, marked_now b.1, b.2)
    piece_begins (Err f) (inl memory) = inl memory
    piece_begins (Err f) (inr long) = inr (inr (long.0, subst (HasLongHeading S) all_kept long.1))

-- ---- the end

-- a known mark is that of the bytes that were taken, if no bytes follow
marked_alone : (state : FirstRow) → IsMarked state → SplitsMark (taken_by state) state.mark.items state.text.items
marked_alone state m = subst (λ l. SplitsMark l state.mark.items state.text.items) (append-nil (taken_by state))
    (subst (λ l. SplitsMark (taken_by state ++ []) state.mark.items l) (append-nil state.text.items) (m.split []))

-- `old` and `new` are the states before and after the bytes ended
module _ (S : Separator) (old new : FirstRow) where
  -- the bytes end after a known mark: the result `r` of ending the text is that of ending the bytes
  pub finish_begun : (r : Result ℕ ToolFault) → IsBegun S old → EndsText S old r → FinishesText S (taken_by old) old r
  finish_begun (Ok end) b e = (
    refl,
    marked_alone old b.marked,
    subst (λ l. IsWide l → ⊥) (append-nil (taken_by old)) (b.marked.narrow []),
    inr (e.0, e.1 b.so_far),
  )
  finish_begun (Err f) b e =
      inl (
        e.0,
        record {
          mark = old.mark.items;
          text = old.text.items;
          split = marked_alone old b.marked;
          one = b.so_far.one;
          inside = e.1 b.so_far;
        },
      )

  -- the bytes are shorter than a mark, and end
  module _ (u : IsUndecided old) where
    -- all bytes that were taken are those that are kept for the mark
    all_of : taken_by old ≡ old.mark.items
    all_of = kept_alone old u.none

    -- a split of the kept bytes into mark and text is one of all bytes that were taken
    split_of : SplitsMark old.mark.items new.mark.items new.text.items → SplitsMark (taken_by old) new.mark.items new.text.items
    split_of s = subst (λ l. SplitsMark l new.mark.items new.text.items) (sym all_of) s

    -- bytes that are shorter than a mark don't begin with one of UTF-16
    narrow_of : IsWide (taken_by old) → ⊥
    narrow_of = subst (λ l. IsWide l → ⊥) (sym all_of) (short_narrow old.mark.items u.may_be)

    -- the bytes end: those that are kept are split into mark and text, and a line feed ends the text's first row, of
    -- the length `end`
    pub finish_ended : (end : ℕ) → BeginsText S old new (Ok (Some end)) → FinishesText S (taken_by old) new (Ok end)
    finish_ended end b = (split_whole old.mark.items new b.1 ∙ sym all_of, split_of b.1, narrow_of, inl b.2)

    -- the bytes end: those that are kept are split into mark and text, the text is one row, and `r` is the result of
    -- ending it
    pub finish_last : (r : Result ℕ ToolFault) → BeginsText S old new (Ok None) → EndsText S new r → FinishesText S (taken_by old) new r
    finish_last (Ok end) b e = (split_whole old.mark.items new b.1 ∙ sym all_of, split_of b.1, narrow_of, inr (e.0, e.1 b.2))
    finish_last (Err f) b e =
        inl (
          e.0,
          record {
            mark = new.mark.items;
            text = new.text.items;
            split = split_of b.1;
            one = b.2.one;
            inside = e.1 b.2;
          },
        )

    -- the bytes end: those that are kept are split, and their text can't be taken, for the fault `f`
    pub finish_stopped : (f : ToolFault) → BeginsText S old new (Err f) → FinishesText S (taken_by old) new (Err f)
    finish_stopped f (inl memory) = inr (inl memory)
    finish_stopped f (inr long) = inr (inr (inr (long.0, subst (HasLongHeading S) (sym all_of) long.1)))
