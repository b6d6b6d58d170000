-- Lemmas for the loop of `take_text`, which appends a piece to a text that is one row so far: what is true at each turn
-- of it (`TextTurn`), and what it gives where the row ends, goes on or gets too long.
use Rattle.std.proofs.Common.{◌≡◌, ◌++◌, ◌∷◌, ◌∙◌, inl, inr, ℕ, List, [], Some, None, Ok, Err, true, false, length, sym}
use Rattle.std.proofs.Common.{ap, refl, append_assoc, append-nil}
use Rattle.lt_jar.specs.Lines.{IsOneLine}
use Rattle.lt_rows.specs.Quotes.{is_quoted}
use Rattle.lt_rows.specs.declared.quotes.Place.{Place}
use Rattle.lt_rows.specs.declared.rows.Separator.{Separator}
use Rattle.lt_stream.specs.declared.faults.ToolFault.{ToolFault}
use Rattle.lt_heading.specs.Headings.{AppendsPart, IsRowSoFar, IsWholeRow, TakesText, is_open}
use Rattle.lt_heading.proofs.RowLemmas.{feed_within, one_more, place_more}

-- the state of the loop over a piece: its `front` was appended to `old`, the text before the piece, which gave
-- `text`; that is one row so far, and `rest` of the piece is left
pub record TextTurn (S : Separator) (old piece text : List ℕ) (place : Place) (rest : List ℕ) : Type 0 where
  pub front : List ℕ
  pub split : piece ≡ front ++ rest
  pub text_is : text ≡ old ++ front
  pub so_far : IsRowSoFar S text place

-- a text that is one row so far is a whole row, if its place is outside of quotes
pub whole_row : (S : Separator) (text : List ℕ) (place : Place) → IsRowSoFar S text place → is_quoted place ≡ false → IsWholeRow S text
whole_row S text place h closed = record { one = h.one; closed = ap is_quoted (sym h.place_is) ∙ closed; short = h.short }

-- before the loop nothing of the piece is appended, and all of it is left
pub turn_first : (S : Separator) (old piece : List ℕ) (place : Place) → IsRowSoFar S old place → TextTurn S old piece old place piece
turn_first S old piece place h = record { front = []; split = refl; text_is = sym (append-nil old); so_far = h }

-- `t` is the state of the loop over the piece
module _ (S : Separator) (old piece text : List ℕ) (place : Place) (rest : List ℕ) (t : TextTurn S old piece text place rest) where
  -- the text with the rest of the piece is the old text with all of the piece
  whole : text ++ rest ≡ old ++ piece
  whole = ap (λ l. l ++ rest) t.text_is ∙ append_assoc old t.front rest ∙ ap (λ l. old ++ l) (sym t.split)

  -- `part`, which has no line feed, was appended to the text, which gave `mid` and the place `next`
  module _ (part after mid : List ℕ) (next : Place) (one : IsOneLine part) (a : AppendsPart S place part text mid (Ok next)) where
    -- the text `mid`, after `part` was appended, is one row so far
    pub part_so_far : IsRowSoFar S mid next
    part_so_far = record {
      one = rw a.0 (one_more S text part t.so_far.one one);
      place_is = rw (a.0, place_more S text part, ← t.so_far.place_is) a.1;
      short = a.2;
    }

    -- `part` goes up to the first line feed of the rest, and `after` is what follows that
    module _ (cut : rest ≡ part ++ 10 ∷ after) where
      -- `mid` with the line feed and what is after it is the old text with all of the piece
      whole_after : mid ++ 10 ∷ after ≡ old ++ piece
      whole_after = ap (λ l. l ++ 10 ∷ after) a.0 ∙ append_assoc text part (10 ∷ after) ∙ ap (λ l. text ++ l) (sym cut) ∙ whole

      -- a line feed outside of quotes ends the row, which is `mid`; the rest of the piece is appended too
      pub turn_ends : (last : Place) → is_quoted next ≡ false
          → TakesText S piece old ((mid ++ 10 ∷ []) ++ after) last (Ok (Some (length mid)))
      turn_ends last closed = (
        append_assoc mid (10 ∷ []) after ∙ whole_after,
        record {
          row = mid;
          rest = after;
          cut = append_assoc mid (10 ∷ []) after;
          end_is = refl;
          whole = whole_row S mid next part_so_far closed;
        },
      )

      -- where the place after `part` is within quotes, `mid` ends within quotes
      inside_of : is_quoted next ≡ true → is_open S mid ≡ true
      inside_of inside = ap is_quoted (sym part_so_far.place_is) ∙ inside

      -- a line feed within quotes is appended, which gives `more`, and the loop goes on with what is after it
      pub turn_next : (more : List ℕ) (further : Place) → is_quoted next ≡ true
          → AppendsPart S next (10 ∷ []) mid more (Ok further) → TextTurn S old piece more further after
      turn_next more further inside b = record {
        front = t.front ++ (part ++ 10 ∷ []);
        split = t.split ∙ ap (λ l. t.front ++ l) (cut ∙ sym (append_assoc part (10 ∷ []) after))
            ∙ sym (append_assoc t.front (part ++ 10 ∷ []) after);
        text_is = b.0 ∙ ap (λ l. l ++ 10 ∷ []) (a.0 ∙ ap (λ l. l ++ part) t.text_is ∙ append_assoc old t.front part)
            ∙ append_assoc old (t.front ++ part) (10 ∷ [])
            ∙ ap (λ l. old ++ l) (append_assoc t.front part (10 ∷ []));
        so_far = record {
          one = rw b.0 (feed_within S mid part_so_far.one (inside_of inside));
          place_is = rw (b.0, place_more S mid (10 ∷ []), ← part_so_far.place_is) b.1;
          short = b.2;
        };
      }

      -- a line feed within quotes makes the row too long, or memory runs out for it
      pub turn_feed_long : (more : List ℕ) (last : Place) (f : ToolFault) → is_quoted next ≡ true
          → AppendsPart S next (10 ∷ []) mid more (Err f) → TakesText S piece old more last (Err f)
      turn_feed_long more last f inside (inl memory) = inl memory
      turn_feed_long more last f inside (inr long) = inr (
        long.0,
        record {
          begun = mid ++ 10 ∷ [];
          rest = after;
          cut = sym (append_assoc mid (10 ∷ []) after ∙ whole_after);
          one = feed_within S mid part_so_far.one (inside_of inside);
          long = long.1;
        },
      )

  -- bytes `part` without a line feed make the row too long, or memory runs out for them
  pub turn_long : (part after new : List ℕ) (last : Place) (f : ToolFault) → IsOneLine part → rest ≡ part ++ after
      → AppendsPart S place part text new (Err f) → TakesText S piece old new last (Err f)
  turn_long part after new last f one cut (inl memory) = inl memory
  turn_long part after new last f one cut (inr long) = inr (
    long.0,
    record {
      begun = text ++ part;
      rest = after;
      cut = sym (append_assoc text part after ∙ ap (λ l. text ++ l) (sym cut) ∙ whole);
      one = one_more S text part t.so_far.one one;
      long = long.1;
    },
  )

  -- the rest of the piece has no line feed: it is appended, and the text is one row so far
  pub turn_last : (new : List ℕ) (next : Place) → IsOneLine rest → AppendsPart S place rest text new (Ok next)
      → TakesText S piece old new next (Ok None)
  turn_last new next one a = (a.0 ∙ whole, part_so_far rest [] new next one a)
