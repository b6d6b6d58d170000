use Rattle.std.proofs.Common.{[], ◌∷◌, ◌++◌, ◌∙◌, ap, append-nil, sym}
use Rattle.std.proofs.lemmas.Result.{err_from_is_err_and}
use Rattle.lt_heading.proofs.TakenLemmas.{turn_ends, turn_feed_long, turn_last, turn_long, turn_next}
use Rattle.lt_heading.proofs.first_rows.take_text.Goals as goal

-- The clause of `take_text`, TakesText, at each of its ends, and the invariant after a turn.

-- the bytes before the line feed make the row too long, or memory ran out for them
pub returns-in_err-place : goal.returns-in_err-place
returns-in_err-place c =
    let p = err_from_is_err_and c.from_residual.result c.from_residual.ensures.1 in
    rw (p.1, p.2) (turn_long _ _ _ _ _ _ c.loop-part.invariant c.in-Some.part.now (10 ∷ c.in-Some.after.now)
    c.append_part.new.text.items c.loop-part.place _ c.in-Some.ensures.0 c.in-Some.ensures.1 c.in_err-place.ensures)

-- the line feed is outside of quotes and ends the row, whose length is that of the text before it
pub returns-then-not-is_quoted : goal.returns-then-not-is_quoted
returns-then-not-is_quoted c =
    let items = c.in_ok-extend_from_slice-2.ensures.items ∙ ap (λ l. l ++ c.in-Some.after.now) c.in_ok-extend_from_slice.ensures.items in
    let end = c.len-end.ensures ∙ c.append_part.new.text.ok.0 in
    rw (items, end) (turn_ends _ _ _ _ _ _ c.loop-part.invariant c.in-Some.part.now c.in-Some.after.now _ _
    c.in-Some.ensures.0 c.in_ok-place.ensures c.in-Some.ensures.1
    c.in_ok-place.field-0 (sym c.is_quoted.ensures ∙ c.if-not-is_quoted.true))

-- the line feed is within quotes and makes the row too long, or memory ran out for it
pub returns-in_err-place-2 : goal.returns-in_err-place-2
returns-in_err-place-2 c =
    let p = err_from_is_err_and c.from_residual-in_err-place-2.result c.from_residual-in_err-place-2.ensures.1 in
    rw (p.1, p.2) (turn_feed_long _ _ _ _ _ _ c.loop-part.invariant c.in-Some.part.now c.in-Some.after.now _ _
    c.in-Some.ensures.0 c.in_ok-place.ensures c.in-Some.ensures.1
    c.append_part-in-Some.new.text.items c.in_ok-place.field-0 _ (sym c.is_quoted.ensures ∙ c.if-not-is_quoted.false)
    c.in_err-place-2.ensures)

-- a turn appends the bytes up to a line feed within quotes, and the line feed
pub loop-part-preserved : goal.loop-part-preserved
loop-part-preserved c =
    turn_next _ _ _ _ _ _ c.loop-part.invariant c.in-Some.part.now c.in-Some.after.now _ _ c.in-Some.ensures.0
    c.in_ok-place.ensures c.in-Some.ensures.1
    _ _ (sym c.is_quoted.ensures ∙ c.if-not-is_quoted.false) c.in_ok-place-2.ensures

-- the rest of the piece makes the row too long, or memory ran out for it
pub returns-in_err-place-3 : goal.returns-in_err-place-3
returns-in_err-place-3 c =
    let p = err_from_is_err_and c.from_residual-in_err-place-3.result c.from_residual-in_err-place-3.ensures.1 in
    let rest = c.loop-part.rest.now in
    rw (p.1, p.2) (turn_long _ _ _ _ _ _ c.loop-part.invariant rest [] c.append_part-2.new.text.items c.loop-part.place
    _ c.in_default.ensures (sym (append-nil rest)) c.in_err-place-3.ensures)

-- no line feed is left: the rest is appended, and the row goes on
pub returns : goal.returns
returns c = turn_last _ _ _ _ _ _ c.loop-part.invariant _ _ c.in_default.ensures c.in_ok-place-3.ensures
