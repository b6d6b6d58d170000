use Rattle.std.proofs.Common.{◌∙◌, sym, ap}
use Rattle.lt_rows.specs.Quotes.{is_quoted, place_after}
use Rattle.lt_rows.proofs.StopLemmas.{free_past, free_to_end, inside_past, place_past, split_there}
use Rattle.lt_rows.proofs.quotes.split_outside.Goals as goal

-- The clause of `split_outside`, SplitsOutside, where it finds a `stop` and where it doesn't, and the invariant after a
-- turn.

-- this `stop` is outside of quotes, and all before it are within
pub returns-then-not-is_quoted : goal.returns-then-not-is_quoted
returns-then-not-is_quoted c =
    split_there c.args.delimiter c.args.stop c.args.text.now c.loop-front.passed c.in-Some.front.now c.in-Some.after.now
    c.loop-front.invariant.inside c.in-Some.ensures.1
    c.loop-front.place c.loop-front.invariant.place c.loop-front.invariant.free c.in-Some.ensures.0
    (ap is_quoted (sym c.after_text-place.ensures) ∙ sym c.is_quoted.ensures ∙ c.if-not-is_quoted.true)

-- this `stop` is within quotes, and is passed
pub loop-front-preserved : goal.loop-front-preserved
loop-front-preserved c =
    let quoted = ap is_quoted (sym c.after_text-place.ensures) ∙ sym c.is_quoted.ensures ∙ c.if-not-is_quoted.false in
    record {
      inside = inside_past c.args.delimiter c.args.stop c.args.text.now c.loop-front.passed c.in-Some.front.now
          c.in-Some.after.now c.loop-front.invariant.inside c.in-Some.ensures.1;
      place = c.after-place.ensures ∙ ap (λ p. place_after c.args.delimiter p c.args.stop) c.after_text-place.ensures
          ∙ place_past c.args.delimiter c.args.stop c.args.text.now c.loop-front.passed c.in-Some.front.now
          c.in-Some.after.now c.loop-front.invariant.inside c.in-Some.ensures.1
          c.loop-front.place c.loop-front.invariant.place c.loop-front.invariant.free c.in-Some.ensures.0;
      free = free_past c.args.delimiter c.args.stop c.args.text.now c.loop-front.passed c.in-Some.front.now
          c.in-Some.after.now c.loop-front.invariant.inside c.in-Some.ensures.1
          c.loop-front.place c.loop-front.invariant.place c.loop-front.invariant.free c.in-Some.ensures.0 quoted;
    }

-- no `stop` is left, so all are within quotes
pub returns : goal.returns
returns c = free_to_end c.args.delimiter c.args.stop c.args.text.now c.loop-front.passed c.loop-front.invariant.free c.in_default.ensures
