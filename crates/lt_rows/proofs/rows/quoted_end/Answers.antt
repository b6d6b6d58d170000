use Rattle.std.proofs.Common.{◌≢◌, arith}
use Rattle.lt_rows.proofs.FieldLemmas.{quoted_last, quoted_more, tail_long}
use Rattle.lt_rows.proofs.rows.quoted_end.Goals as goal

-- The clause of `quoted_end`, EndsField, where the next quote settles it.

-- the quote that closes the field is the last byte, so no delimiter is outside of quotes
pub returns-then-end-count : goal.returns-then-end-count
returns-then-end-count c =
    quoted_last c.args.delimiter c.args.text.now c.args.count c.requires.count.0 c.requires.count.1 c.requires.quote
    c.in-Some.within c.in-Some.ensures
    (λ e. omega (arith, e, c.if-delimiter-ne34.true)) c.if-end-count.true

-- the delimiter right behind the quote that closes the field is the first outside of quotes
pub returns-then-text-end : goal.returns-then-text-end
returns-then-text-end c =
    let d = c.args.delimiter in
    let text = c.args.text.now in
    let within = c.in-Some.within in
    let unquoted : d ≢ 34 = λ e. omega (arith, e, c.if-delimiter-ne34.true) in
    let long = tail_long d text c.args.count c.requires.count.0 c.requires.count.1 c.requires.quote within c.in-Some.ensures unquoted in
    quoted_more d text c.args.count c.requires.count.0 c.requires.count.1 c.requires.quote within c.in-Some.ensures unquoted
    (omega (arith, long, c.in-Some.ensures.0, c.if-end-count.false, c.requires.count.0)) c.if-text-end.true
