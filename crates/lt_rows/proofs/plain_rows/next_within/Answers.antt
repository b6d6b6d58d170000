use Rattle.std.proofs.Common.{◌∙◌, arith, sym}
use Rattle.lt_rows.proofs.PlainLemmas.{next_far, next_inside, next_none, places_on}
use Rattle.lt_rows.proofs.plain_rows.next_within.Goals as goal

-- The clauses `next` and `rest` of `next_within`, for any byte and text whose places are left.

-- the first place that is left is among the first `count` bytes, so it is the next
pub returns-then-end-count-clause-next : goal.returns-then-end-count-clause-next
returns-then-end-count-clause-next c = λ byte start text near is le all.
    next_inside byte c.args.count start text near is le c.in-Some.end _ (omega (arith, c.if-end-count.true))
    (sym all ∙ c.in-Some.ensures.steps)

-- the places that are left then are those behind this one
pub returns-then-end-count-clause-rest : goal.returns-then-end-count-clause-rest
returns-then-end-count-clause-rest c = λ byte start near all. places_on byte start c.in-Some.end near c.next.new.self
    (sym all ∙ c.in-Some.ensures.steps)

-- the first place that is left is behind the first `count` bytes, so the byte isn't among them any more
pub returns-else-end-count-clause-next : goal.returns-else-end-count-clause-next
returns-else-end-count-clause-next c = λ byte start text near is le all.
    next_far byte c.args.count start text near is le c.in-Some.end _ (omega (arith, c.if-end-count.false))
    (sym all ∙ c.in-Some.ensures.steps)

-- no place is left, so the byte isn't among the first `count` any more
pub returns-in-None-clause-next : goal.returns-in-None-clause-next
returns-in-None-clause-next c = λ byte start text near is le all. next_none byte c.args.count start text near is le
    (sym all ∙ c.in-None.ensures.steps.0)
