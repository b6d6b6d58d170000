use Rattle.std.proofs.Common.{◌+◌, sym, ap, ◌∙◌, arith}
use Rattle.std.proofs.lemmas.List.{get_or_read}
use Rattle.lt_rewrite.proofs.FirstSteps.{swap_step, swap_led, holds_at}
use Rattle.lt_rewrite.proofs.part_applying.swap_at.Goals as goal

-- false is right: an exchange needs a part that begins at this place, and none does
pub returns-in_default : goal.returns-in_default
returns-in_default g c = λ ys s.
    let P = g.P.Spelled.spell in
    let at = swap_step s in
    (rw c.deref.ensures.value at c.in_default.ensures) at.index at.within at.is_place

-- false is right: the part that begins at this place is the last, and has none to change places with
pub returns-then-len-index : goal.returns-then-len-index
returns-then-len-index g c = λ ys s.
    let P = g.P.Spelled.spell in
    let xs = c.args.parts.now.items in
    let at = rw c.deref.ensures.value at c.in-Some.ensures in
    let more = (holds_at g.met.P.Spelled.some (swap_step s) c.in-Some.index at.0 at.1).0 in
    omega (arith, more, c.if-len-index.true, c.len.ensures)

-- the part that begins at this place and the next one are in falling order, and change places
pub returns-in-Less : goal.returns-in-Less
returns-in-Less g c =
    let P = g.P.Spelled.spell in
    let xs = c.args.parts.now.items in
    let i = c.in-Some.index in
    let at = rw c.deref.ensures.value at c.in-Some.ensures in
    swap_led i (omega (arith, c.if-len-index.false, c.len.ensures))
    (λ d.
    ap (g.P.Part.order _) (sym (get_or_read xs i c.index-2.result.now at.0 c.index-2.ensures d))
    ∙ ap (λ y. g.P.Part.order y c.index-2.result.now) (sym
    (get_or_read xs (i + 1) c.index.result.now (omega (arith, c.if-len-index.false, c.len.ensures)) c.index.ensures
    d)) ∙ sym c.compare.ensures ∙ c.in-Less.is)
    at.1 c.swap.ensures.items

-- false is right: the part that begins at this place and the next one are not in falling order
pub returns-in_default-compare : goal.returns-in_default-compare
returns-in_default-compare g c = λ ys s.
    let P = g.P.Spelled.spell in
    let xs = c.args.parts.now.items in
    let i = c.in-Some.index in
    let x = c.index-2.result.now in
    let at = rw c.deref.ensures.value at c.in-Some.ensures in
    let falls = (holds_at g.met.P.Spelled.some (swap_step s) i at.0 at.1).1 in
    c.in_default-compare.not-Less
    (c.compare.ensures
    ∙ ap (λ y. g.P.Part.order y x) (get_or_read xs (i + 1) c.index.result.now
    (omega (arith, c.if-len-index.false, c.len.ensures)) c.index.ensures x)
    ∙ ap (g.P.Part.order _) c.index-2.ensures ∙ falls x)
