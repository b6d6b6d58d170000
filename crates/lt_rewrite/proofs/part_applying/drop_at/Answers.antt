use Rattle.lt_rewrite.proofs.FirstSteps.{drop_step, drop_led, holds_at}
use Rattle.lt_rewrite.proofs.part_applying.drop_at.Goals as goal

-- false is right: a drop needs a part that begins at this place, and none does
pub returns-in_default : goal.returns-in_default
returns-in_default g c = λ ys s.
    let P = g.P.Spelled.spell in
    let at = drop_step s in
    (rw c.deref.ensures.value at c.in_default.ensures) at.index at.within at.is_place

-- false is right: no earlier part is equal in the order to the part that begins at this place
pub returns-then-not-has_like : goal.returns-then-not-has_like
returns-then-not-has_like g c = λ ys s.
    let P = g.P.Spelled.spell in
    let at = rw c.deref.ensures.value at c.in-Some.ensures in
    (rw c.deref-2.ensures.value at c.if-not-has_like.ensures)
    (holds_at g.met.P.Spelled.some (drop_step s) c.in-Some.index at.0 at.1)

-- the part that begins at this place is dropped, and an earlier one is equal to it in the order
pub returns : goal.returns
returns g c =
    let P = g.P.Spelled.spell in
    let at = rw c.deref.ensures.value at c.in-Some.ensures in
    drop_led c.in-Some.index c.remove.result at.0 at.1
    (rw c.deref-2.ensures.value at c.if-not-has_like.ensures) c.remove.ensures.value c.remove.ensures.items
