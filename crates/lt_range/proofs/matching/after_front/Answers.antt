use Rattle.std.proofs.Common.{◌≡◌, ◌++◌, List, ℕ, [], ◌∷◌, true, false, length, take, get_or, sym, ap, ◌∙◌, arith}
use Rattle.std.proofs.lemmas.List.{take_more}
use Rattle.lt_tag.proofs.ListLemmas.{head_is}
use Rattle.lt_range.proofs.FrontLemmas.{front_next, front_stops}
use Rattle.lt_range.proofs.matching.after_front.Goals as goal
use Rattle.lt_range.proofs.matching.after_front.Goals.{in_default-via-in-Some+else-are_same, in_default-via-in_default}

-- None is right, as the list does not begin with `front`: the next subtag of the list is another one, or there is none
pub returns-in_default : goal.returns-in_default
returns-in_default c =
    let front = c.args.front.now in
    let i = c.loop-subtag.subtag-index in
    let s = c.subtag-item.result in
    elim c.in_default.branch [
      | in_default-via-in-Some+else-are_same w ↦ front_stops front _ _ i s c.loop-subtag-test.true c.loop-subtag.invariant
          (λ others e.
          let here : w.in-Some.first.now ≡ get_or front i s = head_is _ _ w.in-Some.others.now others (sym w.in-Some.ensures.cases.0 ∙ e) in
          let bad : false ≡ true = w.if-are_same.ensures.1 (here ∙ sym c.subtag-item.is) in
          cc)
      | in_default-via-in_default w ↦ front_stops front _ _ i s c.loop-subtag-test.true c.loop-subtag.invariant
          (λ others e. omega (arith, w.in_default.ensures.cases, ap length e))
    ]

-- after a turn the list begins with one subtag more of `front`, and `rest` is what follows these
pub loop-subtag-preserved : goal.loop-subtag-preserved
loop-subtag-preserved c =
    let front = c.args.front.now in
    let i = c.loop-subtag.subtag-index in
    let s = c.subtag-item.result in
    let same : c.in-Some.first.now ≡ s = c.if-are_same.ensures.0 (let t : true ≡ true = cc in t) in
    front_next front _ _ _ i c.in-Some.first.now c.loop-subtag.invariant c.in-Some.ensures.cases.0
    (take_more front i s c.loop-subtag-test.true ∙ ap (λ (x : List ℕ). take i front ++ x ∷ []) (sym c.subtag-item.is ∙ sym same))
