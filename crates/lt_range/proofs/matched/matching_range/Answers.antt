use Rattle.std.proofs.Common.{◌≡◌, ◌∷◌, ◌∙◌, false, ℕ, List, rules, sym, subst}
use Rattle.lt_range.specs.Matched.{HasNoSubtags, HasSubtags}
use Rattle.lt_range.proofs.PlainRanges.{none_as, some_as}
use Rattle.lt_range.proofs.matched.matching_range.Goals as goal

-- the first subtag alone is a tag that has an extlang form, and this stands in its place
pub returns-in-Some-2 : goal.returns-in-Some-2
returns-in-Some-2 g c =
    let R = g.L.Lookup.listed c.args.table.now in
    let w : c.args.written.wild ≡ false = sym c.begins_wild.ensures ∙ c.if-begins_wild.false in
    let n : c.args.written.named ≡ c.in-Some.first.now ∷ c.in-Some.others.now = search rules in
    let has : HasSubtags R c.bytes.result.now c.in-Some-2.front = rw c.in-Some-2.is at c.in_ok-front.ensures in
    let same : c.bytes.result.now ≡ c.in-Some.first.now = search rules in
    some_as R c.args.written c.in-Some.first.now c.in-Some.others.now c.in-Some-2.front c.of_front.result w n
    (subst (λ (s : List ℕ). HasSubtags R s c.in-Some-2.front) same has) c.of_front.ensures

-- the first subtag alone is no tag that has an extlang form, so the range matches as it is written
pub returns-in-None : goal.returns-in-None
returns-in-None g c =
    let R = g.L.Lookup.listed c.args.table.now in
    let w : c.args.written.wild ≡ false = sym c.begins_wild.ensures ∙ c.if-begins_wild.false in
    let n : c.args.written.named ≡ c.in-Some.first.now ∷ c.in-Some.others.now = search rules in
    let none : HasNoSubtags R c.bytes.result.now = rw c.in-None.is at c.in_ok-front.ensures in
    let same : c.bytes.result.now ≡ c.in-Some.first.now = search rules in
    none_as R c.args.written c.in-Some.first.now c.in-Some.others.now w n (subst (λ (s : List ℕ). HasNoSubtags R s) same none)
