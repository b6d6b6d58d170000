use Rattle.std.proofs.Common.{◌+◌, List, ℕ, sym, subst}
use Rattle.lt_range.proofs.PreferenceLemmas.{AcceptsOn, accepts_next, accepts_end}
use Rattle.lt_range.proofs.preferences.filter_accepted.Goals as goal

-- after a turn the places so far, with what the ranges left accept, are still what all accept: those of its range are
-- added
pub loop-index-preserved : goal.loop-index-preserved
loop-index-preserved c =
    let all = c.args.all.now in
    let tags = c.args.tags.now in
    let i = c.loop-index.index in
    let found = c.loop-index.places.items in
    let added = c.in_ok-append_accepted.ensures in
    subst (λ (l : List ℕ). AcceptsOn all tags (i + 1) l) (sym added.1)
    (accepts_next all tags i found added.0 c.loop-index-test.true added.2 c.loop-index.invariant)

-- the places are what all ranges accept: no range is left
pub returns : goal.returns
returns c = accepts_end c.args.all.now c.args.tags.now c.loop-index.index c.loop-index.places.items
    c.loop-index-test.false c.loop-index.invariant
