use Rattle.std.proofs.Common.{◌≡◌, ◌∙◌, ap, sym, subst}
use Rattle.lt_tag.specs.Lists.{list_of}
use Rattle.lt_tag.specs.Conventional.{conventional}
use Rattle.lt_check.specs.Staying.{IsStaying}
use Rattle.lt_range.specs.OtherSpellings.{StaysAs}
use Rattle.lt_range.proofs.StayingLemmas.{shown_listed, stays_as}
use Rattle.lt_range.proofs.matched.staying_subtags.Goals as goal
use Rattle.lt_range.proofs.matched.staying_subtags.Goals.{After-text_of_tag_has_its_list}

-- the flags are those of the registry, so the text stays as it is
stay : (g : _) (c : After-text_of_tag_has_its_list g) → IsStaying (g.L.Lookup.listed c.args.table.now) c.args.text.now
stay g c =
    let R = g.L.Lookup.listed c.args.table.now in
    (c.in_ok-append_text.ensures.exact R (rw c.checked-checked.ensures at c.usual.ensures.flags)).0 c.if-not-branch.false

-- what was appended is the text in conventional case
shown : (g : _) (c : After-text_of_tag_has_its_list g) → c.append_text.new.texts.items ≡ conventional (list_of c.args.text.now)
shown g c =
    let R = g.L.Lookup.listed c.args.table.now in
    rw c.new-shown.ensures.items at c.in_ok-append_text.ensures.appended R
    (rw c.checked-checked.ensures at c.usual.ensures.flags) c.if-not-branch.false

-- each piece of it is a subtag
pub of_text-requires : goal.of_text-requires
of_text-requires g c =
    let a = goal.at.of_text-requires g c in
    let R = g.L.Lookup.listed c.args.table.now in
    let d = a.After-text_of_tag_has_its_list in
    rw (c.deref.ensures.value, shown g d) (shown_listed R c.args.text.now (stay g d) c.text_of_tag_has_its_list.ensures).0

-- its pieces are those of the text, and the language is no extlang
pub returns : goal.returns
returns g c =
    let d = (goal.at.returns g c).After-text_of_tag_has_its_list in
    let R = g.L.Lookup.listed c.args.table.now in
    let listed = shown_listed R c.args.text.now (stay g d) c.text_of_tag_has_its_list.ensures in
    let same : c.in_ok-subtags.subtags ≡ list_of c.args.text.now =
    c.in_ok-subtags.ensures ∙ ap list_of (c.deref.ensures.value ∙ shown g d) ∙ listed.1 in
    subst (StaysAs R c.args.text.now) (sym same) (stays_as R c.args.text.now (stay g d)
    (rw c.checked-checked.ensures at c.usual.ensures.checked)
    (λ s ss is. rw (← c.checked-checked.ensures, ← c.table.ensures.value) (sym
    (c.begins_with_extlang.ensures s ss (same ∙ is)) ∙ c.if-begins_with_extlang.false)))
