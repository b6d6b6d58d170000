use Rattle.std.proofs.Common.{◌≡◌, length, sym, ap, subst}
use Rattle.lt_registry.specs.Parts.{EntryParts}
use Rattle.lt_rewrite.specs.Conditions.{next_value}
use Rattle.lt_rewrite.specs.ChainEnds.{following}
use Rattle.lt_rewrite.specs.Shortcuts.{IsOnward, ShortcutParts}
use Rattle.lt_rewrite.proofs.ShortcutWalks.{onward_form, led_far, some_follows}
use Rattle.lt_rewrite.proofs.shortcuts.Shortcuts.further.Goals as goal

-- the subtag leads to the answer over at least as many values as there are records, or to the end of its chain: the
-- shortcut of its entry leads to a record with such a value
pub returns-clause-onward : goal.returns-clause-onward
returns-clause-onward g c =
    let R = g.L.Lookup.listed c.args.table.now in
    let k = c.args.kind in
    let s = c.args.subtag.now in
    let e : EntryParts = c.in-Some.entry.now in
    let last : EntryParts = c.index-entries-index.result in
    let v = some_follows c.following.result (following k e) c.following.ensures c.if-is_none.ensures in
    let far = led_far R c.entries-entries.result.now k s v.0 c.self.inside.places.items c.args.self.now.places
    c.place_of.result c.index.result.now e last c.requires.chains c.entries-entries.ensures.value
    (ap (λ (s : ShortcutParts). s.places) c.self.view_is) (sym c.in-Some.ensures) v.1 c.place_of.ensures
    c.index.ensures c.index-entries-index.is in
    let same : far.0 ≡ c.in-Some-following.value.now = cc (far.1, c.in-Some-following.ensures) in
    subst (IsOnward (next_value R k) (length R) s) same far.2

-- each value of a chain has the form of its kind, if the subtag has it
pub returns-clause-form : goal.returns-clause-form
returns-clause-form g c =
    let R = g.L.Lookup.listed c.args.table.now in
    onward_form R (record { rising = c.entries-entries.ensures.rising; forms = c.entries-entries.ensures.forms })
    c.args.kind (length R) c.args.subtag.now c.in-Some-following.value.now (returns-clause-onward g c)
