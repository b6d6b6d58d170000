use Rattle.std.proofs.Common.{ℕ, List, sym, ap, ◌∙◌}
use Rattle.lt_registry.specs.Parts.{EntryParts}
use Rattle.lt_registry.specs.Entries.{entry}
use Rattle.lt_rewrite.specs.ChainEnds.{following}
use Rattle.lt_rewrite.proofs.ShortcutWalks.{to_itself, none_after}
use Rattle.lt_rewrite.proofs.shortcuts.next_place.Goals as goal

-- no value follows the value of the entry, so its shortcut leads to the entry itself
pub returns-in-None-clause-shortcut : goal.returns-in-None-clause-shortcut
returns-in-None-clause-shortcut g c =
    let R = g.L.Lookup.listed c.args.table.now in
    let e : EntryParts = c.args.entry.now in
    let next : EntryParts = c.in-Some-entry.next.now in
    let w : List ℕ = c.in-Some.value.now in
    to_itself R c.args.place e w c.requires (ap (λ k. following k e) (sym c.kind.ensures.value) ∙ sym c.in-Some.ensures)
    (none_after R e.kind w next (ap (λ k. entry R k w) (sym c.kind-2.ensures.value) ∙ sym c.in-Some-entry.ensures)
    (ap (λ k. following k next) (sym c.kind-3.ensures.value) ∙ sym c.in-None.ensures))
