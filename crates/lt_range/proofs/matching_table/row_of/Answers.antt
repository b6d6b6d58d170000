use Rattle.std.proofs.Common.{◌≡◌, rules}
use Rattle.lt_registry.specs.declared.entries.EntryName.TheVariants as names
use Rattle.lt_range.proofs.SpellingLemmas.{row_found}
use Rattle.lt_range.proofs.matching_table.row_of.Goals as goal

-- the record is of a whole tag that has a canonical form, and so of their row, if the two are not spelled alike
pub returns-in-Ok : goal.returns-in-Ok
returns-in-Ok g c =
    let R = g.L.Lookup.listed c.args.checked.now in
    let named : c.args.entry.now.name ≡ names.Whole c.tag-in-Ok.result.now = search rules in
    row_found R c.table.ensures.checked c.args.entry.now c.tag-in-Ok.result.now c.in-Ok.form c.row_of_tag.result named
    (rw (c.tag-in-Ok.ensures, ← c.tag.ensures) c.in-Ok.ensures.ok) c.row_of_tag.ensures
