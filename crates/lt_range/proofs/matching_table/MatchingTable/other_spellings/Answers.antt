use Rattle.std.proofs.Common.{rules}
use Rattle.lt_check.specs.Conditions.{IsChecked}
use Rattle.lt_range.specs.OtherSpellings.{AreRows}
use Rattle.lt_range.proofs.SpellingLemmas.{others_ok}
use Rattle.lt_range.proofs.matching_table.MatchingTable.other_spellings.Goals as goal

-- the lists are the other spellings of the tag, since the rows are those of all records
pub returns : goal.returns
returns g c =
    let R = g.L.Lookup.listed c.args.self.now in
    let C : IsChecked R = search rules in
    let rows : AreRows R R c.deref.result.now = search rules in
    others_ok R C c.args.canonical.now c.deref.result.now c.spellings_among.result rows c.spellings_among.ensures
