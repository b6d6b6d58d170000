use Rattle.std.proofs.Common.{◌≡◌, rules}
use Rattle.lt_tag.specs.WellFormed.{spell}
use Rattle.lt_range.proofs.SpellingLemmas.{spells_some}
use Rattle.lt_range.proofs.matching_table.row_of_tag.Goals as goal

-- the canonical form has a subtag
pub unreachable-requires : goal.unreachable-requires
unreachable-requires c =
    let all : c.subtags-3.result.now ≡ spell c.args.canonical.now = search rules in
    spells_some c.args.canonical.now (rw all at c.in_default.ensures.cases)
