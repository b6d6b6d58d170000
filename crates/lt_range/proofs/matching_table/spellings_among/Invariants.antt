use Rattle.lt_range.proofs.SpellingLemmas.{AmongOn}
use Rattle.lt_range.proofs.matching_table.spellings_among.Given as goal

-- the lists so far, with any after them that are among the rows left, are those among all rows
abbrev pub invariant-loop-row : goal.invariant-loop-row
invariant-loop-row l = AmongOn l.canonical l.rows l.row-index l.lists.items
