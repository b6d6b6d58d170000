use Rattle.std.proofs.Common.{map}
use Rattle.lt_range.specs.Available.{AreAvailable}
use Rattle.lt_range.proofs.available.Available.of_texts.Given as goal

-- `tags` are the lists of the texts so far
abbrev pub invariant-loop-place : goal.invariant-loop-place
invariant-loop-place g l = AreAvailable (g.L.Lookup.listed l.table) (map (λ text. text.now) l.texts) l.place l.tags.items
