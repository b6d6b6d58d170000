use Rattle.std.proofs.Common.{◌≡◌, length}
use Rattle.lt_rows.specs.Quotes.{place_at}
use Rattle.lt_rows.proofs.quotes.after_text.Given as goal

-- the rest of the text leads from the place `now` to where the whole text leads from the first place
abbrev pub invariant-loop-front : goal.invariant-loop-front
invariant-loop-front l = place_at l.delimiter l.fn.place l.text ≡ place_at l.delimiter l.now l.rest

-- so it ends: each turn leaves less of the text
abbrev pub decreases-loop-front : goal.decreases-loop-front
decreases-loop-front l = length l.rest
