use Rattle.std.proofs.Common.{ℕ, ◌<◌, ◌^◌, get_or}
use Rattle.lt_answers.proofs.laws.numbers_fit.Given as goal

-- the number of each entry so far fits into 32 bits
abbrev pub invariant-loop-entry : goal.invariant-loop-entry
invariant-loop-entry g l = (k : ℕ) (d : _) → k < l.entry-index → (get_or l.entry-items k d).number < 2 ^ 32
