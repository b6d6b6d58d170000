use Rattle.std.proofs.Common.{◌≡◌, ◌<◌, ℕ, Equal, get_or}
use Rattle.lt_rewrite.proofs.part_applying.has_like.Given as goal

-- no part so far is equal in the order to the one at the index
abbrev pub invariant-loop-earlier : goal.invariant-loop-earlier
invariant-loop-earlier g l = (k : ℕ) → k < l.earlier
    → ((d : _) → g.P.Part.order (get_or l.parts l.index d) (get_or l.parts k d) ≡ Equal) → ⊥
