-- Any number of steps, one after another (`Star`), from one value to another.
use Rattle.std.proofs.Common.{◌≡◌, subst}
use Rattle.lt_rewrite.specs.Rewriting.{Star, done, then}

-- if steps lead from `a` to `b` and from `b` to `c`, steps lead from `a` to `c`
pub star_trans : {A : Type 0} {Step : A → A → Type 0} {a b c : A} → Star Step a b → Star Step b c → Star Step a c
star_trans done t = t
star_trans (then s r) t = then s (star_trans r t)

-- a value is reached from an equal one by no step
pub star_path : {A : Type 0} {Step : A → A → Type 0} (a b : A) → a ≡ b → Star Step a b
star_path {A} {Step} a b e = subst (λ x. Star Step a x) e done
