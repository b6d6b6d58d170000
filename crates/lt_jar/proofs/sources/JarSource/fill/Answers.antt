use Rattle.std.proofs.Common.{◌≡◌, ◌∙◌, ◌-◌, ℕ, true, sym, subst, take, arith}
use Rattle.std.specs.Str.{is_utf8}
use Rattle.lt_jar.proofs.SourceLemmas.{found_text}
use Rattle.lt_jar.proofs.sources.JarSource.fill.Goals as goal

-- the source keeps that unread bytes are UTF-8 where `is_text` is true: so it is only if the check accepted those that
-- the read gave
pub invariant_of-self-in-Ok-clause-text : goal.invariant_of-self-in-Ok-clause-text
invariant_of-self-in-Ok-clause-text g c =
    let count = c.in-Ok.count in
    let same : count ≡ count - 0 = omega arith in
    λ is. subst (λ (n : ℕ). is_utf8 (take n c.read.new.buf) ≡ true) same
    (found_text c.from_utf8.result (take count c.read.new.buf) c.from_utf8.ensures (sym c.is_ok-self.ensures.value ∙ is))
