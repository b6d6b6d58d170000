use Rattle.std.proofs.Common.{◌≡◌, ◌<◌, ℕ, List, Some, length, set, slice_get, get_or, ap, sym, ◌∙◌, subst, arith}
use Rattle.std.proofs.lemmas.List.{length-set, set-get_or}
use Rattle.std.proofs.lemmas.Option.{slice_get-get_or}
use Rattle.lt_rewrite.proofs.ShortcutWalks.{each_set, one_doubled, all_doubled, unmoved}
use Rattle.lt_rewrite.proofs.shortcuts.lengthen.Goals as goal

-- the invariant stays true: a turn makes one shortcut more twice as long; while none has changed, the places are what
-- they were
pub loop-index-preserved : goal.loop-index-preserved
loop-index-preserved c =
    let places : List ℕ = c.loop-index.places in
    let i : ℕ = c.loop-index.index in
    let j : ℕ = get_or places i 0 in
    let k : ℕ = get_or places j 0 in
    let at : slice_get places i ≡ Some j = slice_get-get_or places i 0 (omega arith) in
    let next : slice_get places j ≡ Some k = slice_get-get_or places j 0 (c.loop-index.invariant.within i j at) in
    record {
      within = subst (λ (n : ℕ). (m l : ℕ) → slice_get (set places i k) m ≡ Some l → l < n)
          (sym (length-set places i k))
          (each_set (λ m l. l < length places) places i k (λ m l other. c.loop-index.invariant.within m l)
          (c.loop-index.invariant.within j k next));
      same = λ no.
          let still = unmoved c.loop-index.grew k j (sym c.either-grew.ensures ∙ no) in
          ap (set places i) still.1 ∙ set-get_or places i 0 ∙ c.loop-index.invariant.same still.0;
      doubled = λ R n lead. one_doubled R n i j k places at next (c.loop-index.invariant.doubled R n lead);
    }

-- no shortcut is left, so all are twice as long
pub returns-clause-doubled : goal.returns-clause-doubled
returns-clause-doubled c = λ R n lead. all_doubled R n c.loop-index.index c.loop-index.places (omega arith)
    (c.loop-index.invariant.doubled R n lead)
