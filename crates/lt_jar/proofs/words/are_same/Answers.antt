use Rattle.std.proofs.Common.{◌∙◌, ◌-◌, length, take, drop, refl, sym, ap, arith}
use Rattle.std.specs.Int.{from_le_bytes, w32, w64}
use Rattle.std.proofs.lemmas.Bool.{eqb-true, eq-eqb}
use Rattle.lt_jar.proofs.WordLemmas.{same_by_fours, same_by_eights}
use Rattle.lt_jar.proofs.words.are_same.Goals as goal

-- two texts of 4 to 7 bytes are the same exactly if their first four and their last four are
pub returns-then-four_at : goal.returns-then-four_at
returns-then-four_at c =
    let xs = c.args.one.now in
    let ys = c.args.other.now in
    let n = length xs in (
      λ h. same_by_fours n xs ys refl (omega (arith, c.if-count-other.false)) (omega (arith, c.if-count-lt4.false))
          (omega (arith, c.if-count-lt8.true))
          (λ i. omega (arith, c.type_inv.one i)) (λ i. omega (arith, c.type_inv.other i))
          (sym c.four_at.ensures ∙ c.if-four_at.true ∙ c.four_at-then-count-lt8.ensures)
          (sym c.four_at-then-four_at.ensures ∙ eqb-true _ _ h ∙ c.four_at-then-four_at-2.ensures),
      λ e. eq-eqb _ _ (c.four_at-then-four_at.ensures ∙ ap (λ l. from_le_bytes w32 (take 4 (drop (n - 4) l))) e
          ∙ sym c.four_at-then-four_at-2.ensures),
    )

-- two texts of 8 to 16 bytes are the same exactly if their first eight and their last eight are
pub returns-then-eight_at : goal.returns-then-eight_at
returns-then-eight_at c =
    let xs = c.args.one.now in
    let ys = c.args.other.now in
    let n = length xs in (
      λ h. same_by_eights n xs ys refl (omega (arith, c.if-count-other.false)) (omega (arith, c.if-count-lt8.false))
          (omega (arith, c.if-count-gt16.false))
          (λ i. omega (arith, c.type_inv.one i)) (λ i. omega (arith, c.type_inv.other i))
          (sym c.eight_at.ensures ∙ c.if-eight_at.true ∙ c.eight_at-else-count-lt8.ensures)
          (sym c.eight_at-then-eight_at.ensures ∙ eqb-true _ _ h ∙ c.eight_at-then-eight_at-2.ensures),
      λ e. eq-eqb _ _ (c.eight_at-then-eight_at.ensures ∙ ap (λ l. from_le_bytes w64 (take 8 (drop (n - 8) l))) e
          ∙ sym c.eight_at-then-eight_at-2.ensures),
    )
