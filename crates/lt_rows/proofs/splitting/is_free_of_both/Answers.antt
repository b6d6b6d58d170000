use Rattle.std.proofs.Common.{◌≡◌, ◌∙◌, inl, inr, refl, sym, true, false}
use Rattle.std.proofs.lemmas.Bool.Decides.{leb_tells}
use Rattle.lt_rows.proofs.NearLemmas.{either_near, neither_before, neither_near}
use Rattle.lt_rows.proofs.splitting.is_free_of_both.Goals as goal

-- The clause of `is_free_of_both`, in both directions, where one of the bytes is found and where neither is.

-- one of the two was found first at this place, so both are absent exactly if it is behind the first `count`
pub returns-in-Some : goal.returns-in-Some
returns-in-Some c =
    let near = c.near.result.now in
    let index = c.in-Some.index in (
      λ far. elim (leb_tells c.args.count index) [
        | inl le ↦ neither_before c.args.count c.args.text.now near c.near.ensures c.args.one c.args.other index le.1 c.in-Some.ensures.0
        | inr lt ↦ let bad : true ≡ false = sym far ∙ lt.0 in cc
      ],
      λ free. elim (leb_tells c.args.count index) [
        | inl le ↦ le.0
        | inr lt ↦ absurd (either_near c.args.count c.args.text.now near c.near.ensures c.args.one c.args.other index
            lt.1 c.in-Some.ensures.1 free)
      ],
    )

-- neither was found, so neither is among the first `count`
pub returns-in-None : goal.returns-in-None
returns-in-None c = (
  λ _. neither_near c.args.count c.args.text.now c.near.result.now c.near.ensures c.args.one
      c.args.other c.in-None.ensures,
  λ _. refl,
)
