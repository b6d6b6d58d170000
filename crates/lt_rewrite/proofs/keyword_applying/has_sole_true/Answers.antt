use Rattle.std.proofs.Common.{◌≡◌, ℕ, Bool, true, false, List, [], ◌∷◌, MatchBool, bytes_eq, sym, ap, ◌∙◌, arith}
use Rattle.std.specs.Prelude.{codes}
use Rattle.std.proofs.lemmas.Slice.Eq.{bytes_eq-Decides}
use Rattle.lt_tag.specs.Parts.{KeywordParts}
use Rattle.lt_rewrite.proofs.CoreSteps.{sole}
use Rattle.lt_rewrite.proofs.keyword_applying.has_sole_true.Goals as goal

-- types of which there is only one are exactly `true` if and only if that one is equal to `true` (`r`)
sole_true : (r : Bool) (only : List ℕ) (types : List (List ℕ)) → types ≡ only ∷ [] → r ≡ bytes_eq only (codes "true")
    → MatchBool r (types ≡ codes "true" ∷ []) (types ≡ codes "true" ∷ [] → ⊥)
sole_true true only types e h = e ∙ ap (λ t. t ∷ []) ((bytes_eq-Decides only (codes "true")).0 (sym h))
sole_true false only types e h =
    λ t. let same : only ≡ codes "true" = cc in
    let yes = (bytes_eq-Decides only (codes "true")).1 same in
    cc

-- there is one type, so the types are exactly `true` if it is
pub returns-in-len1 : goal.returns-in-len1
returns-in-len1 c =
    let only : List ℕ = c.only-item.result in
    let is = sole c.as_slice.result.now only c.only-item.is (omega arith) in
    let types = ap (λ (k : KeywordParts). k.types) c.keyword.view_is in
    sole_true c.eq.result only c.args.keyword.now.types (sym types ∙ sym c.as_slice.ensures.value ∙ is)
    (c.eq.ensures ∙ ap (λ b. bytes_eq b c.as_slice-in-len1.result.now) c.bytes.ensures.same ∙ ap (bytes_eq only) c.as_slice-in-len1.ensures)
