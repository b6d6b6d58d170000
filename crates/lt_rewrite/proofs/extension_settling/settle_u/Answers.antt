use Rattle.std.proofs.Common.{◌≡◌, ◌≤◌, ℕ, true, List, ◌++◌, map, take, drop, set, length, sym, ap, ◌∙◌, subst, arith}
use Rattle.std.proofs.lemmas.List.{take_all, take_at, drop_all, append-nil}
use Rattle.std.proofs.lemmas.List.Edits.{map_over_more}
use Rattle.lt_tag.specs.Parts.{KeywordParts, UForm}
use Rattle.lt_rewrite.specs.Rewriting.{IsNormalForm}
use Rattle.lt_rewrite.specs.Orderings.{ListStep}
use Rattle.lt_rewrite.specs.Extensions.{text_cmp, key_cmp}
use Rattle.lt_rewrite.specs.ExtensionSettling.{untrue}
use Rattle.lt_tag.specs.Extensions.{spell_u, IsU}
use Rattle.lt_rewrite.proofs.NormalForms.{star_keeps, star_no_more}
use Rattle.lt_rewrite.proofs.PartForms.{u_shaped, u_step_length}
use Rattle.lt_rewrite.proofs.ExtensionLaws.{unicode_settles}
use Rattle.lt_rewrite.proofs.extension_settling.settle_u.Goals as goal

-- the invariant stays true: a turn drops the type `true` from one keyword more, if it is the only one
pub loop-keyword-preserved : goal.loop-keyword-preserved
loop-keyword-preserved c =
    let ys : List KeywordParts = c.loop-keyword.keyword-items in
    let k : KeywordParts = c.keyword-item.result in
    ap (set ys c.loop-keyword.keyword-index) (c.drop_true.ensures ∙ ap untrue (sym c.keyword-item.is))
    ∙ map_over_more untrue c.deref_mut-keyword-items.result.now ys c.loop-keyword.keyword-index k (omega
    (arith, c.loop-keyword-test.true, c.loop-keyword.auto.keyword-items)) c.loop-keyword.invariant c.keyword-item.is

-- if the index is past the last keyword, all keywords have lost an only type `true`
all_of : (xs ys : List KeywordParts) (i : ℕ) → length xs ≤ i → ys ≡ map untrue (take i xs) ++ drop i xs → ys ≡ map untrue xs
all_of xs ys i h e = e ∙ ap (λ zs. map untrue (take i xs) ++ zs) (drop_all i xs h) ∙ append-nil (map untrue (take i xs))
    ∙ ap (map untrue) (take_all i xs h)

-- attributes and keywords are in order, each once, and no keyword has `true` as its only type, so no step is left
pub returns-clause-settled : goal.returns-clause-settled
returns-clause-settled c =
    let p : UForm = c.args.parts.now in
    let xs : List KeywordParts = c.deref_mut-keyword-items.result.now in
    let ys : List KeywordParts = c.loop-keyword.keyword-items in
    let q : UForm = record { attributes = c.put_in_order.new.parts.items; keywords = c.put_in_order-2.new.parts.items } in
    let attributes = subst (λ as'. IsNormalForm (ListStep true text_cmp) as' q.attributes)
    (ap (λ (u : UForm). u.attributes) c.parts.view_is) c.put_in_order.ensures in
    let keywords : xs ≡ p.keywords = c.deref_mut-keyword-items.ensures.value ∙ ap (λ (u : UForm). u.keywords) c.parts.view_is in
    let bare : ys ≡ map untrue p.keywords =
    all_of xs ys c.loop-keyword.keyword-index (omega (arith, c.loop-keyword-test.false)) c.loop-keyword.invariant
    ∙ ap (map untrue) keywords in
    let last : IsNormalForm (ListStep true key_cmp) ys q.keywords =
    subst (λ zs. IsNormalForm (ListStep true key_cmp) zs q.keywords)
    (take_at ys (drop (length ys) c.parts.inside.keywords.items) c.parts.inside.keywords.len
    (omega (arith, c.loop-keyword.auto.keyword-items, c.deref_mut-keyword-items.ensures.len)))
    c.put_in_order-2.ensures in
    unicode_settles p q attributes (subst (λ zs. IsNormalForm (ListStep true key_cmp) zs q.keywords) bare last)

-- each step to the normal form keeps the shape of the parts
pub returns-clause-shaped : goal.returns-clause-shaped
returns-clause-shaped c =
    star_keeps IsU u_shaped (returns-clause-settled c).reached

-- the normal form has no more subtags, since no step leads to more
pub returns-clause-few : goal.returns-clause-few
returns-clause-few c =
    star_no_more (λ (u : UForm). length (spell_u u)) u_step_length (returns-clause-settled c).reached
