use Rattle.std.proofs.Common.{◌∙◌, ◌++◌, ◌∷◌, [], List, ℕ, ap, sym}
use Rattle.lt_tag.specs.Parts.{KeywordParts}
use Rattle.lt_cache.proofs.KeywordEnds.{added_key, added_type}
use Rattle.lt_cache.proofs.keyword_ends.add_subtag.Goals as goal

-- the keywords are then the old ones and the subtag: a key begins a further keyword, which has no types yet
pub returns-then-is_key : goal.returns-then-is_key
returns-then-is_key c = λ _.
    let old = c.args.keywords.now.items in
    added_key c.args.subtag old c.push.new.self.items (sym c.is_key.ensures ∙ c.if-is_key.true)
    (c.in_ok-push.ensures.items
    ∙ ap (λ (types : List (List ℕ)). old ++ record { key = c.args.subtag; types = types } ∷ []) c.new.ensures.items)

-- the same of a type, which goes to the last keyword; those before it stay
pub returns : goal.returns
returns c = λ _.
    let last = c.last.inside in
    let before = c.pop.new.self.items in
    added_type c.args.subtag c.args.keywords.now.items c.push-3.new.self.items before
    (record { key = last.key; types = last.types.items }) _ (sym c.is_long.ensures ∙ c.if-not-is_long.false)
    (c.in-Some.ensures.items ∙ ap (λ (k : KeywordParts). before ++ k ∷ []) (sym c.last.view_is))
    (ap (λ (types : List (List ℕ)). record { key = last.key; types = types }) c.in_ok-push-2.ensures.items)
    c.in_ok-push-3.ensures.items
