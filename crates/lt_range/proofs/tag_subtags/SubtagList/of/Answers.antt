use Rattle.std.proofs.Common.{◌≡◌, ◌∙◌, ℕ, List, IfOk, ap, subst}
use Rattle.lt_tag.specs.Lists.{list_of}
use Rattle.lt_range.proofs.tag_subtags.SubtagList.of.Goals as goal

-- each piece of the text of a tag is a subtag
pub of_text-requires : goal.of_text-requires
of_text-requires c =
    let law = c.text_of_tag_has_its_list.ensures c.args.tag.now c.private.ensures.tag.tag in
    rw (c.deref.ensures.value, c.in_ok-text.ensures) law.0

-- the pieces of the text of a tag are the subtags that it spells
pub returns : goal.returns
returns c =
    let law = c.text_of_tag_has_its_list.ensures c.args.tag.now c.private.ensures.tag.tag in
    subst (λ (ss : List (List ℕ)). IfOk c.of_text.result (λ subtags. subtags ≡ ss))
    (ap list_of (c.deref.ensures.value ∙ c.in_ok-text.ensures) ∙ law.1) c.of_text.ensures
