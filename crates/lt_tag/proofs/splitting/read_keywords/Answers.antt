use Rattle.std.proofs.Common.{◌∙◌}
use Rattle.lt_tag.proofs.SplitLemmas.{keywords_begin, keywords_next, keywords_end}
use Rattle.lt_tag.proofs.splitting.read_keywords.Goals as goal

-- before the loop no keyword is read, and the subtags from the first key on are left
pub loop-key-init : goal.loop-key-init
loop-key-init c = keywords_begin c.args.subtags.now _ _ c.new-keywords.ensures.items c.before_key.ensures.rest

-- a turn reads one keyword more: the key, and the subtags up to the next key
pub loop-key-preserved : goal.loop-key-preserved
loop-key-preserved c =
    let split = c.in-Some.ensures.cases in
    keywords_next _ _ _ _ c.in-Some.key.now c.in-Some.others.now _ _ c.loop-key.invariant split.0
    (c.in_ok-copy_subtags.ensures ∙ c.before_key-in-Some.ensures.front) c.before_key-in-Some.ensures.rest
    (rw c.copy.ensures at c.in_ok-push.ensures.items)

-- no subtag is left, so the keywords read are all
pub returns : goal.returns
returns c = keywords_end _ _ _ c.loop-key.invariant c.in_default.ensures.cases
