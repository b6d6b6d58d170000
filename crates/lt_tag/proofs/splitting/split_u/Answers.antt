use Rattle.lt_tag.proofs.PartsLemmas.{u_split}
use Rattle.lt_tag.proofs.splitting.split_u.Goals as goal

-- the attributes are before the first key, and the keywords from it on: together they spell the extension
pub returns-clause-parts : goal.returns-clause-parts
returns-clause-parts c =
    u_split c.args.extension.now _ _ _ _ _ c.subtags-subtags.ensures.extension c.subtags-subtags.ensures.value
    c.before_key.ensures.front c.before_key.ensures.rest c.in_ok-copy_subtags.ensures c.in_ok-read_keywords.ensures

-- the parts spell the subtags of the extension, which are at most 1,024
pub returns-clause-few : goal.returns-clause-few
returns-clause-few c =
    let parts = u_split c.args.extension.now _ _ _ _ _ c.subtags-subtags.ensures.extension
    c.subtags-subtags.ensures.value c.before_key.ensures.front c.before_key.ensures.rest
    c.in_ok-copy_subtags.ensures c.in_ok-read_keywords.ensures in
    rw parts.spelled c.subtags-subtags.ensures.extension.subtags
