use Rattle.lt_show.proofs.KindLemmas.{unicode_kinds}
use Rattle.lt_show.proofs.walks.append_unicode.Goals as goal

-- the kinds of the parts into which `split_u` split the subtags are those that `subtag_kinds` gives for the extension
pub returns : goal.returns
returns c = rw (unicode_kinds c.args.extension.now _ c.requires c.in_ok-parts.ensures.parts) c.append_u.ensures
