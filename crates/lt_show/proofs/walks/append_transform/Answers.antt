use Rattle.lt_show.proofs.KindLemmas.{transform_kinds, no_transform_kinds}
use Rattle.lt_show.proofs.walks.append_transform.Goals as goal

-- the kinds of the parts into which `split_t` split the subtags are those that `subtag_kinds` gives for the extension
pub returns-in-Ok : goal.returns-in-Ok
returns-in-Ok c = rw (transform_kinds c.args.extension.now _ c.requires c.in-Ok.ensures.parts) c.append_t.ensures

-- `split_t` found no parts, so `subtag_kinds` gives ExtensionSubtag for each subtag, as was appended
pub returns-in-Err-BadTransform : goal.returns-in-Err-BadTransform
returns-in-Err-BadTransform c =
    let plain = no_transform_kinds c.args.extension.now c.requires
    (rw c.in-Err-BadTransform.field-0-is at c.in-Err-BadTransform.ensures.fault) in
    rw plain (rw c.subtags.ensures.value at c.append_each.ensures)
