use Rattle.std.proofs.Common.{rules}
use Rattle.bcp47_c.proofs.Replaced.{made_is, made_long, made_short, replaced_shaped}
use Rattle.bcp47_c.proofs.replacing.write_replaced.Goals as goal

-- the joined subtags are read as the tag that they spell, so its text is what is written
pub returns-in-Ok-clause-made : goal.returns-in-Ok-clause-made
returns-in-Ok-clause-made c =
    let shaped = replaced_shaped c.args.section c.args.tag.now.core c.args.other.now.core
    c.args.tag.now.extensions.items c.args.other.now.extensions.items c.args.tag.now.private.items
    c.args.other.now.private.items c.requires.tag.0 c.requires.other.0 in
    made_is _ _ _ shaped c.deref.result.now (search rules) c.in-Ok.whole c.in_ok-write_tag-in-Ok.field-0.items
    c.in-Ok.ensures.spelled c.in_ok-write_tag-in-Ok.ensures

-- a text that is read has at most 1,024 bytes, and in conventional case it has as many
pub returns-in-Ok-clause-short : goal.returns-in-Ok-clause-short
returns-in-Ok-clause-short c =
    let shaped = replaced_shaped c.args.section c.args.tag.now.core c.args.other.now.core
    c.args.tag.now.extensions.items c.args.other.now.extensions.items c.args.tag.now.private.items
    c.args.other.now.private.items c.requires.tag.0 c.requires.other.0 in
    made_short _ _ _ shaped c.deref.result.now (search rules) c.in-Ok.whole c.in_ok-write_tag-in-Ok.field-0.items
    c.in-Ok.ensures.spelled c.in_ok-write_tag-in-Ok.ensures c.in-Ok.ensures.short

-- the joined subtags spell a tag, so their only fault can be their length
pub returns-clause-long : goal.returns-clause-long
returns-clause-long c =
    let shaped = replaced_shaped c.args.section c.args.tag.now.core c.args.other.now.core
    c.args.tag.now.extensions.items c.args.other.now.extensions.items c.args.tag.now.private.items
    c.args.other.now.private.items c.requires.tag.0 c.requires.other.0 in
    let long = made_long _ _ _ shaped c.deref.result.now (search rules) c.in-Err.fault c.in-Err.ensures.fault in
    search rules
