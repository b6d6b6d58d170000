use Rattle.std.proofs.Common.{◌≡◌, rules}
use Rattle.lt_tag.specs.Extensions.{spell_u}
use Rattle.lt_tag.proofs.PartsLemmas.{u_value}
use Rattle.lt_tag.proofs.joining.join_u.Goals as goal

-- the list makes an extension, as `of_parts` asks: it is the attributes, and then the subtags of the keywords, which is
-- what the parts spell
pub of_parts-requires : goal.of_parts-requires
of_parts-requires c =
    let spelled : c.append_keywords.new.list.items ≡ spell_u c.args.parts.now = search rules in
    u_value c.args.parts.now _ c.requires.shaped c.requires.few spelled
