use Rattle.std.proofs.Common.{◌≡◌, rules}
use Rattle.lt_tag.specs.Extensions.{spell_t}
use Rattle.lt_tag.proofs.PartsLemmas.{t_value}
use Rattle.lt_tag.proofs.joining.join_t.Goals.{in-Some+in_ok-append_core, in_default}
use Rattle.lt_tag.proofs.joining.join_t.Goals as goal

-- the list makes an extension, as `of_parts` asks: it is the source's subtags, if there is a source, and then those of
-- the fields, which is what the parts spell
pub of_parts-requires : goal.of_parts-requires
of_parts-requires c =
    let spelled : c.append_fields.new.list.items ≡ spell_t c.args.parts.now = elim c.match-parts.branch
    [ in-Some+in_ok-append_core w ↦ search rules | in_default w ↦ search rules ] in
    t_value c.args.parts.now _ c.requires.shaped c.requires.few spelled
