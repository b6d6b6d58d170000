-- The lists of langtags without extensions and private use, and what may follow in one.
use Rattle.std.specs.Prelude.{ℕ, ◌≡◌, ◌-◌, ◌&&◌, if◌then◌else◌, List, length, Option, Some, None, nat_lt, nat_le}
use Rattle.lt_subtag.specs.Shapes.{is_extlang, is_script, is_region, is_variant}
use Rattle.lt_tag.specs.Parts.{CoreParts}
use Rattle.lt_tag.specs.Spelling.{spell_core, IsCore}
use Rattle.lt_tag.specs.Growth.{takes_region, takes_script}
use Rattle.lt_tag.specs.WellFormed.{IsNotGrandfathered}
use Rattle.lt_tag.specs.declared.plain_langtags.Room.{Room}
use Rattle.lt_tag.specs.declared.plain_langtags.Room.TheVariants as rooms

-- the list is spelled by a shaped core, and is not that of a grandfathered tag
pub record IsPlainLangTag (list : List (List ℕ)) : Type 0 where
  pub core : CoreParts
  pub shaped : IsCore core
  pub spelled : spell_core core ≡ list
  pub other : IsNotGrandfathered list

-- how many extlangs may still follow a core that has no script and nothing after one
abbrev pub extlangs_left : CoreParts → ℕ
extlangs_left core = if nat_le (length core.language) 3 then 3 - length core.extlangs else 0

-- the first kind of subtag that may still follow a core; the kinds after it, in the order extlangs, script, region,
-- variants (RFC 5646, 2.1), may follow too. Extlangs stands for a script as well, and then perhaps no extlang is left
abbrev pub room_of : CoreParts → Room
room_of core =
    if takes_script core then rooms.Extlangs (extlangs_left core)
    else (if takes_region core then rooms.Region else rooms.Variants)

-- what may follow the subtag s, where the first argument tells what may come at its place; None if s itself may not
abbrev pub room_after : Room → List ℕ → Option Room
room_after (rooms.Extlangs left) s =
    if is_extlang s && nat_lt 0 left then Some (rooms.Extlangs (left - 1))
    else (if is_script s then Some rooms.Region
    else (if is_region s then Some rooms.Variants else (if is_variant s then Some rooms.Variants else None)))
room_after rooms.Region s =
    if is_region s then Some rooms.Variants else (if is_variant s then Some rooms.Variants else None)
room_after rooms.Variants s = if is_variant s then Some rooms.Variants else None
