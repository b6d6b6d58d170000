-- The parent of a tag, which `bcp47_write_parent` writes. The parts of a tag are its subtags; a grandfathered tag is
-- one part, so its parent is empty. A singleton is a part of one byte.
use Rattle.std.specs.Prelude.{ℕ, ◌≡◌, ◌-◌, ◌+◌, ◌==◌, if◌then◌else◌, List, [], ◌∷◌, take, length, Option, Some, None}
use Rattle.std.specs.Option.{option_map_or}
use Rattle.lt_tag.specs.Parts.{TagForm}
use Rattle.lt_tag.specs.Texts.{text_of}
use Rattle.lt_show.specs.Places.{parts_of}
use Rattle.lt_show.specs.declared.placing.Part.{Part}
use Rattle.lt_canon.specs.Texts.{ReadsAs}

-- the last of some parts that has more than one byte; `last` if there is none
abbrev pub last_long : Option Part → List Part → Option Part
last_long last [] = last
last_long last (p ∷ parts) = last_long (if p.length == 1 then last else Some p) parts

-- The text of a tag without its last part, and without the singletons that then end it (RFC 4647, 3.4); empty if
-- nothing is left.
abbrev pub parent_of : TagForm → List ℕ
parent_of t =
    take (option_map_or (λ (p : Part). p.start + p.length)
    (last_long None (take (length (parts_of t) - 1) (parts_of t))) 0) (text_of t)

-- the text is read as a tag, and `parent` is the text of its parent (RFC 4647, 3.4)
abbrev pub IsParentOf : (text parent : List ℕ) → Type 0
IsParentOf text parent = ReadsAs text (λ t. parent ≡ parent_of t)
