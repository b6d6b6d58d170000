-- The parts of a tag in numbers, which `bcp47_write_parts` writes, and what that call answers.
use Rattle.std.specs.Prelude.{ℕ, ◌≡◌, ◌≢◌, ◌⊎◌, List, map, Option, Some, None}
use Rattle.lt_tag.specs.Faults.{HasTag}
use Rattle.lt_tag.specs.Parts.{TagForm}
use Rattle.lt_tag.specs.Texts.{text_of}
use Rattle.lt_show.specs.Places.{parts_of}
use Rattle.lt_show.specs.declared.kinds.PartKind.{PartKind}
use Rattle.lt_show.specs.declared.kinds.PartKind.TheVariants as kinds
use Rattle.lt_show.specs.declared.placing.Part.{Part}
use Rattle.bcp47_c.specs.Outcomes.{AreDelivered, IsRefusedAsOwed}
use Rattle.bcp47_c.specs.Texts.{IsReadingRefusal}
use Rattle.bcp47_c.specs.declared.outcomes.Outcome.{Outcome}
use Rattle.bcp47_c.specs.declared.parts.PartNumbers.{PartNumbers}

-- the number of a kind of part
abbrev pub part_kind : PartKind → ℕ
part_kind kinds.Language = 1
part_kind kinds.Extlang = 2
part_kind kinds.Script = 3
part_kind kinds.Region = 4
part_kind kinds.Variant = 5
part_kind kinds.Singleton = 6
part_kind kinds.ExtensionSubtag = 7
part_kind kinds.Attribute = 8
part_kind kinds.Key = 9
part_kind kinds.Type = 10
part_kind kinds.SourceLanguage = 11
part_kind kinds.SourceExtlang = 12
part_kind kinds.SourceScript = 13
part_kind kinds.SourceRegion = 14
part_kind kinds.SourceVariant = 15
part_kind kinds.Separator = 16
part_kind kinds.Value = 17
part_kind kinds.PrivateUseSingleton = 18
part_kind kinds.PrivateUse = 19
part_kind kinds.Grandfathered = 20

-- the kind of part that has a number, or None if no kind has it
abbrev pub IsPartKindOf : ℕ → Option PartKind → Type 0
IsPartKindOf n (Some kind) = n ≡ part_kind kind
IsPartKindOf n None = (kind : PartKind) → n ≢ part_kind kind

-- a part in numbers: that of its kind, and where it starts and how many bytes it has in the tag's text
abbrev pub in_numbers : Part → PartNumbers
in_numbers part = record { kind = part_kind part.kind; start = part.start; length = part.length }

-- the text is read as a tag, `shown` is that tag's text in conventional case, and `parts` are its parts in numbers
pub record HasParts (text : List ℕ) (shown : List ℕ) (parts : List PartNumbers) : Type 0 where
  pub tag : TagForm
  pub read : HasTag text tag
  pub is_shown : shown ≡ text_of tag
  pub are_parts : parts ≡ map in_numbers (parts_of tag)

-- the parts of the tag that `text` is read as, and its text, `shown`, are answered; the room for parts was `room` and
-- is `filled`, and the buffer was `before` and is `after`
pub record AreWritten (text : List ℕ) (room filled : List PartNumbers) (before after : List ℕ)
    (o : Outcome) : Type 0 where
  pub shown : List ℕ
  pub parts : List PartNumbers
  pub owed : HasParts text shown parts
  pub delivered : AreDelivered parts shown room filled before after o

-- why the text is no tag is answered, and no part is written; the room for parts was `room` and is `filled`, and the
-- buffer was `before` and is `after`
pub record AreNotWritten (text : List ℕ) (room filled : List PartNumbers) (before after : List ℕ)
    (o : Outcome) : Type 0 where
  pub refused : IsRefusedAsOwed (IsReadingRefusal text) before after o
  pub kept : filled ≡ room

-- the parts of the tag are answered, or why the text is no tag; in order: the text, the room for parts before and
-- after, the buffer before and after, the outcome
abbrev pub TellsParts : List ℕ → List PartNumbers → List PartNumbers → List ℕ → List ℕ → Outcome → Type 0
TellsParts text room filled before after o =
    AreWritten text room filled before after o ⊎ AreNotWritten text room filled before after o
