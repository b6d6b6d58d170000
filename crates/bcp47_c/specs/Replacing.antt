-- A tag with one of its sections replaced or taken away (RFC 5646, 2.1), which `bcp47_write_with` writes, and what that
-- call answers. The new section is given as a text, the value.
use Rattle.std.specs.Prelude.{ℕ, ◌≡◌, ◌≢◌, ◌<◌, ◌≤◌, ◌+◌, ◌-◌, ◌⊎◌, Bool, true, false, not, List, [], ◌∷◌, ◌++◌, codes, drop, length}
use Rattle.std.specs.Prelude.{Option, Some, None, IsSome, position}
use Rattle.lt_tag.specs.Faults.{HasTag, IsFault}
use Rattle.lt_tag.specs.Lists.{longest_text}
use Rattle.lt_tag.specs.Parts.{CoreParts, ExtensionParts, TagForm, LangTag}
use Rattle.lt_tag.specs.Texts.{text_of}
use Rattle.lt_tag.specs.Values.{core_of}
use Rattle.lt_tag.specs.declared.faults.TagFault.{TagFault}
use Rattle.lt_tag.specs.declared.faults.TagFaultKind.{TagFaultKind}
use Rattle.lt_tag.specs.declared.faults.TagFaultKind.TheVariants as faults
use Rattle.lt_show.specs.Places.{parts_of}
use Rattle.lt_show.specs.declared.kinds.PartKind.{PartKind}
use Rattle.lt_show.specs.declared.kinds.PartKind.TheVariants as kinds
use Rattle.lt_show.specs.declared.placing.Part.{Part}
use Rattle.bcp47_c.specs.Numbers.{tag_fault}
use Rattle.bcp47_c.specs.Outcomes.{ended, of_text, IsDelivered}
use Rattle.bcp47_c.specs.declared.outcomes.Outcome.{Outcome}
use Rattle.bcp47_c.specs.declared.outcomes.Said.{Said}
use Rattle.bcp47_c.specs.declared.replacing.Langtag.{Langtag}
use Rattle.bcp47_c.specs.declared.replacing.Refused.{Refused}
use Rattle.bcp47_c.specs.declared.replacing.Section.{Section}
use Rattle.bcp47_c.specs.declared.replacing.Section.TheVariants as sections

-- ---- sections

-- the number of a section in C: that of the kind of part that begins it
abbrev pub section_number : Section → ℕ
section_number sections.Language = 1
section_number sections.Script = 3
section_number sections.Region = 4
section_number sections.Variants = 5
section_number sections.Extensions = 6
section_number sections.PrivateUse = 18

-- the section that has a number, None if none has it
abbrev pub IsSectionOf : ℕ → Option Section → Type 0
IsSectionOf n (Some section) = n ≡ section_number section
IsSectionOf n None = (section : Section) → n ≢ section_number section

-- whether a part of this kind is in a section
abbrev pub has : Section → PartKind → Bool
has sections.Language kinds.Language = true
has sections.Language kinds.Extlang = true
has sections.Script kinds.Script = true
has sections.Region kinds.Region = true
has sections.Variants kinds.Variant = true
has sections.Extensions kinds.Singleton = true
has sections.Extensions kinds.ExtensionSubtag = true
has sections.Extensions kinds.Attribute = true
has sections.Extensions kinds.Key = true
has sections.Extensions kinds.Type = true
has sections.Extensions kinds.SourceLanguage = true
has sections.Extensions kinds.SourceExtlang = true
has sections.Extensions kinds.SourceScript = true
has sections.Extensions kinds.SourceRegion = true
has sections.Extensions kinds.SourceVariant = true
has sections.Extensions kinds.Separator = true
has sections.Extensions kinds.Value = true
has sections.PrivateUse kinds.PrivateUseSingleton = true
has sections.PrivateUse kinds.PrivateUse = true
has section kind = false

-- the core `c` with a section of the core `d`: a language with its extlangs, a script, a region or variants
abbrev pub with_core : Section → CoreParts → CoreParts → CoreParts
with_core sections.Language c d = record c { language = d.language; extlangs = d.extlangs }
with_core sections.Script c d = record c { script = d.script }
with_core sections.Region c d = record c { region = d.region }
with_core sections.Variants c d = record c { variants = d.variants }
with_core sections.Extensions c d = c
with_core sections.PrivateUse c d = c

-- the extensions `others` where the section is that of extensions, else `extensions`
abbrev pub with_extensions : Section → List ExtensionParts → List ExtensionParts → List ExtensionParts
with_extensions sections.Extensions extensions others = others
with_extensions section extensions others = extensions

-- the private use `others` where the section is that of private use, else `private`
abbrev pub with_private : Section → List (List ℕ) → List (List ℕ) → List (List ℕ)
with_private sections.PrivateUse private others = others
with_private section private others = private

-- the first langtag with a section of the second in place of its own, and all else of the first (RFC 5646, 2.1)
abbrev pub replaced : Section → TagForm → TagForm → TagForm
replaced section (LangTag c es ps) (LangTag d fs qs) =
    LangTag (with_core section c d) (with_extensions section es fs) (with_private section ps qs)
replaced section tag other = tag

-- a langtag by what it is made of
abbrev pub form : Langtag → TagForm
form langtag = LangTag langtag.core langtag.extensions.items langtag.private.items

-- ---- the value

-- A value behind the language `de`: `de-hk` for `hk`, and `de` for an empty value, which stands for no section. No
-- language is shorter, so a value that is too long behind `de` is too long for every tag.
abbrev pub behind_language : List ℕ → List ℕ
behind_language [] = codes "de"
behind_language (b ∷ bs) = codes "de-" ++ b ∷ bs

-- the text by which a value is read: for a language the value itself, for any other section the value behind `de`
abbrev pub bearing : Section → List ℕ → List ℕ
bearing sections.Language value = value
bearing section value = behind_language value

-- how many subtags of the text by which a value is read come before the value: the language `de`, or none
abbrev pub before_value : Section → ℕ
before_value sections.Language = 0
before_value section = 1

-- the place, counted from 0, of the first subtag of a value that is not in the section, if there is one; the text by
-- which the value is read is read as the tag
abbrev pub foreign : Section → TagForm → Option ℕ
foreign section tag =
    position (λ (part : Part). not (has section part.kind)) (drop (before_value section) (parts_of tag))

-- the text is read as a langtag (RFC 5646, 2.1)
pub record ReadsLangtag (text : List ℕ) (tag : TagForm) : Type 0 where
  pub read : HasTag text tag
  pub langtag : IsSome (core_of tag)

-- the value has the form of a section, or is empty: the text by which it is read is read as the tag, in which no part
-- of the value is in another section
pub record ReadsValue (section : Section) (value : List ℕ) (tag : TagForm) : Type 0 where
  pub langtag : ReadsLangtag (bearing section value) tag
  pub whole : foreign section tag ≡ None

-- a hyphen (45) and a subtag
abbrev pub hyphened : List ℕ → List ℕ
hyphened subtag = 45 ∷ subtag

-- ---- refusals

-- what an outcome says where memory ran out: OutOfMemory (4)
abbrev pub no_memory : Said
no_memory = ended 4

-- what an outcome says of a tag of private use, and of a grandfathered one: NotATag (1) with BadLanguage (5) at 1
abbrev pub no_language : Said
no_language = record { status = 1; detail = 5; place = 1 }

-- what an outcome says of a fault of a text, if its first `skipped` subtags are not counted: NotATag (1) or OutOfMemory
-- (4)
abbrev pub fault_said : ℕ → TagFault → Said
fault_said skipped fault = said_of skipped fault.kind fault.place
  where
    said_of : ℕ → TagFaultKind → ℕ → Said
    said_of skipped faults.OutOfMemory place = ended 4
    said_of skipped kind place = record { status = 1; detail = tag_fault kind; place = place - skipped }

-- the text is no tag, and `said` is what an outcome says of its fault
pub record HasFaultSaid (skipped : ℕ) (text : List ℕ) (said : Said) : Type 0 where
  pub fault : TagFault
  pub owed : IsFault text fault.kind fault.place
  pub told : said ≡ fault_said skipped fault

-- the text is read as a tag of private use, or a grandfathered one, and `said` is what an outcome says of that
pub record HasNoLanguage (text : List ℕ) (said : Said) : Type 0 where
  pub tag : TagForm
  pub read : HasTag text tag
  pub none : core_of tag ≡ None
  pub told : said ≡ no_language

-- why the text is no langtag, as an outcome says it; the first `skipped` subtags of the text are not counted
abbrev pub IsNoLangtag : ℕ → List ℕ → Said → Type 0
IsNoLangtag skipped text said = HasFaultSaid skipped text said ⊎ HasNoLanguage text said

-- a subtag of the value is in another section: NotATag (1) with Misplaced (6) at that subtag
pub record HasForeign (section : Section) (value : List ℕ) (said : Said) : Type 0 where
  pub tag : TagForm
  pub langtag : ReadsLangtag (bearing section value) tag
  pub index : ℕ
  pub found : foreign section tag ≡ Some index
  pub told : said ≡ record { status = 1; detail = 6; place = index + 1 }

-- why the value does not have the form of a section: its bearing text is no langtag, or it has a part of another
-- section
abbrev pub IsNoValue : Section → List ℕ → Said → Type 0
IsNoValue section value said =
    IsNoLangtag (before_value section) (bearing section value) said ⊎ HasForeign section value said

-- the text of the tag has more than 1,024 bytes, NotATag (1) with TooLong (1), or memory ran out
abbrev pub IsTooLong : TagForm → Said → Type 0
IsTooLong tag said =
    ((longest_text < length (text_of tag)) × (said ≡ record { status = 1; detail = 1; place = 0 })) ⊎ (said ≡ no_memory)

-- ---- a tag with a section replaced

-- The text is read as a langtag, the value as that of a section, and `made` is the text of the tag with that value in
-- place of its own section. An empty value takes the section away.
pub record IsReplacement (section : Section) (text value made : List ℕ) : Type 0 where
  pub tag : TagForm
  pub langtag : ReadsLangtag text tag
  pub other : TagForm
  pub is_value : ReadsValue section value other
  pub written : made ≡ text_of (replaced section tag other)
  pub short : length made ≤ longest_text

-- the text is read as a langtag, and the value as that of a section, but what they make is too long, or memory ran out
pub record MakesTooLong (section : Section) (text value : List ℕ) (said : Said) : Type 0 where
  pub tag : TagForm
  pub langtag : ReadsLangtag text tag
  pub other : TagForm
  pub is_value : ReadsValue section value other
  pub long : IsTooLong (replaced section tag other) said

-- the text is read as a langtag, but the value does not have the form of the section
pub record HasNoValue (section : Section) (text value : List ℕ) (said : Said) : Type 0 where
  pub tag : TagForm
  pub langtag : ReadsLangtag text tag
  pub none : IsNoValue section value said

-- why the section is not replaced, and which text is refused: 1 is the text, 2 the value, and 0 what they make
abbrev pub IsReplacingRefusal : Section → List ℕ → List ℕ → Refused → Type 0
IsReplacingRefusal section text value refused =
    ((refused.text ≡ 1) × IsNoLangtag 0 text refused.said)
    ⊎ (((refused.text ≡ 2) × HasNoValue section text value refused.said)
    ⊎ ((refused.text ≡ 0) × MakesTooLong section text value refused.said))

-- ---- the call

-- the number is that of a section, and the text of the tag with that section replaced is written (status Done, 0)
pub record IsReplaced (number : ℕ) (text value before after : List ℕ) (o : Outcome) : Type 0 where
  pub section : Section
  pub numbered : number ≡ section_number section
  pub made : List ℕ
  pub is_made : IsReplacement section text value made
  pub delivered : IsDelivered (ended 0) made before after o

-- The number is that of a section, and why it is not replaced is answered. `alone` is the outcome without the number of
-- the text; the buffer was `before` and is `after`.
pub record IsNotReplaced (number : ℕ) (text value before after : List ℕ) (o : Outcome) : Type 0 where
  pub section : Section
  pub numbered : number ≡ section_number section
  pub refused : Refused
  pub owed : IsReplacingRefusal section text value refused
  pub alone : Outcome
  pub delivered : IsDelivered refused.said [] before after alone
  pub told : o ≡ of_text refused.text alone

-- the number is that of no section, and the status says that the call is wrong (14); the buffer was `before` and is
-- `after`
pub record IsNoSection (number : ℕ) (before after : List ℕ) (o : Outcome) : Type 0 where
  pub none : (section : Section) → number ≢ section_number section
  pub delivered : IsDelivered (ended 14) [] before after o

-- the tag of `text` with the value in place of the section of a number is written, or why not is answered; the buffer
-- was `before` and is `after`
abbrev pub Replaces : ℕ → List ℕ → List ℕ → List ℕ → List ℕ → Outcome → Type 0
Replaces number text value before after o =
    IsReplaced number text value before after o
    ⊎ (IsNotReplaced number text value before after o ⊎ IsNoSection number before after o)
