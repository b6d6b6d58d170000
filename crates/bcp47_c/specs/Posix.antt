-- The tag that the name of a POSIX locale stands for, which `bcp47_write_posix` writes, and what that call answers. No
-- RFC says which tag it is: that is a rule of this project.
use Rattle.std.specs.Prelude.{ℕ, ◌≡◌, ◌==◌, ◌+◌, ◌||◌, ◌⊎◌, if◌then◌else◌, Bool, List, [], codes, drop, map, take, bytes_eq}
use Rattle.std.specs.Prelude.{Option, Some, None, position}
use Rattle.lt_tag.specs.Faults.{HasTag}
use Rattle.lt_tag.specs.Parts.{TagForm}
use Rattle.lt_tag.specs.Texts.{text_of}
use Rattle.bcp47_c.specs.Outcomes.{ended, IsDelivered}
use Rattle.bcp47_c.specs.Replacing.{no_memory, HasFaultSaid, IsReplacement, IsReplacingRefusal}
use Rattle.bcp47_c.specs.declared.outcomes.Outcome.{Outcome}
use Rattle.bcp47_c.specs.declared.outcomes.Said.{Said}
use Rattle.bcp47_c.specs.declared.posix.Modifier.{Modifier}
use Rattle.bcp47_c.specs.declared.posix.Modifier.TheVariants as modifiers
use Rattle.bcp47_c.specs.declared.replacing.Section.{Section}
use Rattle.bcp47_c.specs.declared.replacing.Section.TheVariants as sections

-- ---- names of locales: `language[_territory][.codeset][@modifier]`

-- a text up to an index; all of it where there is none
abbrev pub until : Option ℕ → List ℕ → List ℕ
until (Some index) text = take index text
until None text = text

-- a text past an index; nothing where there is none
abbrev pub past : Option ℕ → List ℕ → List ℕ
past (Some index) text = drop (index + 1) text
past None text = []

-- a text up to the first byte `mark`; all of it where there is none
abbrev pub before : ℕ → List ℕ → List ℕ
before mark text = until (position (λ b. b == mark) text) text

-- a text past the first byte `mark`; nothing where there is none
abbrev pub after : ℕ → List ℕ → List ℕ
after mark text = past (position (λ b. b == mark) text) text

-- a name without its modifier, which is from the `@` (64) on, and its codeset, which is from a full stop (46) on
abbrev pub locale : List ℕ → List ℕ
locale name = before 46 (before 64 name)

-- a hyphen (45) for an underscore (95)
abbrev pub hyphen_for : ℕ → ℕ
hyphen_for b = if b == 95 then 45 else b

-- The text of the tag of a locale, without codeset and modifier: hyphens stand where it has underscores. `C` and
-- `POSIX` stand for American English with the order and the forms of POSIX (UTS 35, 3.6.1: `va-posix`).
abbrev pub tag_text : List ℕ → List ℕ
tag_text locale =
    if bytes_eq locale (codes "C") || bytes_eq locale (codes "POSIX") then codes "en-US-u-va-posix"
    else map hyphen_for locale

-- whether a modifier says nothing of the tag: it is empty, or `euro`, which names a currency, or `abegede`, which names
-- an order of letters
abbrev pub is_silent : List ℕ → Bool
is_silent text = bytes_eq text (codes "") || (bytes_eq text (codes "euro") || bytes_eq text (codes "abegede"))

-- whether a modifier names Latin letters; `iqtelif` are those of Tatar
abbrev pub is_latin : List ℕ → Bool
is_latin text = bytes_eq text (codes "latin") || bytes_eq text (codes "iqtelif")

-- what a modifier says of the tag; None if the modifier is not known
abbrev pub modifier_of : List ℕ → Option Modifier
modifier_of text =
    if is_silent text then Some modifiers.Silent
    else (if is_latin text then Some modifiers.Latin
    else (if bytes_eq text (codes "cyrillic") then Some modifiers.Cyrillic
    else (if bytes_eq text (codes "devanagari") then Some modifiers.Devanagari
    else (if bytes_eq text (codes "valencia") then Some modifiers.Valencia
    else (if bytes_eq text (codes "saaho") then Some modifiers.Saaho else None)))))

-- the section of the tag that a modifier replaces, if it replaces one
abbrev pub section_of : Modifier → Option Section
section_of modifiers.Silent = None
section_of modifiers.Latin = Some sections.Script
section_of modifiers.Cyrillic = Some sections.Script
section_of modifiers.Devanagari = Some sections.Script
section_of modifiers.Valencia = Some sections.Variants
section_of modifiers.Saaho = Some sections.Language

-- the value that a modifier puts there: a script (ISO 15924), the variant of Valencian, or the language Saho (ISO
-- 639-3)
abbrev pub value_of : Modifier → List ℕ
value_of modifiers.Silent = []
value_of modifiers.Latin = codes "latn"
value_of modifiers.Cyrillic = codes "cyrl"
value_of modifiers.Devanagari = codes "deva"
value_of modifiers.Valencia = codes "valencia"
value_of modifiers.Saaho = codes "ssy"

-- ---- the tag

-- the text is read as a tag, and `made` is its text in conventional case
pub record IsShownAs (text made : List ℕ) : Type 0 where
  pub tag : TagForm
  pub read : HasTag text tag
  pub shown : made ≡ text_of tag

-- `made` is the text of the tag of `text` with the value in place of its section; if there is no section, the tag is
-- not changed
abbrev pub IsChanged : Option Section → List ℕ → List ℕ → List ℕ → Type 0
IsChanged None text value made = IsShownAs text made
IsChanged (Some section) text value made = IsReplacement section text value made

-- why the tag of `text` has no text with the value in place of its section
abbrev pub IsNotChanged : Option Section → List ℕ → List ℕ → Said → Type 0
IsNotChanged None text value said = HasFaultSaid 0 text said
IsNotChanged (Some section) text value said =
    (number : ℕ) × IsReplacingRefusal section text value (record { text = number; said = said })

-- `made` is the text of the tag that the name of a locale stands for
pub record IsPosixTag (name made : List ℕ) : Type 0 where
  pub modifier : Modifier
  pub named : modifier_of (after 64 name) ≡ Some modifier
  pub changed : IsChanged (section_of modifier) (tag_text (locale name)) (value_of modifier) made

-- the modifier is not known: NotATag (1) with BadByte (3) at 0, since a modifier has no place in the tag
pub record HasNoModifier (name : List ℕ) (said : Said) : Type 0 where
  pub none : modifier_of (after 64 name) ≡ None
  pub told : said ≡ record { status = 1; detail = 3; place = 0 }

-- the modifier is known, but the locale is no tag, or the modifier can't change its tag: it has no sections, or becomes
-- too long; places are those of the locale's subtags
pub record HasNoTag (name : List ℕ) (said : Said) : Type 0 where
  pub modifier : Modifier
  pub named : modifier_of (after 64 name) ≡ Some modifier
  pub refused : IsNotChanged (section_of modifier) (tag_text (locale name)) (value_of modifier) said

-- why the name of a locale stands for no tag, or memory ran out
abbrev pub IsNoPosixTag : List ℕ → Said → Type 0
IsNoPosixTag name said = HasNoModifier name said ⊎ (HasNoTag name said ⊎ (said ≡ no_memory))

-- ---- the call

-- the text of the tag is written (status Done, 0); the buffer was `before` and is `after`
pub record IsPosixWritten (name before after : List ℕ) (o : Outcome) : Type 0 where
  pub made : List ℕ
  pub is_made : IsPosixTag name made
  pub delivered : IsDelivered (ended 0) made before after o

-- why the name stands for no tag is answered, and no text is written; the buffer was `before` and is `after`
pub record IsPosixRefused (name before after : List ℕ) (o : Outcome) : Type 0 where
  pub said : Said
  pub owed : IsNoPosixTag name said
  pub delivered : IsDelivered said [] before after o

-- the tag that the name of a locale stands for is written, or why there is none is answered; the buffer was `before`
-- and is `after`
abbrev pub WritesPosix : List ℕ → List ℕ → List ℕ → Outcome → Type 0
WritesPosix name before after o = IsPosixWritten name before after o ⊎ IsPosixRefused name before after o
