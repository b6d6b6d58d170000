-- What follows from the definitions of tags and texts alone, without a registry.
use Rattle.std.specs.Prelude.{ℕ, ◌≡◌, ◌≤◌, ◌↔◌, List, length}
use Rattle.lt_subtag.specs.Bytes.{folded}
use Rattle.lt_tag.specs.Parts.{CoreParts, TagForm}
use Rattle.lt_tag.specs.Lists.{list_of, longest_text}
use Rattle.lt_tag.specs.Grandfathered.{IsGrandfathered}
use Rattle.lt_tag.specs.Spelling.{spell_core, IsCore}
use Rattle.lt_tag.specs.WellFormed.{spell, IsTag}
use Rattle.lt_tag.specs.Faults.{HasList, HasTag}
use Rattle.lt_tag.specs.Conventional.{conventional}

-- A list is spelled by one core at most.
abbrev pub OneCorePerList : Type 0
OneCorePerList = (a b : CoreParts) → IsCore a → IsCore b → spell_core a ≡ spell_core b → a ≡ b

-- The 26 grandfathered lists differ.
abbrev pub OneNumberPerList : Type 0
OneNumberPerList = (list : List (List ℕ)) (a b : ℕ) → IsGrandfathered list a → IsGrandfathered list b → a ≡ b

-- A list is spelled by one tag at most.
abbrev pub OneTagPerList : Type 0
OneTagPerList = (a b : TagForm) → IsTag a → IsTag b → spell a ≡ spell b → a ≡ b

-- A text is read as one tag at most.
abbrev pub OneTagPerText : Type 0
OneTagPerText = (text : List ℕ) (a b : TagForm) → HasTag text a → HasTag text b → a ≡ b

-- The text of a tag has the list that the tag spells, whatever its length.
abbrev pub TextOfTagHasItsList : Type 0
TextOfTagHasItsList =
    (tag : TagForm) → IsTag tag → HasList (conventional (spell tag)) × (list_of (conventional (spell tag)) ≡ spell tag)

-- The text of a tag is read again as that tag, if it has at most 1,024 bytes.
abbrev pub TextOfTagIsReadAgain : Type 0
TextOfTagIsReadAgain = (tag : TagForm) → IsTag tag
    → length (conventional (spell tag)) ≤ longest_text → HasTag (conventional (spell tag)) tag

-- Two tags have the same text exactly if they are equal.
abbrev pub SameTextForSameTag : Type 0
SameTextForSameTag = (a b : TagForm) → IsTag a → IsTag b → (conventional (spell a) ≡ conventional (spell b)) ↔ (a ≡ b)

-- Two texts that have lists are printed alike exactly where nothing but letter case tells them apart.
abbrev pub PrintedAlikeForSameLetters : Type 0
PrintedAlikeForSameLetters = (a b : List ℕ) → HasList a → HasList b
    → (conventional (list_of a) ≡ conventional (list_of b)) ↔ (folded a ≡ folded b)
