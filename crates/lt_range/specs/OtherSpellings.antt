-- The other spellings that a table has prepared, and those of one tag among them. No public contract cites these.
use Rattle.std.specs.Prelude.{ℕ, ◌≡◌, ◌⊎◌, List, [], ◌∷◌, Option, Some, None}
use Rattle.lt_tag.specs.Parts.{TagForm, LangTag, PrivateUse, Grandfathered}
use Rattle.lt_tag.specs.WellFormed.{spell}
use Rattle.lt_tag.specs.Faults.{HasTag}
use Rattle.lt_registry.specs.Parts.{EntryParts}
use Rattle.lt_rewrite.specs.TagSteps.{IsCanonical}
use Rattle.lt_canon.specs.Answers.{IsCanonicalFormOf}
use Rattle.lt_canon.specs.ExtlangForm.{extlang_form}
use Rattle.lt_range.specs.Spellings.{AreOthers, IsOtherSpelling, Spellings}
use Rattle.lt_range.specs.declared.matching_table.OtherSpelling.{OtherSpelling}

-- the subtags of a row's canonical form
abbrev pub canonical_of : OtherSpelling → List (List ℕ)
canonical_of row = row.first ∷ row.others

-- the record is of another spelling, and these are its subtags and those of its canonical form
pub record IsRow (R : List EntryParts) (e : EntryParts) (row : OtherSpelling) : Type 0 where
  pub tag : TagForm
  pub canonical : TagForm
  pub is : IsOtherSpelling R e tag canonical
  pub spelled : row.spelled ≡ spell tag
  pub canonically : canonical_of row ≡ spell canonical

-- the record is of no other spelling of a tag
abbrev pub IsNoSpelling : List EntryParts → EntryParts → Type 0
IsNoSpelling R e = (tag canonical : TagForm) → IsOtherSpelling R e tag canonical → ⊥

-- the other spelling that a record is of, if it is of one
abbrev pub MayBeRow : List EntryParts → EntryParts → Option OtherSpelling → Type 0
MayBeRow R e None = IsNoSpelling R e
MayBeRow R e (Some row) = IsRow R e row

-- a row of two lists, the first of which is the spelling, or None if they are equal
abbrev pub MayDiffer : (spelled canonical : List (List ℕ)) → Option OtherSpelling → Type 0
MayDiffer spelled canonical None = spelled ≡ canonical
MayDiffer spelled canonical (Some row) =
    (row.spelled ≡ spelled) × (canonical_of row ≡ canonical) × (spelled ≡ canonical → ⊥)

-- the other spellings that these records are of, in their order
abbrev pub AreRows : List EntryParts → List EntryParts → List OtherSpelling → Type 0
AreRows R [] rows = rows ≡ []
AreRows R (e ∷ es) rows =
    ((row : OtherSpelling) × (rest : List OtherSpelling) × (rows ≡ row ∷ rest) × IsRow R e row × AreRows R es rest)
    ⊎ (IsNoSpelling R e × AreRows R es rows)

-- those of these spellings that have the canonical form `canonical`, in their order
abbrev pub AreAmong : List (List ℕ) → List OtherSpelling → Spellings → Type 0
AreAmong canonical [] lists = lists ≡ []
AreAmong canonical (row ∷ rows) lists =
    ((canonical_of row ≡ canonical) × ((rest : Spellings) × (lists ≡ row.spelled ∷ rest)
    × AreAmong canonical rows rest))
    ⊎ ((canonical_of row ≡ canonical → ⊥) × AreAmong canonical rows lists)

-- the lists are the other spellings of the canonical tag that has these subtags
abbrev pub AreOthersOf : List EntryParts → List (List ℕ) → Spellings → Type 0
AreOthersOf R canonical lists = (tag : TagForm) → IsCanonical R tag → canonical ≡ spell tag → AreOthers R tag R lists

-- the subtags after the Prefix where there is an extlang, and all where there is none
abbrev pub after_prefix : (extlangs subtags : List (List ℕ)) → List (List ℕ)
after_prefix [] subtags = subtags
after_prefix (e ∷ es) [] = []
after_prefix (e ∷ es) (s ∷ ss) = ss

-- of the subtags of an extlang form those of the canonical form
abbrev pub canonical_part : TagForm → List (List ℕ) → List (List ℕ)
canonical_part (LangTag c es ps) subtags = after_prefix c.extlangs subtags
canonical_part (PrivateUse ps) subtags = subtags
canonical_part (Grandfathered n) subtags = subtags

-- the text is a tag that is canonical and its own extlang form, and these are its subtags
pub record StaysAs (R : List EntryParts) (text : List ℕ) (subtags : List (List ℕ)) : Type 0 where
  pub tag : TagForm
  pub read : HasTag text tag
  pub canonical : IsCanonicalFormOf R tag tag
  pub form : tag ≡ extlang_form R tag
  pub spelled : subtags ≡ spell tag
