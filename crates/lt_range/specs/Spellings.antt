-- The spellings by which a tag is matched: its extlang form (RFC 5646, 4.5), and the whole tags of records that have the
-- same canonical form. So `no` finds `nb`, which is `no-bok` too.
use Rattle.std.specs.Prelude.{ℕ, ◌≡◌, ◌≢◌, ◌⊎◌, List, [], ◌∷◌, length}
use Rattle.lt_tag.specs.Parts.{TagForm}
use Rattle.lt_tag.specs.WellFormed.{spell}
use Rattle.lt_registry.specs.Parts.{EntryParts}
use Rattle.lt_registry.specs.declared.entries.EntryName.TheVariants as names
use Rattle.lt_canon.specs.Answers.{IsCanonicalFormOf}
use Rattle.lt_canon.specs.ExtlangForm.{IsExtlangFormOf}
use Rattle.lt_range.specs.Ranges.{RangeParts}

-- spellings of a tag, each as the list of its subtags
abbrev pub Spellings : Type 0
Spellings = List (List (List ℕ))

-- the record is of the whole tag `tag`, which is not canonical, and `canonical` is its canonical form: so `no-bok` is
-- another spelling of `nb`
pub record IsOtherSpelling (R : List EntryParts) (e : EntryParts) (tag canonical : TagForm) : Type 0 where
  pub named : e.name ≡ names.Whole tag
  pub other : tag ≢ canonical
  pub form : IsCanonicalFormOf R tag canonical

-- the other spellings of a canonical tag among the whole tags of these records, in their order
abbrev pub AreOthers : List EntryParts → TagForm → List EntryParts → Spellings → Type 0
AreOthers R canonical [] lists = lists ≡ []
AreOthers R canonical (e ∷ es) lists =
    ((tag : TagForm) × IsOtherSpelling R e tag canonical × ((rest : Spellings) × (lists ≡ spell tag ∷ rest)
    × AreOthers R canonical es rest))
    ⊎ (((tag : TagForm) → IsOtherSpelling R e tag canonical → ⊥) × AreOthers R canonical es lists)

-- the spellings by which a tag is matched: its extlang form (RFC 5646, 4.5), and then the other spellings of its
-- canonical form, in the order of the records
pub record HasSpellings (R : List EntryParts) (tag : TagForm) (lists : Spellings) : Type 0 where
  pub form : TagForm
  pub is_form : IsExtlangFormOf R tag form
  pub others : Spellings
  pub are_others : AreOthers R is_form.canonical R others
  pub spelled : lists ≡ spell form ∷ others

-- a range matches one of the spellings of a tag by `M`
abbrev pub MatchesSome : (RangeParts → List (List ℕ) → Type 0) → RangeParts → Spellings → Type 0
MatchesSome M range [] = ⊥
MatchesSome M range (list ∷ lists) = M range list ⊎ MatchesSome M range lists

-- the first of the spellings of a tag
abbrev pub first_of : Spellings → List (List ℕ)
first_of [] = []
first_of (list ∷ lists) = list

-- how many subtags the first of the spellings of a tag has
abbrev pub count_in : Spellings → ℕ
count_in lists = length (first_of lists)
