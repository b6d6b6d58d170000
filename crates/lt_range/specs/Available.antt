-- The tags that a service has, of which it serves one to each reader, as ranges are matched with them.
use Rattle.std.specs.Prelude.{ℕ, ◌≡◌, ◌<◌, ◌+◌, ◌⊎◌, List, [], length, slice_index_or}
use Rattle.lt_registry.specs.Parts.{EntryParts}
use Rattle.lt_canon.specs.Texts.{IsTextRefusal}
use Rattle.lt_canon.specs.declared.refusals.TextRefusal.TheVariants as refusals
use Rattle.lt_range.specs.Lookup.{tag_at}
use Rattle.lt_range.specs.Matched.{HasSubtags}
use Rattle.lt_range.specs.Spellings.{Spellings}
use Rattle.lt_range.specs.declared.available.AvailableRefusal.{AvailableRefusal}

-- the text at a place; after the last one, the empty text
abbrev pub text_at : List (List ℕ) → ℕ → List ℕ
text_at texts place = slice_index_or texts place []

-- `tags` are the spellings of the first `count` texts, in their order: each text is a tag that has an extlang form
pub record AreAvailable (R : List EntryParts) (texts : List (List ℕ)) (count : ℕ) (tags : List Spellings)
    : Type 0 where
  pub counted : length tags ≡ count
  pub each : (place : ℕ) → place < count → HasSubtags R (text_at texts place) (tag_at tags place)

-- the refusal names the first text that has no spellings, by its number from 1, and what is wrong with it
pub record IsFirstRefused (R : List EntryParts) (texts : List (List ℕ)) (refused : AvailableRefusal) : Type 0 where
  pub tags : List Spellings
  pub place : ℕ
  pub before : AreAvailable R texts place tags
  pub within : place < length texts
  pub numbered : refused.place ≡ place + 1
  pub refusal : IsTextRefusal R (text_at texts place) refused.refusal

-- why texts can't be served: what is wrong with the first that has no spellings; OutOfMemory may be answered for any texts
abbrev pub IsAvailableRefusal : List EntryParts → List (List ℕ) → AvailableRefusal → Type 0
IsAvailableRefusal R texts refused = IsFirstRefused R texts refused ⊎ (refused.refusal ≡ refusals.OutOfMemory)

-- the refusal for lack of memory
abbrev pub no_memory : AvailableRefusal
no_memory = record { refusal = refusals.OutOfMemory; place = 0 }
