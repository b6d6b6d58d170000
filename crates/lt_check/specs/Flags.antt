-- A flag for each subtag that has a place in a table: whether canonicalization leaves it as it is, so that many tags
-- need no search.
use Rattle.std.specs.Prelude.{ℕ, ◌≡◌, ◌/◌, ◌%◌, ◌==◌, ◌&&◌, if◌then◌else◌, Bool, not, List, Some, All, bytes_eq}
use Rattle.std.specs.Prelude.{slice_index}
use Rattle.std.specs.Int.{bit_at}
use Rattle.std.specs.List.{list_any}
use Rattle.lt_subtag.specs.Bytes.{folded}
use Rattle.lt_registry.specs.Parts.{EntryParts}
use Rattle.lt_registry.specs.Same.{same_kind}
use Rattle.lt_registry.specs.Entries.{IsEntry}
use Rattle.lt_registry.specs.declared.entries.Kind.{Kind}
use Rattle.lt_registry.specs.declared.entries.Kind.TheVariants as kinds
use Rattle.lt_check.specs.Places.{place}
use Rattle.lt_check.specs.Staying.{has_no_value, replaces_plain_of, stays}

-- the flag of a place: one bit of one of the words, which have 64 bits each
abbrev pub flag : List ℕ → ℕ → Bool
flag words n = bit_at (slice_index words (n / 64)) (n % 64) == 1

-- the flag of each subtag that has a place is the answer of the test to its kind and to it in lower case
abbrev pub Tell : (Kind → List ℕ → Bool) → List ℕ → Type 0
Tell test words = (k : Kind) (s : List ℕ) (n : ℕ) → place k s ≡ Some n → flag words n ≡ test k (folded s)

-- the answer of `test` to the subtag `s` of kind `k`, except that the answer to the subtag `t` of kind `j` is `set`
abbrev pub with_subtag : Kind → List ℕ → Bool → (Kind → List ℕ → Bool) → Kind → List ℕ → Bool
with_subtag j t set test k s = if same_kind j k && bytes_eq t s then set else test k s

-- the flags tell which subtags have a record of their own in `R`, without a value
abbrev pub TellSingles : List EntryParts → List ℕ → Type 0
TellSingles R words = Tell (has_no_value R) words

-- whether a subtag has a record of its own in `R`, without a value, and, if it is a language, none of the records `es`
-- replaces a tag of it without extlangs and variants
abbrev pub stays_beside : List EntryParts → List EntryParts → Kind → List ℕ → Bool
stays_beside R es k s = has_no_value R k s && not (same_kind k kinds.Language && list_any (replaces_plain_of s) es)

-- the flags tell which subtags of a registry stay as they are, and its entries have their forms, so that each subtag is
-- in lower case
pub record AreFlags (R : List EntryParts) (words : List ℕ) : Type 0 where
  pub forms : All IsEntry R
  pub tell : Tell (stays R) words
