-- What a cache appends to an answer for the front of a text and for its end. The end goes from the hyphen before the
-- first one-character subtag on, and the front is what is before it. No public contract cites this.
use Rattle.std.specs.Prelude.{ℕ, ◌≡◌, ◌+◌, Bool, true, false, List, [], ◌∷◌, ◌++◌, length, Option}
use Rattle.std.specs.Char.{to_ascii_lowercase}
use Rattle.lt_subtag.specs.Bytes.{folded}
use Rattle.lt_subtag.specs.Shapes.{is_separator}
use Rattle.lt_tag.specs.Lists.{list_of}
use Rattle.lt_tag.specs.Extensions.{transform}
use Rattle.lt_tag.specs.Conventional.{conventional}
use Rattle.lt_registry.specs.Parts.{EntryParts}
use Rattle.lt_cache.specs.Recent.{Holds}
use Rattle.lt_cache.specs.declared.recent.Kept.{Kept}
use Rattle.lt_canon.specs.Texts.{IsCanonicalTextOf}
use Rattle.lt_cache.specs.Ends.{AreEnds, IsCanonicalCore, IsEnd, IsEndText}

-- true: a canonical core was appended in conventional case; false: nothing was
abbrev pub AppendsFront : List EntryParts → (front old new : List ℕ) → Bool → Type 0
AppendsFront R front old new true = IsCanonicalCore R front × (new ≡ old ++ conventional (list_of front))
AppendsFront R front old new false = new ≡ old

-- true: the answer that the cache has for an end was appended; false: nothing was
abbrev pub AppendsKept : List (Option Kept) → (end old new : List ℕ) → Bool → Type 0
AppendsKept table end old new true =
    (answer : List ℕ) × (refused : Bool) × Holds table end answer refused × (new ≡ old ++ answer)
AppendsKept table end old new false = new ≡ old

-- true: a hyphen (45), `t`, a hyphen, the source in lower case and what the cache has for the fields were appended;
-- false: nothing was
abbrev pub AppendsTransformed : List (Option Kept) → (source fields old new : List ℕ) → Bool → Type 0
AppendsTransformed table source fields old new true =
    (answer : List ℕ) × (refused : Bool) × Holds table fields answer refused
    × (new ≡ old ++ (45 ∷ transform ∷ 45 ∷ folded source ++ answer))
AppendsTransformed table source fields old new false = new ≡ old

-- true: what follows the core in the canonical text of each canonical core with this end was appended; false: nothing
-- was
abbrev pub AppendsEnd : List EntryParts → List (Option Kept) → (end old new : List ℕ) → Bool → Type 0
AppendsEnd R table end old new true = (rest : List ℕ) × (AreEnds R table → IsEndText R end rest) × (new ≡ old ++ rest)
AppendsEnd R table end old new false = new ≡ old

-- the texts end with the canonical text of a canonical core, `front`, with this end; what follows the core in that text
-- begins at the place `from`
pub record EndStands (R : List EntryParts) (end : List ℕ) (from : ℕ) (texts : List ℕ) : Type 0 where
  pub front : List ℕ
  pub core : IsCanonicalCore R front
  pub is_end : IsEnd end
  pub before : List ℕ
  pub canonical : List ℕ
  pub whole : texts ≡ before ++ canonical
  pub is_canonical : IsCanonicalTextOf R (front ++ end) canonical
  pub counted : from ≡ length before + length (conventional (list_of front))

-- a text is a canonical core, which has `count` bytes in conventional case, and an end
pub record EndsText (R : List EntryParts) (text end : List ℕ) (count : ℕ) : Type 0 where
  pub front : List ℕ
  pub whole : front ++ end ≡ text
  pub core : IsCanonicalCore R front
  pub is_end : IsEnd end
  pub counted : count ≡ length (conventional (list_of front))

-- a hyphen (45), the separator of a field, of a letter and a digit, and a hyphen begin the text (RFC 6497, 2.2)
pub record BeginsWithSeparator (fields : List ℕ) : Type 0 where
  pub letter : ℕ
  pub digit : ℕ
  pub rest : List ℕ
  pub separator : is_separator (folded (letter ∷ digit ∷ [])) ≡ true
  pub whole : fields ≡ 45 ∷ letter ∷ digit ∷ 45 ∷ rest

-- the text is a hyphen (45), the singleton `t`, a hyphen and `rest` (RFC 6497, 2.2)
pub record FollowsSingleton (rest text : List ℕ) : Type 0 where
  pub singleton : ℕ
  pub is_t : to_ascii_lowercase singleton ≡ transform
  pub whole : text ≡ 45 ∷ singleton ∷ 45 ∷ rest
