-- Whether a language range matches a tag (RFC 4647, 3), which `bcp47_handle_match` tells, and what that call answers.
use Rattle.std.specs.Prelude.{ℕ, ◌≡◌, ◌≢◌, ◌⊎◌, ◌↔◌, if◌then◌else◌, Bool, IsTrue, List, [], Option, Some, None}
use Rattle.lt_tag.specs.Faults.{HasTag}
use Rattle.lt_tag.specs.Parts.{TagForm}
use Rattle.lt_registry.specs.Parts.{EntryParts}
use Rattle.lt_canon.specs.Texts.{IsTextRefusal}
use Rattle.lt_range.specs.Ranges.{RangeParts}
use Rattle.lt_range.specs.Matched.{AreRangesOf, MatchesTag}
use Rattle.lt_range.specs.Spellings.{HasSpellings, Spellings}
use Rattle.lt_range.specs.Refusals.{IsRangeRefusal}
use Rattle.lt_range.specs.declared.matching.Scheme.{Scheme}
use Rattle.lt_range.specs.declared.matching.Scheme.TheVariants as schemes
use Rattle.lt_range.specs.declared.refusals.RangeRefusal.{RangeRefusal}
use Rattle.lt_range.specs.declared.refusals.RangeRefusal.TheVariants as refusals
use Rattle.bcp47_c.specs.Numbers.{range_fault}
use Rattle.bcp47_c.specs.Outcomes.{ended, of_text, IsDelivered, IsRefusedAsOwed}
use Rattle.bcp47_c.specs.declared.outcomes.Outcome.{Outcome}
use Rattle.bcp47_c.specs.declared.outcomes.Said.{Said}

-- ---- schemes

-- the number of a scheme of matching in C
abbrev pub scheme_number : Scheme → ℕ
scheme_number schemes.Basic = 1
scheme_number schemes.Extended = 2
scheme_number schemes.Lookup = 3

-- the scheme of matching that has a number, None if none has it
abbrev pub IsSchemeOf : ℕ → Option Scheme → Type 0
IsSchemeOf n (Some scheme) = n ≡ scheme_number scheme
IsSchemeOf n None = (scheme : Scheme) → n ≢ scheme_number scheme

-- ---- what is answered

-- The range and the tag of `text` both have spellings, and `answer` is whether they match in one of each (RFC 5646,
-- 4.5; RFC 4647, 3).
pub record IsMatchOf (R : List EntryParts) (scheme : Scheme) (range text : List ℕ) (answer : Bool) : Type 0 where
  pub ranges : List RangeParts
  pub are_ranges : AreRangesOf R range ranges
  pub tag : TagForm
  pub read : HasTag text tag
  pub lists : Spellings
  pub has : HasSpellings R tag lists
  pub matches : IsTrue answer ↔ MatchesTag R scheme range tag

-- the status says whether the range matches the tag of `text`: Done (0) if so, Different (6) if not; the buffer was
-- `before` and is `after`
pub record IsMatchTold (R : List EntryParts) (scheme : Scheme) (range text before after : List ℕ) (o : Outcome)
    : Type 0 where
  pub answer : Bool
  pub is_answer : IsMatchOf R scheme range text answer
  pub delivered : IsDelivered (ended (if answer then 0 else 6)) [] before after o

-- ---- what is refused

-- the status and detail for a range that is refused: NotATag (1), ReplacementRepeats (3) or OutOfMemory (4)
abbrev pub range_said : RangeRefusal → Said
range_said (refusals.NotARange fault) = record { status = 1; detail = range_fault fault; place = 0 }
range_said (refusals.ReplacementRepeats variant) = ended 3
range_said refusals.OutOfMemory = ended 4

-- the text that is written with the refusal of a range: the variant that steps can repeat, else none
abbrev pub range_text : RangeRefusal → List ℕ
range_text (refusals.NotARange fault) = []
range_text (refusals.ReplacementRepeats variant) = variant
range_text refusals.OutOfMemory = []

-- The range is refused, and the reason is answered, with the number of its text, 1. `alone` is the outcome without that
-- number; the buffer was `before` and is `after`.
pub record IsRangeRefused (R : List EntryParts) (range before after : List ℕ) (o : Outcome) : Type 0 where
  pub refusal : RangeRefusal
  pub owed : IsRangeRefusal R range refusal
  pub alone : Outcome
  pub delivered : IsDelivered (range_said refusal) (range_text refusal) before after alone
  pub told : o ≡ of_text 1 alone

-- The range is not refused, but the tag of `text` is: the reason is answered, with the number of its text, 2. `alone`
-- is the outcome without that number; the buffer was `before` and is `after`.
pub record IsTagRefused (R : List EntryParts) (range text before after : List ℕ) (o : Outcome) : Type 0 where
  pub ranges : List RangeParts
  pub are_ranges : AreRangesOf R range ranges
  pub alone : Outcome
  pub refused : IsRefusedAsOwed (IsTextRefusal R text) before after alone
  pub told : o ≡ of_text 2 alone

-- ---- the call

-- whether the range matches the tag of `text` is answered, or why one of them is refused; the buffer was `before` and
-- is `after`
abbrev pub TellsMatch : List EntryParts → Scheme → List ℕ → List ℕ → List ℕ → List ℕ → Outcome → Type 0
TellsMatch R scheme range text before after o =
    IsMatchTold R scheme range text before after o
    ⊎ (IsRangeRefused R range before after o ⊎ IsTagRefused R range text before after o)

-- the number is that of a scheme, and the answer tells whether the range matches the tag of `text` by this scheme, or
-- why the range or the tag is refused; the buffer was `before` and is `after`
pub record TellsByNumber (R : List EntryParts) (number : ℕ) (range text before after : List ℕ) (o : Outcome)
    : Type 0 where
  pub scheme : Scheme
  pub numbered : number ≡ scheme_number scheme
  pub told : TellsMatch R scheme range text before after o

-- the number is that of no scheme, and the status says that the call is wrong (14); the buffer was `before` and is
-- `after`
pub record IsWrongNumber (number : ℕ) (before after : List ℕ) (o : Outcome) : Type 0 where
  pub none : (scheme : Scheme) → number ≢ scheme_number scheme
  pub delivered : IsDelivered (ended 14) [] before after o

-- The answer of the call: whether the range matches the tag of `text` by the scheme with this number, why one of them
-- is refused, or that no scheme has the number. The buffer was `before` and is `after`.
abbrev pub Matches : List EntryParts → ℕ → List ℕ → List ℕ → List ℕ → List ℕ → Outcome → Type 0
Matches R number range text before after o =
    TellsByNumber R number range text before after o ⊎ IsWrongNumber number before after o
