-- The list of tags that a handle keeps: which tag of it is served for an Accept-Language header, and which tags the
-- header accepts (RFC 9110, 12.5.4). And what `bcp47_handle_list`, `bcp47_handle_best` and `bcp47_handle_filter`
-- answer. A tag's listss are the subtags of its spellings.
use Rattle.std.specs.Prelude.{ℕ, ◌≡◌, ◌⊎◌, List, [], ◌∷◌, Option, Some, None, drop, length, min, take}
use Rattle.lt_registry.specs.Parts.{EntryParts}
use Rattle.lt_range.specs.Asked.{Asks, IsHeaderRefusal}
use Rattle.lt_range.specs.Available.{AreAvailable, IsAvailableRefusal}
use Rattle.lt_range.specs.Preferences.{AreAccepted, IsBest}
use Rattle.lt_range.specs.declared.asked.HeaderRefusal.{HeaderRefusal}
use Rattle.lt_range.specs.declared.asked.HeaderRefusal.TheVariants as refusals
use Rattle.lt_range.specs.declared.available.AvailableRefusal.{AvailableRefusal}
use Rattle.lt_range.specs.declared.preferences.Preference.{Preference}
use Rattle.lt_range.specs.Spellings.{Spellings}
use Rattle.bcp47_c.specs.Handles.{Held}
use Rattle.bcp47_c.specs.Matches.{range_said}
use Rattle.bcp47_c.specs.Numbers.{accept_fault}
use Rattle.bcp47_c.specs.Outcomes.{AreDelivered, ended, of_text, outcome, refusal_said}
use Rattle.bcp47_c.specs.Records.{Kept, with_lists}
use Rattle.bcp47_c.specs.declared.outcomes.Outcome.{Outcome}
use Rattle.bcp47_c.specs.declared.outcomes.Said.{Said}

-- ---- the list of tags

-- the texts with these lengths that stand one after another in a text; the last of them are shorter if it ends too
-- early
abbrev pub texts_of : List ℕ → List ℕ → List (List ℕ)
texts_of [] text = []
texts_of (n ∷ ns) text = take n text ∷ texts_of ns (drop n text)

-- What is answered if a tag is refused: what is said of the refusal, and the number of the tag, unless memory ran out.
-- C has the number as an `int`; the greatest `int` stands for all greater numbers.
abbrev pub tag_refused : AvailableRefusal → Outcome
tag_refused refused = of_text (min refused.place 2147483647) (outcome (refusal_said refused.refusal) 0)

-- the handle holds the same registry and records, with the lists of the tags that the texts are, and the status is Done
-- (0)
pub record AreListed (registry : Kept) (texts : List (List ℕ)) (held : Held) (o : Outcome) : Type 0 where
  pub lists : List Spellings
  pub available : AreAvailable registry.entries texts (length texts) lists
  pub holds : held ≡ Some (with_lists registry lists)
  pub told : o ≡ outcome (ended 0) 0

-- the first of the texts that is refused is answered, with the reason
pub record IsTagsRefused (R : List EntryParts) (texts : List (List ℕ)) (o : Outcome) : Type 0 where
  pub refused : AvailableRefusal
  pub owed : IsAvailableRefusal R texts refused
  pub told : o ≡ tag_refused refused

-- The handle holds the lists of the tags that the texts are in place of those that it held. Or it holds what it held,
-- and why one of the texts is refused is answered. In order: what was held, the texts, what is held, the outcome.
abbrev pub Lists : Kept → List (List ℕ) → Held → Outcome → Type 0
Lists registry texts held o =
    AreListed registry texts held o ⊎ (IsTagsRefused registry.entries texts o × (held ≡ Some registry))

-- ---- the tags for a header

-- the status, detail and place for a header that is refused: BadHeader (18) with its fault and the number of the list
-- element, what is said of a range that is refused, or OutOfMemory (4)
abbrev pub header_said : HeaderRefusal → Said
header_said (refusals.NotAHeader fault) = record { status = 18; detail = accept_fault fault.kind; place = fault.place }
header_said (refusals.BadRange refusal) = range_said refusal
header_said refusals.OutOfMemory = ended 4

-- the status Done (0), and for a tag that is served 1 as the detail and its place, counted from 0
abbrev pub served_said : Option ℕ → Said
served_said None = ended 0
served_said (Some place) = record { status = 0; detail = 1; place = place }

-- the tag to serve is answered, or that there is none
pub record IsServed (R : List EntryParts) (lists : List Spellings) (header : List ℕ) (o : Outcome)
    : Type 0 where
  pub preferences : List Preference
  pub asked : Asks R header preferences
  pub best : Option ℕ
  pub is_best : IsBest preferences lists best
  pub told : o ≡ outcome (served_said best) 0

-- the places, counted from 0, of the tags that the header accepts are answered; the room for them was `room` and is
-- `filled`
pub record AreServed (R : List EntryParts) (lists : List Spellings) (header room filled : List ℕ) (o : Outcome)
    : Type 0 where
  pub preferences : List Preference
  pub asked : Asks R header preferences
  pub places : List ℕ
  pub accepted : AreAccepted preferences lists places
  pub delivered : AreDelivered places [] room filled [] [] o

-- why the header is refused is answered
pub record IsHeaderRefused (R : List EntryParts) (header : List ℕ) (o : Outcome) : Type 0 where
  pub refusal : HeaderRefusal
  pub owed : IsHeaderRefusal R header refusal
  pub told : o ≡ outcome (header_said refusal) 0

-- which of the tags with these lists is served for the header is answered, or why the header is refused
abbrev pub Serves : List EntryParts → List Spellings → List ℕ → Outcome → Type 0
Serves R lists header o = IsServed R lists header o ⊎ IsHeaderRefused R header o

-- The places of those tags that the header accepts, among the tags with these lists, are answered; or why the header is
-- refused. The room for the places was `room` and is `filled`, which is the same if the header is refused.
abbrev pub Accepts : List EntryParts → List Spellings → List ℕ → List ℕ → List ℕ → Outcome → Type 0
Accepts R lists header room filled o =
    AreServed R lists header room filled o
    ⊎ (IsHeaderRefused R header o × (filled ≡ room))
