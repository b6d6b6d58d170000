-- What a reader prefers: language ranges with weights, and which of some tags they serve (RFC 9110, 12.4.2 and 12.5.4;
-- RFC 4647, 3.3.1 and 3.4).
use Rattle.std.specs.Prelude.{ℕ, ◌≡◌, ◌<◌, ◌≤◌, ◌+◌, ◌⊎◌, Bool, true, false, List, [], ◌∷◌, ◌++◌, length, Option}
use Rattle.std.specs.Prelude.{Some, None, slice_index_or}
use Rattle.lt_range.specs.Ranges.{RangeParts}
use Rattle.lt_range.specs.Matching.{MatchesBasic, FallsBackTo}
use Rattle.lt_range.specs.Filtering.{ArePlaces}
use Rattle.lt_range.specs.Lookup.{tag_at}
use Rattle.lt_range.specs.Spellings.{MatchesSome, Spellings, count_in}
use Rattle.lt_range.specs.declared.preferences.Preference.{Preference}

-- the preference at a place; after the last one, a preference without subtags and of weight 0
abbrev pub at : List Preference → ℕ → Preference
at all place = slice_index_or all place (record { range = record { wild = false; named = [] }; weight = 0; place = 0 })

-- how many subtags other than `*` the range at a place has; so the range `*` is the shortest
abbrev pub length_at : List Preference → ℕ → ℕ
length_at all place = length (at all place).range.named

-- ---- the longest of some

-- `P` is true of none of the first `count` places
abbrev pub NoneOf : (ℕ → Type 0) → ℕ → Type 0
NoneOf P count = (i : ℕ) → i < count → P i → ⊥

-- of the first `count` places of which `P` is true, `place` is the one with the greatest length, which `long` gives,
-- and the first of that length
pub record IsLongestOf (P : ℕ → Type 0) (long : ℕ → ℕ) (count place : ℕ) : Type 0 where
  pub within : place < count
  pub holds : P place
  pub longest : (i : ℕ) → i < count → P i → long i ≤ long place
  pub first : (i : ℕ) → i < place → P i → long i < long place

-- the longest of the first `count` places of which `P` is true, None if it is true of none
abbrev pub MayBeLongest : (ℕ → Type 0) → (ℕ → ℕ) → ℕ → Option ℕ → Type 0
MayBeLongest P long count None = NoneOf P count
MayBeLongest P long count (Some place) = IsLongestOf P long count place

-- a place is longer than the one that was found, if one was
abbrev pub IsLonger : (ℕ → ℕ) → Option ℕ → ℕ → Type 0
IsLonger long None place = Unit {0}
IsLonger long (Some found) place = long found < long place

-- ---- the weight of a tag

-- the range at a place matches the tag by basic filtering (RFC 4647, 3.3.1)
abbrev pub Matched : List Preference → Spellings → ℕ → Type 0
Matched all tag place = MatchesSome MatchesBasic (at all place).range tag

-- The range at `place` decides the weight of the tag: it is the longest of those that match it, and the first of that
-- length. So `*` is for tags that no other range matches (RFC 4647, 3.3.1; RFC 2616, 14.4).
abbrev pub Decides : List Preference → Spellings → ℕ → Type 0
Decides all tag place = IsLongestOf (Matched all tag) (length_at all) (length all) place

-- no range matches the tag
abbrev pub NoneDecides : List Preference → Spellings → Type 0
NoneDecides all tag = NoneOf (Matched all tag) (length all)

-- the weight of the tag; None if no range matches it
abbrev pub HasWeight : List Preference → Spellings → Option ℕ → Type 0
HasWeight all tag None = NoneDecides all tag
HasWeight all tag (Some weight) = (place : ℕ) × Decides all tag place × (weight ≡ (at all place).weight)

-- the tag is "not acceptable": its weight is 0 (RFC 9110, 12.4.2)
abbrev pub IsRefused : List Preference → Spellings → Type 0
IsRefused all tag = HasWeight all tag (Some 0)

-- ---- the tag to serve

-- a range falls back to a tag that is not refused (RFC 4647, 3.4)
pub record Falls (all : List Preference) (range : RangeParts) (tag : Spellings) : Type 0 where
  pub falls : MatchesSome FallsBackTo range tag
  pub allowed : IsRefused all tag → ⊥

-- a range matches, by basic filtering, a tag that is not refused (RFC 4647, 3.3.1)
pub record Selects (all : List Preference) (range : RangeParts) (tag : Spellings) : Type 0 where
  pub matches : MatchesSome MatchesBasic range tag
  pub allowed : IsRefused all tag → ⊥

-- a range falls back to the tag at a place, which is not refused
abbrev pub FallsAt : List Preference → RangeParts → List Spellings → ℕ → Type 0
FallsAt all range tags place = Falls all range (tag_at tags place)

-- how many subtags the tag at a place has, in its first spelling
abbrev pub tag_length_at : List Spellings → ℕ → ℕ
tag_length_at tags place = count_in (tag_at tags place)

-- a range falls back to none of the tags that are not refused
abbrev pub FallsToNone : List Preference → RangeParts → List Spellings → Type 0
FallsToNone all range tags = NoneOf (FallsAt all range tags) (length tags)

-- of the tags that are not refused and to which a range falls back, the one at `place` is the longest, and the first of
-- that length (RFC 4647, 3.4)
abbrev pub FallsTo : List Preference → RangeParts → List Spellings → ℕ → Type 0
FallsTo all range tags place = IsLongestOf (FallsAt all range tags) (tag_length_at tags) (length tags) place

-- a range selects the tag at a place, which is not refused
abbrev pub SelectsAt : List Preference → RangeParts → List Spellings → ℕ → Type 0
SelectsAt all range tags place = Selects all range (tag_at tags place)

-- the tag at `place` is the first that a range selects of those that are not refused
pub record SelectsFirst (all : List Preference) (range : RangeParts) (tags : List Spellings) (place : ℕ)
    : Type 0 where
  pub within : place < length tags
  pub selects : SelectsAt all range tags place
  pub before : NoneOf (SelectsAt all range tags) place

-- the first tag that a range selects, if it selects one
abbrev pub MaySelect : List Preference → RangeParts → List Spellings → Option ℕ → Type 0
MaySelect all range tags None = NoneOf (SelectsAt all range tags) (length tags)
MaySelect all range tags (Some place) = SelectsFirst all range tags place

-- A range serves the tag that lookup by it finds, of those that are not refused; if it finds none, the first of them
-- that the range matches by basic filtering: `de-CH` serves `de`, and `de` serves `de-CH` (RFC 4647, 3.4 and 3.3.1;
-- that filtering follows lookup is a rule of this project).
abbrev pub Serves : List Preference → RangeParts → List Spellings → Option ℕ → Type 0
Serves all range tags served =
    ((place : ℕ) × FallsTo all range tags place × (served ≡ Some place))
    ⊎ (FallsToNone all range tags × MaySelect all range tags served)

-- a range takes part in a turn: its weight is not 0, and it begins with `*` exactly in the turn of those that do
pub record TakesTurn (wild : Bool) (preference : Preference) : Type 0 where
  pub weighty : 0 < preference.weight
  pub turn : preference.range.wild ≡ wild

-- what the range at the place `index` serves: None if it takes no part in the turn
abbrev pub ServesBy : Bool → List Preference → ℕ → List Spellings → Option ℕ → Type 0
ServesBy wild all index tags served =
    (TakesTurn wild (at all index) × Serves all (at all index).range tags served)
    ⊎ ((TakesTurn wild (at all index) → ⊥) × (served ≡ None))

-- none of the first `count` ranges serves a tag in the turn
abbrev pub NoneServesOf : ℕ → Bool → List Preference → List Spellings → Type 0
NoneServesOf count wild all tags = (i : ℕ) → i < count → ServesBy wild all i tags None

-- the first range that serves a tag in the turn serves the one at `place`
pub record FirstServes (wild : Bool) (all : List Preference) (tags : List Spellings) (place : ℕ) : Type 0 where
  pub index : ℕ
  pub within : index < length all
  pub serves : ServesBy wild all index tags (Some place)
  pub before : NoneServesOf index wild all tags

-- what is served in a turn, if anything
abbrev pub ServesInTurn : Bool → List Preference → List Spellings → Option ℕ → Type 0
ServesInTurn wild all tags None = NoneServesOf (length all) wild all tags
ServesInTurn wild all tags (Some place) = FirstServes wild all tags place

-- The tag to serve: that of the first range in order that serves one; `*` comes after all others (RFC 4647, 3.4: "If
-- the language range '*' is followed by other language ranges, it is skipped").
abbrev pub IsBest : List Preference → List Spellings → Option ℕ → Type 0
IsBest all tags best =
    ((place : ℕ) × FirstServes false all tags place × (best ≡ Some place))
    ⊎ (NoneServesOf (length all) false all tags × ServesInTurn true all tags best)

-- ---- the first range that serves a tag

-- a range falls back to a tag, or matches it by basic filtering
abbrev pub Reaches : RangeParts → Spellings → Type 0
Reaches range tag = MatchesSome FallsBackTo range tag ⊎ MatchesSome MatchesBasic range tag

-- the range at a place takes part in the turn, and reaches the tag
pub record ReachesAt (wild : Bool) (all : List Preference) (tag : Spellings) (index : ℕ) : Type 0 where
  pub takes : TakesTurn wild (at all index)
  pub reaches : Reaches (at all index).range tag

-- in the turn the range at `index` reaches the tag at `place`, which is not refused
pub record ServesAt (wild : Bool) (all : List Preference) (tags : List Spellings) (place index : ℕ)
    : Type 0 where
  pub reached : ReachesAt wild all (tag_at tags place) index
  pub allowed : IsRefused all (tag_at tags place) → ⊥

-- in the turn the range at `first` is the first that serves one of the first `count` tags; if none does, `first` is the
-- number of all ranges
pub record IsFirstServing (wild : Bool) (all : List Preference) (tags : List Spellings) (count first : ℕ)
    : Type 0 where
  pub within : first ≤ length all
  pub before : (place : ℕ) → place < count → NoneOf (ServesAt wild all tags place) first
  pub serves : first < length all → (place : ℕ) × (place < count) × ServesAt wild all tags place first

-- preferences and tags determine which of the tags is served, or that none is
abbrev pub BestIsDetermined : Type 0
BestIsDetermined =
    (all : List Preference) (tags : List Spellings) (p q : Option ℕ) → IsBest all tags p → IsBest all tags q → p ≡ q

-- ---- the tags that are accepted

-- the range that decides the weight of the tag is of this place, and that weight is not 0
pub record Accepts (all : List Preference) (place : ℕ) (tag : Spellings) : Type 0 where
  pub index : ℕ
  pub decides : Decides all tag index
  pub of : (at all index).place ≡ place
  pub weighty : 0 < (at all index).weight

-- the range that decides the weight of the tag, if one does
abbrev pub MayDecide : List Preference → Spellings → Option ℕ → Type 0
MayDecide all tag None = NoneDecides all tag
MayDecide all tag (Some place) = Decides all tag place

-- for each of the first `count` tags `found` has the place of the range that decides its weight, if one does
pub record AreDeciding (all : List Preference) (tags : List Spellings) (count : ℕ) (found : List (Option ℕ))
    : Type 0 where
  pub counted : length found ≡ count
  pub each : (place : ℕ) → place < count → MayDecide all (tag_at tags place) (slice_index_or found place None)

-- `found` are the places of the tags that are accepted by the ranges of `place` and of the places after it, as many as
-- the third argument has elements
abbrev pub AreAcceptedFrom : List Preference → ℕ → List Preference → List Spellings → List ℕ → Type 0
AreAcceptedFrom all place [] tags found = found ≡ []
AreAcceptedFrom all place (p ∷ ps) tags found = (here rest : List ℕ) × (found ≡ here ++ rest)
    × ArePlaces (Accepts all place) 0 tags here × AreAcceptedFrom all (place + 1) ps tags rest

-- The places of the tags whose weight is above 0: for each place in order those whose weight a range of the place
-- decides, and these in the order of the tags (RFC 4647, 3.3).
abbrev pub AreAccepted : List Preference → List Spellings → List ℕ → Type 0
AreAccepted all tags found = AreAcceptedFrom all 0 all tags found
