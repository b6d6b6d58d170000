-- When a language range matches a tag (RFC 4647, 3.3 and 3.4). Both are lists of subtags in lower case, since letter
-- case is ignored (RFC 4647, 2).
use Rattle.std.specs.Prelude.{ℕ, ◌≡◌, ◌<◌, ◌⊎◌, ◌-◌, ◌==◌, Bool, true, false, not, List, [], ◌∷◌, ◌++◌, length}
use Rattle.std.specs.List.{list_all, slice_get, AllByRecursion}
use Rattle.std.specs.Option.{option_map_or}
use Rattle.lt_range.specs.Ranges.{RangeParts}
use Rattle.lt_range.specs.declared.matching.Scheme.{Scheme}
use Rattle.lt_range.specs.declared.matching.Scheme.TheVariants as schemes

-- the list begins with the subtags of `front` (RFC 4647, 3.3.1)
abbrev pub BeginsWith : List (List ℕ) → List (List ℕ) → Type 0
BeginsWith front list = (rest : List (List ℕ)) × (list ≡ front ++ rest)

-- Basic filtering: a range that begins with `*` matches each tag, any other the tags that begin with its subtags (RFC
-- 4647, 3.3.1).
abbrev pub MatchesBasic : RangeParts → List (List ℕ) → Type 0
MatchesBasic range tag = (range.wild ≡ true) ⊎ BeginsWith range.named tag

-- whether a subtag has more than one letter or digit (RFC 4647, 3.3.2)
abbrev pub is_no_singleton : List ℕ → Bool
is_no_singleton s = not (length s == 1)

-- Subtags are in a list, one after another, and no singleton is among those that are passed over (RFC 4647, 3.3.2).
abbrev pub AreInTurn : List (List ℕ) → List (List ℕ) → Type 0
AreInTurn [] list = Unit {0}
AreInTurn (s ∷ ss) list = (passed rest : List (List ℕ)) × (list ≡ passed ++ s ∷ rest)
    × (list_all is_no_singleton passed ≡ true) × AreInTurn ss rest

-- the subtag `s` is in a list, and no singleton is before it
pub record IsPassedTo (list : List (List ℕ)) (s : List ℕ) : Type 0 where
  pub passed : List (List ℕ)
  pub rest : List (List ℕ)
  pub there : list ≡ passed ++ s ∷ rest
  pub long : list_all is_no_singleton passed ≡ true

-- `rest` is what follows the first occurrence of `s` in a list, and no singleton is before that; `passed`, what is
-- before it, does not have `s`
pub record FollowsFirst (list : List (List ℕ)) (s : List ℕ) (rest : List (List ℕ)) : Type 0 where
  pub passed : List (List ℕ)
  pub there : list ≡ passed ++ s ∷ rest
  pub long : list_all is_no_singleton passed ≡ true
  pub new : AllByRecursion (λ t. t ≡ s → ⊥) passed

-- the first subtag of a range is that of the tag, and the others are in turn in what follows it (RFC 4647, 3.3.2)
abbrev pub NamesInTurn : List (List ℕ) → List (List ℕ) → Type 0
NamesInTurn (s ∷ ss) (t ∷ ts) = (s ≡ t) × AreInTurn ss ts
NamesInTurn _ _ = ⊥

-- `*` stands for the first subtag of the tag, and the others are in turn in what follows it (RFC 4647, 3.3.2)
abbrev pub NamesAfterFirst : List (List ℕ) → List (List ℕ) → Type 0
NamesAfterFirst ss (t ∷ ts) = AreInTurn ss ts
NamesAfterFirst _ _ = ⊥

-- extended filtering: the first subtag of a range is that of the tag, or is `*`, and the others follow in turn (RFC
-- 4647, 3.3.2)
abbrev pub MatchesExtended : RangeParts → List (List ℕ) → Type 0
MatchesExtended range tag =
    ((range.wild ≡ true) × NamesAfterFirst range.named tag) ⊎ ((range.wild ≡ false) × NamesInTurn range.named tag)

-- whether the last subtag of a list has more than one letter or digit
abbrev pub ends_long : List (List ℕ) → Bool
ends_long list = option_map_or is_no_singleton (slice_get list (length list - 1)) false

-- What may be left of a range after it is cut from its end: the whole range, or one subtag or more at its front, the
-- last of which is no singleton, since a singleton is cut with the subtag after it (RFC 4647, 3.4).
pub record IsLeft (range left : List (List ℕ)) : Type 0 where
  pub begins : BeginsWith left range
  pub some : 0 < length left
  pub whole : (left ≡ range) ⊎ (ends_long left ≡ true)

-- Lookup: the tag is the range, or what is left of the range after it is cut from its end; a range that begins with `*`
-- finds none (RFC 4647, 3.4).
pub record FallsBackTo (range : RangeParts) (tag : List (List ℕ)) : Type 0 where
  pub named : range.wild ≡ false
  pub left : IsLeft range.named tag

-- a range matches a list of subtags by a scheme; by lookup, if it can be cut from its end until it is the list (RFC
-- 4647, 3.3.1, 3.3.2 and 3.4)
abbrev pub MatchesBy : Scheme → RangeParts → List (List ℕ) → Type 0
MatchesBy schemes.Basic range list = MatchesBasic range list
MatchesBy schemes.Extended range list = MatchesExtended range list
MatchesBy schemes.Lookup range list = FallsBackTo range list
