-- Language ranges (RFC 4647, 2.1 and 2.2).
use Rattle.std.specs.Prelude.{ℕ, ◌≡◌, Bool, true, false, ◌&&◌, List, [], ◌∷◌, map, Option, Some, None}
use Rattle.std.specs.List.{list_all}
use Rattle.std.specs.Option.{option_map_or}
use Rattle.lt_subtag.specs.Bytes.{is_subtag}
use Rattle.lt_subtag.specs.Shapes.{is_alphabetic}
use Rattle.lt_tag.specs.Lists.{list_of}

-- the subtags of a range in their order; the special subtag `*` is None (RFC 4647, 2.2)
abbrev pub RangeForm : Type 0
RangeForm = List (Option (List ℕ))

-- whether a subtag is of 1 to 8 letters, as the first of a range is (RFC 4647, 2.1)
abbrev pub is_first : List ℕ → Bool
is_first s = is_subtag s && is_alphabetic s

-- An extended language range: its first subtag has only letters or is `*`, and each other is a subtag or `*` (RFC 4647,
-- 2.2).
abbrev pub IsLanguageRange : RangeForm → Type 0
IsLanguageRange [] = ⊥
IsLanguageRange (s ∷ ss) =
    (option_map_or is_first s true ≡ true) × (list_all (λ o. option_map_or is_subtag o true) ss ≡ true)

-- a subtag of a range as it is written: `*` (42) for None
abbrev pub written : Option (List ℕ) → List ℕ
written None = 42 ∷ []
written (Some s) = s

-- the text is a language range, letter case aside (RFC 4647, 2)
pub record HasRange (text : List ℕ) (form : RangeForm) : Type 0 where
  pub range : IsLanguageRange form
  pub spelled : map written form ≡ list_of text

-- What matters of a range for matching: whether it begins with `*`, and its other subtags in their order. A `*` that is
-- not first has no effect (RFC 4647, 3.2, 3.3.2 and 3.4).
pub record RangeParts : Type 0 where
  pub wild : Bool
  pub named : List (List ℕ)

-- the subtags of a range other than `*`
abbrev pub named_of : RangeForm → List (List ℕ)
named_of [] = []
named_of (None ∷ form) = named_of form
named_of (Some s ∷ form) = s ∷ named_of form

-- whether the first subtag of a range is `*`
abbrev pub begins_wild : RangeForm → Bool
begins_wild (None ∷ form) = true
begins_wild _ = false

-- what matters of a range for matching
abbrev pub parts_of : RangeForm → RangeParts
parts_of form = record { wild = begins_wild form; named = named_of form }

-- the range of a tag's subtags, which has no `*` (RFC 4647, 2.1)
abbrev pub range_of_tag : List (List ℕ) → RangeParts
range_of_tag list = record { wild = false; named = list }

-- `range` is the parts of the range that the text is (RFC 4647, 2)
pub record IsRangeOf (text : List ℕ) (range : RangeParts) : Type 0 where
  pub form : RangeForm
  pub has : HasRange text form
  pub is : range ≡ parts_of form
