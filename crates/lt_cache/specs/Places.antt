-- The places of a cache, which are made when it gets its first answer.
use Rattle.std.specs.Prelude.{List, [], ◌∷◌, Option, None, replicate}
use Rattle.lt_cache.specs.declared.recent.Kept.{Kept}

-- the 8,192 places of a cache, which are 4,096 pairs, all empty
unfoldable pub blank_places : List (Option Kept)
blank_places = replicate 8192 None

-- the places of a cache, which are empty where none were made yet
abbrev pub made : List (Option Kept) → List (Option Kept)
made [] = blank_places
made (place ∷ places) = place ∷ places
