-- How a keyword loses its only type, if that is `true` (RFC 6067).
use Rattle.std.specs.Prelude.{ℕ, cond, List, [], ◌∷◌, bytes_eq, codes}
use Rattle.lt_tag.specs.Parts.{KeywordParts}

-- the types of a keyword, or none if `true` is the only one; `true` among several types stays
abbrev pub without_true : List (List ℕ) → List (List ℕ)
without_true [] = []
without_true (t ∷ []) = cond (bytes_eq t (codes "true")) [] (t ∷ [])
without_true (t ∷ u ∷ ts) = t ∷ u ∷ ts

-- the keyword `k`, without its types if `true` is the only one
abbrev pub untrue : KeywordParts → KeywordParts
untrue k = record { key = k.key; types = without_true k.types }
