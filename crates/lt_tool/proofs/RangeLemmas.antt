-- For the loop of `read_ranges`: the texts before an index are read as ranges, and the next one is read too or is the
-- first that is refused.
use Rattle.std.proofs.Common.{◌≡◌, ◌<◌, ◌+◌, ◌++◌, ◌∷◌, ◌∙◌, ℕ, List, [], ap, arith, drop, get_or, length, map, refl, subst, sym, take}
use Rattle.std.proofs.lemmas.List.{append_assoc, append-nil, drop_more, length-map, length-take-le, map-append, take-append-drop, take_more}
use Rattle.lt_registry.specs.Parts.{EntryParts}
use Rattle.lt_range.specs.Ranges.{RangeParts}
use Rattle.lt_range.specs.Matched.{AreRangesOf}
use Rattle.lt_range.specs.Refusals.{IsRangeRefusal}
use Rattle.lt_tool.specs.declared.ranges.RefusedRange.{RefusedRange}
use Rattle.lt_tool.specs.Selected.{AreRanges, RefusesRange}

-- if `ranges` are those of `texts`, they and the ranges of one text more are those of all these texts
ranges_more : (R : List EntryParts) (texts : List (List ℕ)) (ranges : List RangeParts) (text : List ℕ) (added
    : List RangeParts) → AreRanges R texts ranges → AreRangesOf R text added
    → AreRanges R (texts ++ text ∷ []) (ranges ++ added)
ranges_more R [] ranges text added none is = rw none (added, [], is, sym (append-nil added), refl)
ranges_more R (first ∷ texts) ranges text added (one, more, here, split, are) is = (
  one,
  more ++ added,
  here,
  ap (λ (l : List RangeParts). l ++ added) split ∙ append_assoc one more added,
  ranges_more R texts more text added are is,
)

-- `x` is the element of the index `i`, and `f` gives the text of an element
module _ {X : Type 0} (f : X → List ℕ) (xs : List X) (i : ℕ) (x : X) (within : i < length xs) (is : x ≡ get_or xs i x) where
  -- the texts up to the index `i` are those before it, and the text at it
  front_more : map f (take (i + 1) xs) ≡ map f (take i xs) ++ f x ∷ []
  front_more = ap (map f) (take_more xs i x within ∙ ap (λ (y : X). take i xs ++ y ∷ []) (sym is)) ∙ map-append f (take i xs) (x ∷ [])

  -- all texts are those before the index `i`, the text at it, and those after it
  all_parts : map f xs ≡ map f (take i xs) ++ f x ∷ map f (drop (i + 1) xs)
  all_parts = ap (map f) (sym (take-append-drop i xs)) ∙ map-append f (take i xs) (drop i xs)
      ∙ ap (λ (l : List X). map f (take i xs) ++ map f l) (drop_more xs i x within ∙ ap (λ (y : X). y ∷ drop (i + 1) xs) (sym is))

  -- the texts up to the index `i` are read as ranges, if those before it are and the text at it is
  pub next_ranges : (R : List EntryParts) (ranges added : List RangeParts)
      → AreRanges R (map f (take i xs)) ranges → AreRangesOf R (f x) added
      → AreRanges R (map f (take (i + 1) xs)) (ranges ++ added)
  next_ranges R ranges added are are_added = subst (λ (l : List (List ℕ)). AreRanges R l (ranges ++ added))
      (sym front_more) (ranges_more R (map f (take i xs)) ranges (f x) added are are_added)

  -- the text of the index `i` is the first that is refused as a range
  pub range_refused : (R : List EntryParts) (ranges : List RangeParts) (refused : RefusedRange)
      → AreRanges R (map f (take i xs)) ranges → refused.number ≡ i + 1 → IsRangeRefusal R (f x) refused.refusal
      → RefusesRange R (map f xs) refused
  range_refused R ranges refused are numbered is_refusal = record {
    before = map f (take i xs);
    text = f x;
    after = map f (drop (i + 1) xs);
    there = all_parts;
    ranges = ranges;
    are = are;
    numbered = omega (arith, numbered, length-map (take i xs) f, length-take-le i xs (omega (arith, within)));
    is_refusal = is_refusal;
  }
