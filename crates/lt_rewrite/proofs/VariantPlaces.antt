-- Lemmas for the functions that keep the places of the entries of variants (`ArePlaces`), which are indices in the
-- registry: the places stay right when a variant is taken out or added.
use Rattle.std.proofs.Common.{◌≡◌, ◌<◌, ◌+◌, ◌++◌, ℕ, suc, List, [], ◌∷◌, Option, None, length, map, get_or, slice_get}
use Rattle.std.proofs.Common.{sym, ap, ◌∙◌, arith, take, drop, set}
use Rattle.std.specs.List.{remove}
use Rattle.std.proofs.lemmas.List.{map-append, take-map, drop-map, take_more_set, length-map, get_or-map}
use Rattle.lt_registry.specs.Parts.{EntryParts}
use Rattle.lt_registry.specs.Entries.{entry}
use Rattle.lt_registry.specs.declared.entries.Kind.TheVariants as kinds
use Rattle.lt_rewrite.specs.VariantLanguages.{ArePlaces}

-- the place at the index `i` is that of the entry of the variant `v` at `i`
pub placed_at : (R : List EntryParts) (vs : List (List ℕ)) (ps : List ℕ) (i : ℕ) (v : List ℕ) → ArePlaces R vs ps
    → i < length vs → v ≡ get_or vs i v → slice_get R (get_or ps i 0) ≡ entry R kinds.Variant v
placed_at R vs ps i v h l e =
    sym (get_or-map (slice_get R) ps i 0 None
    (omega (
      arith,
      l,
      length-map ps (slice_get R),
      ap (λ (os : List (Option EntryParts)). length os) h,
      length-map vs (entry R kinds.Variant),
    )))
    ∙ ap (λ (os : List (Option EntryParts)). get_or os i None) h
    ∙ get_or-map (entry R kinds.Variant) vs i v None l
    ∙ ap (entry R kinds.Variant) (sym e)

-- to take out one element and to map the elements may be done in either order
map_remove : {A B : Type 0} (f : A → B) (xs : List A) (i : ℕ) → map f (remove xs i) ≡ remove (map f xs) i
map_remove f xs i =
    map-append f (take i xs) (drop (suc i) xs) ∙ (λ j. sym (take-map f i xs) j ++ sym (drop-map f (suc i) xs) j)

-- if one variant and its place are taken out, the places are those of the other variants
pub placed_without : (R : List EntryParts) (vs : List (List ℕ)) (ps : List ℕ) (i : ℕ) → ArePlaces R vs ps
    → ArePlaces R (remove vs i) (remove ps i)
placed_without R vs ps i h =
    map_remove (slice_get R) ps i ∙ ap (λ (os : List (Option EntryParts)). remove os i) h ∙ sym (map_remove (entry R kinds.Variant) vs i)

-- if the variant `v` is set at `i`, and the place `p` of its entry added to those of the variants before `i`, the
-- places are those of the variants up to `i`
pub placed_more : (R : List EntryParts) (vs : List (List ℕ)) (ps : List ℕ) (i p : ℕ) (v : List ℕ) → i < length vs
    → slice_get R p ≡ entry R kinds.Variant v → ArePlaces R (take i vs) ps
    → ArePlaces R (take (i + 1) (set vs i v)) (ps ++ p ∷ [])
placed_more R vs ps i p v h here all =
    map-append (slice_get R) ps (p ∷ [])
    ∙ (λ j. all j ++ here j ∷ [])
    ∙ sym (map-append (entry R kinds.Variant) (take i vs) (v ∷ []))
    ∙ ap (map (entry R kinds.Variant)) (sym (take_more_set vs i v h))
