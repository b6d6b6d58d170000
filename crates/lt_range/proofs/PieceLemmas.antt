-- The loops of `TagSubtags::of_text` and `append_pieces` over the pieces of a text between hyphens: what was read, and
-- the reading of the pieces that are left, still give what all pieces are read as.
use Rattle.std.proofs.Common.{◌≡◌, ℕ, ◌<◌, suc, List, [], ◌∷◌, ◌++◌, length, map, refl, sym, ap, ◌∙◌, arith}
use Rattle.std.specs.Prelude.{Option, option_to_list, Result, Ok, Err, IsOk, slice_index_or}
use Rattle.std.specs.List.{AllByRecursion}
use Rattle.std.proofs.lemmas.List.{append_assoc, append-nil}
use Rattle.lt_subtag.specs.Bytes.{folded}
use Rattle.lt_subtag.specs.Reading.{subtag_of}
use Rattle.lt_tag.proofs.ListedLemmas.{subtag_is}
use Rattle.lt_range.specs.Reading.{later_piece, later_pieces, with_piece, with_front, IsRefused}
use Rattle.lt_range.specs.declared.faults.RangeFault.{RangeFault}
use Rattle.lt_range.specs.declared.faults.RangeFault.TheVariants as faults

-- each piece is a subtag
abbrev pub AreSubtags : List (List ℕ) → Type 0
AreSubtags ps = AllByRecursion (λ p. IsOk (subtag_of p)) ps

-- each piece is a subtag if the one at each index is
pub are_subtags : (ps : List (List ℕ)) → ((i : ℕ) → i < length ps → IsOk (subtag_of (slice_index_or ps i []))) → AreSubtags ps
are_subtags [] h = tt
are_subtags (p ∷ ps) h = (h 0 (omega arith), are_subtags ps (λ i l. h (suc i) (omega arith)))

-- if a reading gives a fault, the refusal with this fault is right
pub refused_is : {X : Type 0} (read : Result X RangeFault) (fault : RangeFault) → read ≡ Err fault → IsRefused read fault
refused_is read (faults.BadSubtag fault) h = h
refused_is read faults.BadFirst h = h
refused_is read faults.OutOfMemory h = tt

-- if the subtags `front`, and then those of the piece `p` and of the pieces `ps` after it, are `whole`, and `p` is read
-- as the subtag `s`, then `front` with `s` at its end, and those of `ps`, are `whole`
pub subtags_next : (front : List (List ℕ)) (p s : List ℕ) (ps whole : List (List ℕ)) → subtag_of p ≡ Ok s
    → front ++ map folded (p ∷ ps) ≡ whole → (front ++ s ∷ []) ++ map folded ps ≡ whole
subtags_next front p s ps whole read so_far =
    append_assoc front (s ∷ []) (map folded ps) ∙ ap (λ (x : List ℕ). front ++ x ∷ map folded ps) (subtag_is p s read) ∙ so_far

-- if the piece `p` is read as `*` (None) or a subtag, that goes to the end of `front`, the subtags that were read
-- before it, and the pieces after it are left
pub pieces_next : (front : List (List ℕ)) (p : List ℕ) (ps : List (List ℕ)) (s : Option (List ℕ)) → later_piece p ≡ Ok s
    → with_front front (later_pieces (p ∷ ps)) ≡ with_front (front ++ option_to_list s) (later_pieces ps)
unfolding later_pieces
pieces_next front p ps s read = go (later_pieces ps)
  where
    go : (r : Result (List (List ℕ)) RangeFault) → with_front front (with_piece (later_piece p) r)
        ≡ with_front (front ++ option_to_list s) r
    go (Ok named) = rw read (ap (λ (l : List (List ℕ)). Ok l) (sym (append_assoc front (option_to_list s) named)))
    go (Err fault) = rw read refl

-- if the piece `p` has a fault, the reading ends with that
pub pieces_stop : (front : List (List ℕ)) (p : List ℕ) (ps : List (List ℕ)) (fault : RangeFault) → later_piece p ≡ Err fault
    → with_front front (later_pieces (p ∷ ps)) ≡ Err fault
unfolding later_pieces
pieces_stop front p ps fault read = rw read refl

-- if no piece is left, the subtags that were read are all
pub pieces_end : (front : List (List ℕ)) → with_front front (later_pieces []) ≡ Ok front
unfolding later_pieces
pieces_end front = ap (λ (l : List (List ℕ)). Ok l) (append-nil front)
