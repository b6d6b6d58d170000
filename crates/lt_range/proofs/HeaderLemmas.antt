-- The loop of `read_elements` over the pieces of an Accept-Language header: the elements that were read (`front`), and
-- the reading of the pieces that are left, still give the answer for the whole header. So the loop ends with that
-- answer, or with the fault of the first piece that has one.
use Rattle.std.proofs.Common.{◌≡◌, ℕ, ◌<◌, ◌≤◌, ◌+◌, List, [], ◌∷◌, ◌++◌, length, map, get_or, drop, Bor, refl, sym, ap, ◌∙◌, subst}
use Rattle.std.specs.Prelude.{Option, option_to_list, Result, Ok, Err}
use Rattle.std.proofs.lemmas.List.{append_assoc, append-nil, drop_more}
use Rattle.std.proofs.Math.ListN.{drop_of_length-le}
use Rattle.lt_range.specs.Elements.{ElementParts, element_of, IsRefused}
use Rattle.lt_range.specs.Headers.{with_element, elements_from, with_front, IsFault, IsFaultAt}
use Rattle.lt_range.specs.declared.accept_faults.AcceptFault.{AcceptFault}
use Rattle.lt_range.specs.declared.accept_faults.AcceptFaultKind.{AcceptFaultKind}
use Rattle.lt_range.specs.declared.accept_faults.AcceptFaultKind.TheVariants as kinds

-- if `front` was read before the piece `p`, which has this number and is read as `element`, then `front` with `element`
-- at its end is what was read before the pieces after `p`
elements_next : (front : List ElementParts) (place : ℕ) (p : List ℕ) (ps : List (List ℕ)) (element : Option
    ElementParts) → element_of p ≡ Ok element
    → with_front front (elements_from place (p ∷ ps)) ≡ with_front (front ++ option_to_list element) (elements_from (place + 1) ps)
unfolding elements_from
elements_next front place p ps element read = go (elements_from (place + 1) ps)
  where
    go : (r : Result (List ElementParts) AcceptFault) → with_front front (with_element place (element_of p) r)
        ≡ with_front (front ++ option_to_list element) r
    go (Ok others) = rw read (ap (λ (l : List ElementParts). Ok l) (sym (append_assoc front (option_to_list element) others)))
    go (Err fault) = rw read refl

-- a piece with a fault ends the reading with this fault, at its number
elements_stop : (front : List ElementParts) (place : ℕ) (p : List ℕ) (ps : List (List ℕ)) (kind : AcceptFaultKind) → element_of p ≡ Err kind
    → with_front front (elements_from place (p ∷ ps)) ≡ Err (record { kind = kind; place = place })
unfolding elements_from
elements_stop front place p ps kind read = rw read refl

-- if no piece is left, `front`, which was read before, is the answer
elements_end : (front : List ElementParts) (place : ℕ) → with_front front (elements_from place []) ≡ Ok front
unfolding elements_from
elements_end front place = ap (λ (l : List ElementParts). Ok l) (append-nil front)

-- if the piece `p` is refused with a fault of this kind, the header has the fault, at the number of the piece; `whole`
-- is the answer for the header, and `front` was read before the piece
refused_so : (front : List ElementParts) (place : ℕ) (p : List ℕ) (ps : List (List ℕ))
    (whole : Result (List ElementParts) AcceptFault) (kind : AcceptFaultKind)
    → IsRefused (element_of p) kind → with_front front (elements_from place (p ∷ ps)) ≡ whole
    → IsFault whole (record { kind = kind; place = place })
refused_so front place p ps whole (kinds.BadRange fault) h so_far = sym so_far ∙ elements_stop front place p ps (kinds.BadRange fault) h
refused_so front place p ps whole kinds.ExtendedRange h so_far = sym so_far ∙ elements_stop front place p ps kinds.ExtendedRange h
refused_so front place p ps whole kinds.BadWeight h so_far = sym so_far ∙ elements_stop front place p ps kinds.BadWeight h
refused_so front place p ps whole kinds.OutOfMemory h so_far = tt

-- a fault of the piece `p`, with its number, is the fault of the header; `whole` is the answer for the header, and
-- `front` was read before the piece
refused_at : (front : List ElementParts) (place : ℕ) (p : List ℕ) (ps : List (List ℕ))
    (whole : Result (List ElementParts) AcceptFault) (fault : AcceptFault)
    → IsFaultAt (element_of p) place fault → with_front front (elements_from place (p ∷ ps)) ≡ whole → IsFault whole fault
refused_at front place p ps whole fault h so_far =
    subst (λ (n : ℕ). IsFault whole (record { kind = fault.kind; place = n })) (sym h.1)
    (refused_so front place p ps whole fault.kind h.0 so_far)

-- the bytes of pieces
abbrev pub texts : List (Bor (List ℕ)) → List (List ℕ)
texts pieces = map (λ (p : Bor (List ℕ)). p.now) pieces

-- the bytes of the piece at an index
abbrev pub text_at : List (Bor (List ℕ)) → ℕ → List ℕ
text_at pieces i = (get_or pieces i (record { ref_ptr = (0, 0); now = [] })).now

module _ (pieces : List (Bor (List ℕ))) (i : ℕ) (front : List ElementParts) (whole : Result (List ElementParts) AcceptFault) where
  -- if the answer for the header, `whole`, is `front` and the reading of the pieces from index `i` on, it is `front`
  -- and the reading of the piece there and of those after it
  so_far : i < length pieces → with_front front (elements_from (i + 1) (texts (drop i pieces))) ≡ whole
      → with_front front (elements_from (i + 1) (text_at pieces i ∷ texts (drop (i + 1) pieces))) ≡ whole
  so_far within h =
      ap (λ (ps : List (List ℕ)). with_front front (elements_from (i + 1) ps)) (sym
      (ap texts (drop_more pieces i (record { ref_ptr = (0, 0); now = [] }) within))) ∙ h

  -- if `front` was read before index `i`, a fault of the piece there is that of the header, whose answer is `whole`;
  -- pieces are numbered from 1
  pub refused_within : (fault : AcceptFault) → i < length pieces → with_front front (elements_from (i + 1) (texts (drop i pieces))) ≡ whole
      → IsFaultAt (element_of (text_at pieces i)) (i + 1) fault → IsFault whole fault
  refused_within fault within h at = refused_at front (i + 1) (text_at pieces i) (texts (drop (i + 1) pieces)) whole
      fault at (so_far within h)

  -- if `front` was read before index `i`, and the piece there is read as `element`, then with that added to `front` the
  -- answer for the header is still `whole`
  pub one_more : (element : Option ElementParts) → i < length pieces
      → with_front front (elements_from (i + 1) (texts (drop i pieces))) ≡ whole
      → element_of (text_at pieces i) ≡ Ok element
      → with_front (front ++ option_to_list element) (elements_from (i + 1 + 1) (texts (drop (i + 1) pieces)))
      ≡ whole
  one_more element within h read = sym (elements_next front (i + 1) (text_at pieces i) (texts (drop (i + 1) pieces))
      element read) ∙ so_far within h

  -- after the last piece the answer for the header is `front`, which was read before
  pub no_more : length pieces ≤ i → with_front front (elements_from (i + 1) (texts (drop i pieces))) ≡ whole → whole ≡ Ok front
  no_more past h =
      sym h ∙ ap (λ (ps : List (Bor (List ℕ))). with_front front (elements_from (i + 1) (texts ps))) (drop_of_length-le
      pieces past) ∙ elements_end front (i + 1)
