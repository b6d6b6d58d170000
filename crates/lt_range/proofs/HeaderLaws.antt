-- A header is read exactly if it is in the grammar of Accept-Language, and with the same elements: the law
-- `headers_are_read_by_their_grammar`. It is shown for each piece between commas, and then for all.
use Rattle.std.proofs.Common.{◌≡◌, ℕ, ◌+◌, Bool, true, false, List, [], ◌∷◌, ◌++◌, refl, sym, ap, ◌∙◌, subst}
use Rattle.std.specs.Prelude.{◌↔◌, Option, Some, None, option_to_list, Result, Ok, Err, IsOk}
use Rattle.std.specs.List.{list_all}
use Rattle.std.proofs.lemmas.Bool.{and_parts}
use Rattle.std.proofs.lemmas.List.{append_assoc}
use Rattle.lt_range.specs.Ranges.{RangeParts}
use Rattle.lt_range.specs.Reading.{range_of}
use Rattle.lt_range.specs.declared.faults.RangeFault.{RangeFault}
use Rattle.lt_range.specs.Words.{is_blank, is_word_byte, front, rest}
use Rattle.lt_range.specs.Weights.{weight_of}
use Rattle.lt_range.specs.Elements.{ElementParts, is_basic, fault_by, range_fault, element_with, element_at, element_of}
use Rattle.lt_range.specs.Headers.{comma_pieces, with_element, elements_from, elements_of}
use Rattle.lt_range.specs.Grammar.{IsWhiteSpace, IsBasicRange, HasWeight, MayBeElement, IsPiece, ArePieces, IsAcceptLanguage}
use Rattle.lt_range.specs.declared.accept_faults.AcceptFault.{AcceptFault}
use Rattle.lt_range.specs.declared.accept_faults.AcceptFaultKind.{AcceptFaultKind}
use Rattle.lt_range.proofs.WordLemmas.{front_rest, all_front, rest_of_all, rest_append, rest_is, front_is, word_stops}
use Rattle.lt_range.proofs.RangeLemmas.{range_word, range_some}
use Rattle.lt_range.proofs.ElementLemmas.{none_fault}
use Rattle.lt_range.proofs.WeightLemmas.{weight_is_ending, weight_read}

-- a text without a fault is read as a range, and has the form of a basic one
fault_none : (r : Result RangeParts RangeFault) (basic : Bool) → fault_by r basic ≡ None → IsOk r × (basic ≡ true)
fault_none (Err fault) basic h = absurd (cc)
fault_none (Ok range) false h = absurd (cc)
fault_none (Ok range) true h = (refl, refl)

-- the range has no fault, what follows it is a weight, `number`, and the element has this range and this weight
record IsWithout (range : List ℕ) (fault : Option AcceptFaultKind) (weight : Option ℕ) (element : Option ElementParts) : Type 0 where
  number : ℕ
  no_fault : fault ≡ None
  some : weight ≡ Some number
  is : element ≡ Some (record { range = range; weight = number })

-- an element that is read has a range without a fault, and a weight
read_without : (range : List ℕ) (fault : Option AcceptFaultKind) (weight : Option ℕ) (element : Option ElementParts)
    → element_with range fault weight ≡ Ok element → IsWithout range fault weight element
read_without range (Some kind) weight element h = absurd (cc)
read_without range None None element h = absurd (cc)
read_without range None (Some n) element h = record { number = n; no_fault = refl; some = refl; is = cc }

-- white space, and then a text that is read as an element or as an empty one, is a piece by the grammar
piece_at : (before text : List ℕ) (element : Option ElementParts) → IsWhiteSpace before → element_at text ≡ Ok element
    → IsPiece (before ++ text) element
piece_at before [] element blank h = record {
  before = before;
  text = [];
  after = [];
  whole = refl;
  blank_before = blank;
  blank_after = refl;
  is_element = subst (MayBeElement []) (let e : None ≡ element = cc in e) refl;
}
piece_at before (b ∷ bs) element blank h =
    let text = b ∷ bs in
    let range = front is_word_byte text in
    let others = rest is_word_byte text in
    let w = read_without range (range_fault range) (weight_of others) element h in
    let fine = fault_none (range_of range) (is_basic range) w.no_fault in
    let e = weight_is_ending others w.number w.some in
    record {
      before = before;
      text = range ++ e.weight;
      after = e.after;
      whole = ap (λ (l : List ℕ). before ++ l) (front_rest is_word_byte text ∙ ap (λ (l : List ℕ). range ++ l) e.whole
          ∙ sym (append_assoc range e.weight e.after));
      blank_before = blank;
      blank_after = e.blank;
      is_element = subst (MayBeElement (range ++ e.weight)) (sym w.is)
          (record { weight = e.weight; whole = refl; is_range = record { range = fine.0; basic = fine.1 }; has_weight = e.is_weight });
    }

-- each piece that is read is a piece by the grammar, with the same element
read_piece : (piece : List ℕ) (element : Option ElementParts) → element_of piece ≡ Ok element → IsPiece piece element
unfolding element_of
read_piece piece element h =
    subst (λ (l : List ℕ). IsPiece l element) (sym (front_rest is_blank piece))
    (piece_at (front is_blank piece) (rest is_blank piece) element (all_front is_blank piece) h)

-- a basic range, a weight or none, and white space are read as an element
at_range : (range weight after : List ℕ) (n : ℕ) → IsBasicRange range → HasWeight weight n → IsWhiteSpace after
    → element_at (rest is_blank (range ++ (weight ++ after))) ≡ Ok (Some (record { range = range; weight = n }))
at_range [] weight after n basic has blank = absurd (range_some basic.range)
at_range (b ∷ bs) weight after n basic has blank =
    let range = b ∷ bs in
    let word = range_word range basic.range in
    let first = and_parts (is_word_byte b) (list_all is_word_byte bs) word in
    let r = weight_read weight after n has blank in
    let here : rest is_blank (range ++ (weight ++ after)) ≡ range ++ (weight ++ after) =
    rest_is is_blank [] (range ++ (weight ++ after)) refl (word_stops b (bs ++ (weight ++ after)) first.0) in
    let front_here : front is_word_byte (range ++ (weight ++ after)) ≡ range = front_is is_word_byte range (weight ++ after) word r.stops in
    let rest_here : rest is_word_byte (range ++ (weight ++ after)) ≡ weight ++ after = rest_is is_word_byte range
    (weight ++ after) word r.stops in
    ap element_at here
    ∙ ap (λ (l : List ℕ). element_with l (range_fault l) (weight_of (rest is_word_byte (range ++ (weight ++ after))))) front_here
    ∙ ap (λ (l : List ℕ). element_with range (range_fault range) (weight_of l)) rest_here
    ∙ ap (λ (o : Option AcceptFaultKind). element_with range o (weight_of (weight ++ after))) (none_fault
    (range_of range) (is_basic range) basic.range basic.basic)
    ∙ ap (λ (o : Option ℕ). element_with range None o) r.read

-- each piece by the grammar is read, as the same element
piece_read : (piece : List ℕ) (element : Option ElementParts) → IsPiece piece element → element_of piece ≡ Ok element
unfolding element_of
piece_read piece None p =
    ap (λ (l : List ℕ). element_at (rest is_blank l)) (p.whole ∙ ap (λ (l : List ℕ). p.before ++ (l ++ p.after)) p.is_element)
    ∙ ap element_at (rest_append is_blank p.before p.after p.blank_before ∙ rest_of_all is_blank p.after p.blank_after)
piece_read piece (Some element) p =
    let e = p.is_element in
    let split : p.text ++ p.after ≡ element.range ++ (e.weight ++ p.after) = ap (λ (l : List ℕ). l ++ p.after) e.whole
    ∙ append_assoc element.range e.weight p.after in
    ap (λ (l : List ℕ). element_at (rest is_blank l)) p.whole
    ∙ ap element_at (rest_append is_blank p.before (p.text ++ p.after) p.blank_before ∙ ap (rest is_blank) split)
    ∙ at_range element.range e.weight p.after element.weight e.is_range e.has_weight p.blank_after

-- the first piece is read as `element`, and those after it as `others`; `elements` are all of these
record IsReadOf (first : Result (Option ElementParts) AcceptFaultKind) (read : Result (List ElementParts) AcceptFault)
    (elements : List ElementParts) : Type 0 where
  element : Option ElementParts
  others : List ElementParts
  first_is : first ≡ Ok element
  read_is : read ≡ Ok others
  is : elements ≡ option_to_list element ++ others

-- if the first piece and those after it are together read as `elements`, neither reading has a fault
with_element_ok : (place : ℕ) (first : Result (Option ElementParts) AcceptFaultKind)
    (read : Result (List ElementParts) AcceptFault) (elements : List ElementParts)
    → with_element place first read ≡ Ok elements → IsReadOf first read elements
with_element_ok place (Err kind) read elements h = absurd (cc)
with_element_ok place (Ok element) (Err fault) elements h = absurd (cc)
with_element_ok place (Ok element) (Ok others) elements h = record {
  element = element;
  others = others;
  first_is = refl;
  read_is = refl;
  is = cc;
}

-- pieces that are read are pieces by the grammar, with the same elements; `place` is the number of the first
read_pieces : (place : ℕ) (ps : List (List ℕ)) (elements : List ElementParts) → elements_from place ps ≡ Ok elements → ArePieces ps elements
unfolding elements_from
read_pieces place [] elements h = cc
read_pieces place (p ∷ ps) elements h =
    let r = with_element_ok place (element_of p) (elements_from (place + 1) ps) elements h in
    (r.element, r.others, read_piece p r.element r.first_is, r.is, read_pieces (place + 1) ps r.others r.read_is)

-- pieces by the grammar are read, as the same elements; `place` is the number of the first
pieces_read : (place : ℕ) (ps : List (List ℕ)) (elements : List ElementParts) → ArePieces ps elements → elements_from place ps ≡ Ok elements
unfolding elements_from
pieces_read place [] elements h = ap (λ (l : List ElementParts). Ok l) (sym h)
pieces_read place (p ∷ ps) elements h =
    ap (λ (r : Result (Option ElementParts) AcceptFaultKind). with_element place r (elements_from (place + 1) ps)) (piece_read p h.0 h.2)
    ∙ ap (λ (r : Result (List ElementParts) AcceptFault). with_element place (Ok h.0) r) (pieces_read (place + 1) ps h.1 h.4)
    ∙ ap (λ (l : List ElementParts). Ok l) (sym h.3)

-- a header is read exactly if it is in the grammar, and as the same elements
pub read_by_grammar : (text : List ℕ) (elements : List ElementParts) → (elements_of text ≡ Ok elements) ↔ IsAcceptLanguage text elements
read_by_grammar text elements = (read_pieces 1 (comma_pieces text) elements, pieces_read 1 (comma_pieces text) elements)
