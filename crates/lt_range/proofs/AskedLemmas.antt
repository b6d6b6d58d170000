-- `preferences_of` gives for each element of a header its preferences, or refuses the range of one. By these lemmas
-- `header_preferences` answers what the header asks for, or why it gives no preferences.
use Rattle.std.proofs.Common.{◌≡◌, ◌<◌, ◌≤◌, ◌+◌, ◌++◌, ◌∷◌, ◌∙◌, ℕ, List, [], drop, length, get_or, map, refl, sym, ap, subst, arith}
use Rattle.std.proofs.lemmas.List.{append_assoc, append-nil, drop_more, get_or-map, length-map}
use Rattle.std.proofs.Math.ListN.{drop_of_length-le}
use Rattle.lt_registry.specs.Parts.{EntryParts}
use Rattle.lt_range.specs.Asked.{ArePreferences, ArePreferencesOf, element_at_place, HasRefusedRange, IsElementRefusal}
use Rattle.lt_range.specs.Asked.{IsHeaderRefusal, weighted}
use Rattle.lt_range.specs.Elements.{ElementParts, parts_of}
use Rattle.lt_range.specs.HeaderRefusals.{of_accept_fault, of_range_refusal}
use Rattle.lt_range.specs.Headers.{elements_of, IsFault}
use Rattle.lt_range.specs.Matched.{AreRangesOf}
use Rattle.lt_range.specs.Ranges.{RangeParts}
use Rattle.lt_range.specs.Refusals.{IsRangeRefusal}
use Rattle.lt_range.specs.declared.accept_faults.AcceptFault.{AcceptFault}
use Rattle.lt_range.specs.declared.accept_faults.AcceptFaultKind.{AcceptFaultKind}
use Rattle.lt_range.specs.declared.accept_faults.AcceptFaultKind.TheVariants as kinds
use Rattle.lt_range.specs.declared.elements.WeightedRange.{WeightedRange}
use Rattle.lt_range.specs.declared.preferences.Preference.{Preference}
use Rattle.lt_range.specs.declared.refusals.RangeRefusal.{RangeRefusal}
use Rattle.lt_range.specs.declared.refusals.RangeRefusal.TheVariants as refusals

-- `all` are the preferences so far, of the first `n` elements: with those of the other elements they are those of all
abbrev pub AsksOn : List EntryParts → List ElementParts → ℕ → List Preference → Type 0
AsksOn R elements n all = (more : List Preference) → ArePreferences R n (drop n elements) more → ArePreferences R 0 elements (all ++ more)

-- the preferences of the next element are added
pub preferences_next : (R : List EntryParts) (elements : List ElementParts) (n : ℕ) (all here : List Preference)
    → n < length elements → ArePreferencesOf R n (element_at_place elements n) here → AsksOn R elements n all
    → AsksOn R elements (n + 1) (all ++ here)
preferences_next R elements n all here within h go = λ more rest.
    let none : ElementParts = record { range = []; weight = 0 } in
    let step : ArePreferences R n (element_at_place elements n ∷ drop (n + 1) elements) (here ++ more) = (here, more, refl, h, rest) in
    subst (λ (l : List Preference). ArePreferences R 0 elements l) (sym (append_assoc all here more))
    (go (here ++ more) (subst (λ (l : List ElementParts). ArePreferences R n l (here ++ more)) (sym
    (drop_more elements n none within)) step))

-- past the last element, the preferences are those of all
pub preferences_end : (R : List EntryParts) (elements : List ElementParts) (n : ℕ) (all : List Preference)
    → length elements ≤ n → AsksOn R elements n all → ArePreferences R 0 elements all
preferences_end R elements n all past go =
    let none : drop n elements ≡ [] = drop_of_length-le elements past in
    subst (λ (l : List Preference). ArePreferences R 0 elements l) (append-nil all)
    (go [] (subst (λ (l : List ElementParts). ArePreferences R n l []) (sym none) refl))

-- the element at a place, as contracts see it, is the one at that place of the elements as contracts see them
pub part_at : (elements : List WeightedRange) (n : ℕ) (d : WeightedRange) → n < length elements
    → parts_of (get_or elements n d) ≡ element_at_place (map parts_of elements) n
part_at elements n d within = sym (get_or-map parts_of elements n d (record { range = []; weight = 0 }) within)

-- the refusal of the range at a place is that of the range of one of the elements
pub refused_at : (R : List EntryParts) (elements : List WeightedRange) (n : ℕ) (d : WeightedRange) (refusal
    : RangeRefusal) → n < length elements
    → IsRangeRefusal R (get_or elements n d).range.now refusal → IsElementRefusal R (map parts_of elements) refusal
refused_at R elements n d refusal within h = record {
  place = n;
  within = omega (arith, within, length-map elements parts_of);
  refused = subst (λ (e : ElementParts). IsRangeRefusal R e.range refusal) (part_at elements n d within) h;
}

-- OutOfMemory may be answered at any element
pub memory_at : (R : List EntryParts) (elements : List WeightedRange) (n : ℕ) → n < length elements
    → IsElementRefusal R (map parts_of elements) refusals.OutOfMemory
memory_at R elements n within = record { place = n; within = omega (arith, within, length-map elements parts_of); refused = tt }

-- the ranges by which the text of an element matches, with its weight, are its preferences
pub preferences_at : (R : List EntryParts) (elements : List WeightedRange) (n : ℕ) (d : WeightedRange) (ranges
    : List RangeParts) → n < length elements
    → AreRangesOf R (get_or elements n d).range.now ranges
    → ArePreferencesOf R n (element_at_place (map parts_of elements) n) (map (weighted (get_or elements n d).weight n) ranges)
preferences_at R elements n d ranges within h = record {
  ranges = ranges;
  are_ranges = subst (λ (e : ElementParts). AreRangesOf R e.range ranges) (part_at elements n d within) h;
  are = ap (λ (e : ElementParts). map (weighted e.weight n) ranges) (part_at elements n d within);
}

-- if the ranges of the next element are moved after `all`, with its weight and its place, its preferences are added
pub preferences_moved : (R : List EntryParts) (elements : List WeightedRange) (n : ℕ) (d : WeightedRange) (all new
    : List Preference) (left ranges : List RangeParts) → n < length elements
    → AreRangesOf R (get_or elements n d).range.now ranges → left ≡ ranges
    → new ≡ all ++ map (weighted (get_or elements n d).weight n) left
    → AsksOn R (map parts_of elements) n all → AsksOn R (map parts_of elements) (n + 1) new
preferences_moved R elements n d all new left ranges within h is moved go =
    subst (λ (l : List Preference). AsksOn R (map parts_of elements) (n + 1) l)
    (sym (moved ∙ ap (λ (l : List RangeParts). all ++ map (weighted (get_or elements n d).weight n) l) is))
    (preferences_next R (map parts_of elements) n all _ (omega (arith, within, length-map elements parts_of))
    (preferences_at R elements n d ranges within h) go)

-- the fault of a header, of this kind, is why it gives no preferences
by_kind : (R : List EntryParts) (header : List ℕ) (fault : AcceptFault) (kind : AcceptFaultKind) → fault.kind ≡ kind
    → IsFault (elements_of header) fault → IsHeaderRefusal R header (of_accept_fault fault)
by_kind R header fault (kinds.BadRange f) e h = rw e (rw e at h)
by_kind R header fault kinds.ExtendedRange e h = rw e (rw e at h)
by_kind R header fault kinds.BadWeight e h = rw e (rw e at h)
by_kind R header fault kinds.OutOfMemory e h = rw e tt

-- the fault of a header is why it gives no preferences
pub fault_refused : (R : List EntryParts) (header : List ℕ) (fault : AcceptFault) → IsFault (elements_of header) fault
    → IsHeaderRefusal R header (of_accept_fault fault)
fault_refused R header fault h = by_kind R header fault fault.kind refl h

-- the refusal of one of its ranges is why a header gives no preferences
pub range_refused : (R : List EntryParts) (header : List ℕ) (refusal : RangeRefusal) → HasRefusedRange R header refusal
    → IsHeaderRefusal R header (of_range_refusal refusal)
range_refused R header (refusals.NotARange fault) h = h
range_refused R header (refusals.ReplacementRepeats v) h = h
range_refused R header refusals.OutOfMemory h = tt
