-- The fault of the range of a header's element, as `check_range` finds it, and the element or the fault that
-- `read_element` makes of a range and the weight after it.
use Rattle.std.proofs.Common.{◌≡◌, ℕ, Bool, true, false, List, [], ◌∷◌, length, refl, ap}
use Rattle.std.specs.Prelude.{◌==◌, Option, Some, None, Result, Ok, Err, IsOk}
use Rattle.lt_range.specs.Ranges.{RangeParts}
use Rattle.lt_range.specs.Reading.{IsRangeFault}
use Rattle.lt_range.specs.declared.faults.RangeFault.{RangeFault}
use Rattle.lt_range.specs.declared.faults.RangeFault.TheVariants as range_faults
use Rattle.lt_range.specs.Words.{is_word_byte, front, rest}
use Rattle.lt_range.specs.Weights.{weight_of}
use Rattle.lt_range.specs.Elements.{is_basic, fault_by, range_fault, element_with, element_at, IsRefused, IsFoundFault}
use Rattle.lt_range.specs.AcceptNames.{of_range_fault}
use Rattle.lt_range.specs.declared.accept_faults.AcceptFaultKind.{AcceptFaultKind}
use Rattle.lt_range.specs.declared.accept_faults.AcceptFaultKind.TheVariants as kinds

-- a text that is read as a range, `r`, and has the form of a basic one has no fault
pub none_fault : (r : Result RangeParts RangeFault) (basic : Bool) → IsOk r → basic ≡ true → fault_by r basic ≡ None
none_fault (Err fault) basic h e = absurd (cc)
none_fault (Ok range) basic h e = rw e refl

-- a text that is read as a range, `r`, but doesn't have the form of a basic one has the fault ExtendedRange
pub extended_fault : (r : Result RangeParts RangeFault) (basic : Bool) → IsOk r → basic ≡ false
    → fault_by r basic ≡ Some kinds.ExtendedRange
extended_fault (Err fault) basic h e = absurd (cc)
extended_fault (Ok range) basic h e = rw e refl

-- a text that is read as no range has the fault that was found
pub bad_range : (text : List ℕ) (fault : RangeFault) → IsRangeFault text fault → IsFoundFault (range_fault text) (of_range_fault fault)
bad_range text (range_faults.BadSubtag fault) h = ap (λ (r : Result RangeParts RangeFault). fault_by r (is_basic text)) h
bad_range text range_faults.BadFirst h = ap (λ (r : Result RangeParts RangeFault). fault_by r (is_basic text)) h
bad_range text range_faults.OutOfMemory h = tt

-- an element is refused with the fault of its range, whatever weight follows
pub refused_by_range : (range : List ℕ) (fault : Option AcceptFaultKind) (weight : Option ℕ) (kind : AcceptFaultKind)
    → IsFoundFault fault kind → IsRefused (element_with range fault weight) kind
refused_by_range range fault weight (kinds.BadRange f) h = rw h refl
refused_by_range range fault weight kinds.ExtendedRange h = rw h refl
refused_by_range range fault weight kinds.BadWeight h = rw h refl
refused_by_range range fault weight kinds.OutOfMemory h = tt

-- a text that is not empty is read as a range, up to the first white space or semicolon, and the weight that follows
pub element_of_some : (text : List ℕ) → (length text == 0) ≡ false
    → element_at text ≡ element_with (front is_word_byte text) (range_fault (front is_word_byte text)) (weight_of (rest is_word_byte text))
element_of_some [] h = absurd (cc)
element_of_some (b ∷ bs) h = refl
