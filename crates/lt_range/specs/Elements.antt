-- How an element of the header Accept-Language is read: a language range and its weight (RFC 9110, 12.5.4).
use Rattle.std.specs.Prelude.{ℕ, ◌≡◌, ◌==◌, ◌||◌, Bool, true, false, not, List, [], ◌∷◌, Option, Some, None, Result, Ok}
use Rattle.std.specs.Prelude.{Err}
use Rattle.std.specs.List.{list_all}
use Rattle.lt_range.specs.Ranges.{RangeParts}
use Rattle.lt_range.specs.Reading.{is_star, range_of}
use Rattle.lt_range.specs.declared.faults.RangeFault.{RangeFault}
use Rattle.lt_range.specs.Words.{is_blank, is_word_byte, front, rest}
use Rattle.lt_range.specs.Weights.{weight_of}
use Rattle.lt_range.specs.declared.elements.WeightedRange.{WeightedRange}
use Rattle.lt_range.specs.declared.accept_faults.AcceptFaultKind.{AcceptFaultKind}
use Rattle.lt_range.specs.declared.accept_faults.AcceptFaultKind.TheVariants as kinds

-- the text of a language range, and its weight in thousandths
pub record ElementParts : Type 0 where
  pub range : List ℕ
  pub weight : ℕ

-- the range and the weight of an element of the header, as contracts see them
abbrev pub parts_of : WeightedRange → ElementParts
parts_of element = record { range = element.range.now; weight = element.weight }

-- whether no byte of a text is a `*` (42)
abbrev pub has_no_star : List ℕ → Bool
has_no_star text = list_all (λ b. not (b == 42)) text

-- whether a text is `*`, or has no `*`, as a basic language range (RFC 4647, 2.1)
abbrev pub is_basic : List ℕ → Bool
is_basic text = is_star text || has_no_star text

-- why a text is no basic range, by what it is read as and by whether it has the form of a basic one; None if it is one
abbrev pub fault_by : Result RangeParts RangeFault → Bool → Option AcceptFaultKind
fault_by (Err fault) basic = Some (kinds.BadRange fault)
fault_by (Ok range) false = Some kinds.ExtendedRange
fault_by (Ok range) true = None

-- why a text is no basic range; None if it is one
abbrev pub range_fault : List ℕ → Option AcceptFaultKind
range_fault text = fault_by (range_of text) (is_basic text)

-- the element of a range with this text, or its fault: the second argument is the fault of the range, if it has one,
-- and the third is the weight that follows the range, None if what follows is no weight
abbrev pub element_with : List ℕ → Option AcceptFaultKind → Option ℕ → Result (Option ElementParts) AcceptFaultKind
element_with range (Some kind) weight = Err kind
element_with range None None = Err kinds.BadWeight
element_with range None (Some weight) = Ok (Some (record { range = range; weight = weight }))

-- the element that a text without white space at its front is, or its fault; it may be empty (RFC 9110, 5.6.1.2)
abbrev pub element_at : List ℕ → Result (Option ElementParts) AcceptFaultKind
element_at [] = Ok None
element_at (b ∷ bs) =
    let range = front is_word_byte (b ∷ bs) in
    let others = rest is_word_byte (b ∷ bs) in
    element_with range (range_fault range) (weight_of others)

-- the element that a piece between commas is, or its fault; Ok None if the piece is empty or white space
unfoldable pub element_of : List ℕ → Result (Option ElementParts) AcceptFaultKind
element_of piece = element_at (rest is_blank piece)

-- the reading gave this fault; OutOfMemory may be answered for any text
abbrev pub IsRefused : {X : Type 0} → Result X AcceptFaultKind → AcceptFaultKind → Type 0
IsRefused read kinds.OutOfMemory = Unit {0}
IsRefused read kind = read ≡ Err kind

-- the fault is the one that was found; OutOfMemory may be answered for any text
abbrev pub IsFoundFault : Option AcceptFaultKind → AcceptFaultKind → Type 0
IsFoundFault fault kinds.OutOfMemory = Unit {0}
IsFoundFault fault kind = fault ≡ Some kind
