-- How the header Accept-Language is read (RFC 9110, 12.5.4): as its elements, or as the first fault.
use Rattle.std.specs.Prelude.{ℕ, ◌≡◌, ◌+◌, ◌==◌, List, [], ◌∷◌, ◌++◌, Option, option_to_list, Result, Ok, Err}
use Rattle.std.specs.List.{slice_split}
use Rattle.lt_range.specs.Elements.{ElementParts, element_of, IsRefused}
use Rattle.lt_range.specs.declared.accept_faults.AcceptFault.{AcceptFault}
use Rattle.lt_range.specs.declared.accept_faults.AcceptFaultKind.{AcceptFaultKind}
use Rattle.lt_range.specs.declared.accept_faults.AcceptFaultKind.TheVariants as kinds

-- what is between the commas (44) of a text
abbrev pub comma_pieces : List ℕ → List (List ℕ)
comma_pieces text = slice_split (λ b. b == 44) text

-- the element that the piece with this number is read as, if it is not empty, in front of those that are read after it;
-- or the first fault
abbrev pub with_element : ℕ → Result (Option ElementParts) AcceptFaultKind → Result (List ElementParts) AcceptFault
    → Result (List ElementParts) AcceptFault
with_element place (Err kind) read = Err (record { kind = kind; place = place })
with_element place (Ok element) (Err fault) = Err fault
with_element place (Ok element) (Ok elements) = Ok (option_to_list element ++ elements)

-- the elements of these pieces, the first of which has this number, or the first fault
unfoldable pub elements_from : ℕ → List (List ℕ) → Result (List ElementParts) AcceptFault
elements_from place [] = Ok []
elements_from place (p ∷ ps) = with_element place (element_of p) (elements_from (place + 1) ps)

-- the elements of the header, or the first fault; they are numbered from 1, the empty ones too
abbrev pub elements_of : List ℕ → Result (List ElementParts) AcceptFault
elements_of text = elements_from 1 (comma_pieces text)

-- the elements `front` before those that were read after them, or the fault of the reading
abbrev pub with_front : List ElementParts → Result (List ElementParts) AcceptFault
    → Result (List ElementParts) AcceptFault
with_front front (Ok elements) = Ok (front ++ elements)
with_front front (Err fault) = Err fault

-- the reading of a header gave this fault, which has this kind; OutOfMemory may be answered for any header
abbrev pub IsFaultOfKind : Result (List ElementParts) AcceptFault → AcceptFault → AcceptFaultKind → Type 0
IsFaultOfKind read fault kinds.OutOfMemory = Unit {0}
IsFaultOfKind read fault kind = read ≡ Err fault

-- the reading of a header gave this fault; OutOfMemory may be answered for any header
abbrev pub IsFault : Result (List ElementParts) AcceptFault → AcceptFault → Type 0
IsFault read fault = IsFaultOfKind read fault fault.kind

-- the reading of the piece with this number gave this fault; OutOfMemory may be answered for any piece
abbrev pub IsFaultAt : Result (Option ElementParts) AcceptFaultKind → ℕ → AcceptFault → Type 0
IsFaultAt read place fault = IsRefused read fault.kind × (fault.place ≡ place)
