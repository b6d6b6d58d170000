-- Which refusal of a header stands for a fault that was found before, and the names of refusals.
use Rattle.std.specs.Prelude.{ℕ, List, codes}
use Rattle.lt_range.specs.AcceptNames as headers
use Rattle.lt_range.specs.Refusals as ranges
use Rattle.lt_range.specs.declared.accept_faults.AcceptFault.{AcceptFault}
use Rattle.lt_range.specs.declared.accept_faults.AcceptFaultKind.{AcceptFaultKind}
use Rattle.lt_range.specs.declared.accept_faults.AcceptFaultKind.TheVariants as kinds
use Rattle.lt_range.specs.declared.asked.HeaderRefusal.{HeaderRefusal}
use Rattle.lt_range.specs.declared.asked.HeaderRefusal.TheVariants as refusals
use Rattle.lt_range.specs.declared.refusals.RangeRefusal.{RangeRefusal}
use Rattle.lt_range.specs.declared.refusals.RangeRefusal.TheVariants as range_refusals

-- the refusal of a header with this fault, by the kind of the fault
abbrev pub of_accept_kind : AcceptFaultKind → AcceptFault → HeaderRefusal
of_accept_kind kinds.OutOfMemory fault = refusals.OutOfMemory
of_accept_kind _ fault = refusals.NotAHeader fault

-- the refusal of a header with this fault
abbrev pub of_accept_fault : AcceptFault → HeaderRefusal
of_accept_fault fault = of_accept_kind fault.kind fault

-- the refusal of a header with a range that is refused
abbrev pub of_range_refusal : RangeRefusal → HeaderRefusal
of_range_refusal range_refusals.OutOfMemory = refusals.OutOfMemory
of_range_refusal refusal = refusals.BadRange refusal

-- the refusal for lack of memory
abbrev pub no_memory : HeaderRefusal
no_memory = refusals.OutOfMemory

-- the name of a refusal: that of the fault or of the range's refusal
abbrev pub name_of : HeaderRefusal → List ℕ
name_of (refusals.NotAHeader fault) = headers.name_of fault.kind
name_of (refusals.BadRange refusal) = ranges.name_of refusal
name_of refusals.OutOfMemory = codes "OutOfMemory"
