-- The names of the faults of language ranges, as they are printed.
use Rattle.std.specs.Prelude.{ℕ, List, codes}
use Rattle.lt_subtag.specs.declared.SubtagFault.{SubtagFault}
use Rattle.lt_subtag.specs.declared.SubtagFault.TheVariants as subtags
use Rattle.lt_range.specs.declared.faults.RangeFault.{RangeFault}
use Rattle.lt_range.specs.declared.faults.RangeFault.TheVariants as faults

-- the name of a fault; a fault of a piece has the name that the same fault of a tag has
abbrev pub name_of : RangeFault → List ℕ
name_of (faults.BadSubtag subtags.Empty) = codes "EmptySubtag"
name_of (faults.BadSubtag subtags.BadByte) = codes "BadByte"
name_of (faults.BadSubtag subtags.TooLong) = codes "LongSubtag"
name_of faults.BadFirst = codes "BadFirst"
name_of faults.OutOfMemory = codes "OutOfMemory"

-- the fault of a range with a piece of this fault
abbrev pub of_subtag_fault : SubtagFault → RangeFault
of_subtag_fault fault = faults.BadSubtag fault

-- the fault of running out of memory
abbrev pub no_memory : RangeFault
no_memory = faults.OutOfMemory
