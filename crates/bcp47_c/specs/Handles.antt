-- What a handle of the C library owns: nothing, or the box of a registry. `the_row` is what is known of the type
-- `Opened`.
use base.Fml.{Fml, ftrue}
use base.Stored.{Coded}
use denote.RawPtr.{Ptr}
use Rattle.std.specs.Coded.{coded_option}
use Rattle.std.specs.Prelude.{Option, Some, None}
use Rattle.std.specs.Box.Ownership.{box_owns}
use Rattle.std.specs.Global.{Global}
use Rattle.std_heap.specs.contracts.GlobalAllocator.TheImpl.{ghosts}
use Rattle.bcp47_c.specs.contracts.opened.Opened.{the_row}

-- the registry that a handle holds, if it holds one
abbrev pub Held : Type 0
Held = Option the_row.Denot

-- the memory that a handle owns for what it holds: at `place` the box of a registry, or none
abbrev pub held_owns : Global → Ptr → Held → Fml
held_owns alloc place (Some registry) = box_owns (ghosts.dealloc_token alloc) the_row place registry
held_owns alloc place None = ftrue

-- the coding by which the ghost field `held` of a handle keeps what it holds
abbrev pub held_coded : Coded Held
held_coded = coded_option the_row.coded
