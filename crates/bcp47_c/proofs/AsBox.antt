-- The types by which the proofs of `Handle::empty`, `of_block` and `into_block` name what a handle holds: a handle that
-- holds a registry, and the block that is made of it, own the same as the registry's box.
use mathlib.Core.List.{[]}
use mir.Syntax.{impl, tnil, dnil}
use denote.RattleType.{RattleType}
use Rattle.std_alloc.proofs.BoxSteps.Form.{Bx}
use Rattle.std_heap.specs.contracts.Global as allocator
use Rattle.std_heap.specs.contracts.GlobalAllocator.TheImpl.{ghosts, dict}
use Rattle.std_heap.proofs.Global.TheLaws as allocator_laws
use Rattle.bcp47_c.specs.contracts.blocks.Block as block
use Rattle.bcp47_c.specs.contracts.handle.Handle as handle
use Rattle.bcp47_c.specs.contracts.opened.Opened as opened
use Rattle.bcp47_c.proofs.opened.Opened.TheLaws as opened_laws

-- the box of what a handle holds: the type of its value and that of its allocator, each with its laws
abbrev pub held_box : Bx
held_box =
    record {
      row = opened.the_row;
      laws = opened_laws.the_row_laws;
      al = record {
        row = allocator.the_row;
        laws = allocator_laws.the_row_laws;
        g = ghosts;
        d = dict;
        drops = impl [] tnil dnil;
      };
    }

-- the type of the block that is made of the box of what a handle holds
abbrev pub held_block : RattleType
held_block = block.the_row opened.the_row allocator.the_row ghosts

-- the type of a handle
abbrev pub held_handle : RattleType
held_handle = handle.the_row
