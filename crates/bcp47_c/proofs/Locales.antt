-- What the functions `show` and `change` of `posix.rt` may answer if they refuse: that memory ran out, and why a
-- section can't be replaced as the modifier of a locale asks.
use Rattle.std.proofs.Common.{◌≡◌, ℕ, List, refl, sym, subst}
use Rattle.std.specs.Prelude.{Option, Some}
use Rattle.lt_tag.specs.Listing.{no_memory as memory_fault}
use Rattle.bcp47_c.specs.Posix.{IsNotChanged}
use Rattle.bcp47_c.specs.Replacing.{no_memory, HasFaultSaid, IsReplacingRefusal}
use Rattle.bcp47_c.specs.declared.replacing.Refused.{Refused}
use Rattle.bcp47_c.specs.declared.replacing.Section.{Section}

-- that memory ran out is allowed as what is said of any text, whatever `skipped` is
pub no_fault_memory : (skipped : ℕ) (text : List ℕ) → HasFaultSaid skipped text no_memory
no_fault_memory skipped text = record { fault = memory_fault; owed = refl; told = refl }

-- if a modifier replaces the section `there`, and it can't be replaced for the reason `refused`, what is said of that
-- is why the tag is not changed
pub not_changed : (section : Option Section) (there : Section) (text value : List ℕ) (refused : Refused)
    → section ≡ Some there → IsReplacingRefusal there text value refused → IsNotChanged section text value refused.said
not_changed section there text value refused e r = subst
    (λ (o : Option Section). IsNotChanged o text value refused.said) (sym e) (refused.text, r)
