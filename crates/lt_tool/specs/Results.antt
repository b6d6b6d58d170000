-- How the results of a run's steps follow from one another.
use Rattle.std.specs.Prelude.{◌≡◌, ◌⊎◌, Result, Ok, Err}
use Rattle.lt_canon.specs.declared.refusals.TextRefusal.{TextRefusal}
use Rattle.lt_stream.specs.declared.faults.ToolFault.TheVariants as tool_faults
use Rattle.lt_tool.specs.declared.faults.Fault.{Fault}
use Rattle.lt_tool.specs.declared.faults.Fault.TheVariants as faults

-- what follows the result of a step: `Goes` is true of the value of the step and of what follows, and a fault of the
-- step ends the run
abbrev pub Then : {A B : Type 0} → (A → Result B Fault → Type 0) → Result A Fault → Result B Fault → Type 0
Then Goes (Ok value) result = Goes value result
Then Goes (Err fault) result = result ≡ Err fault

-- the fault of running out of memory
abbrev pub no_memory : Fault
no_memory = faults.Run tool_faults.OutOfMemory

-- a step gives a value of which `P` is true, or a fault of which `Q` is true; or memory ran out
abbrev pub Gives : {A : Type 0} → (A → Type 0) → (Fault → Type 0) → Result A Fault → Type 0
Gives P Q (Ok value) = P value
Gives P Q (Err fault) = Q fault ⊎ (fault ≡ no_memory)

-- the fault is that of a text that is refused, and `P` is true of the refusal
abbrev pub IsTextFault : (TextRefusal → Type 0) → Fault → Type 0
IsTextFault P fault = (refusal : TextRefusal) × P refusal × (fault ≡ faults.Text refusal)
