-- What the result of one step of a run says of the whole run: a fault that a `?` returned, a registry that was read or
-- refused, and a text that was printed or told. `IsErrAnd result P` says that a `?` returned an error of which `P` is
-- true.
use Rattle.std.proofs.Common.{◌≡◌, inl, inr, refl, ℕ, List, Result, Ok, Err, IsErrAnd, Option, None, Some, subst}
use Rattle.std.specs.Borrow.{Bor}
use Rattle.std.specs.Prelude.{option_copied}
use Rattle.lt_canon.specs.declared.refusals.TextRefusal.{TextRefusal}
use Rattle.lt_codes.specs.declared.codes.Code.{Code}
use Rattle.lt_lines.specs.Owed.{codes_in}
use Rattle.lt_registry.specs.Parts.{EntryParts}
use Rattle.lt_stream.specs.DeviceOutput.{WritesText}
use Rattle.lt_stream.specs.declared.faults.ToolFault.{ToolFault}
use Rattle.lt_stream.specs.declared.faults.ToolFault.TheVariants as tool_faults
use Rattle.lt_tool.specs.Registries.{ByRegistry, ReadsJudged}
use Rattle.lt_tool.specs.Results.{Gives, IsTextFault, no_memory}
use Rattle.lt_tool.specs.Runs.{codes_of}
use Rattle.lt_tool.specs.Streams.{IsUntouched, Stream}
use Rattle.lt_tool.specs.Written.{Prints, Says}
use Rattle.lt_tool.specs.declared.faults.Fault.{Fault}
use Rattle.lt_tool.specs.declared.faults.Fault.TheVariants as faults
use Rattle.lt_tool.specs.declared.faults.Role.TheVariants as roles

-- a result whose error is this fault is that fault
pub is_fault : {A : Type 0} (fault : Fault) (result : Result A Fault) → IsErrAnd result (λ f. f ≡ fault) → result ≡ Err fault
is_fault fault (Ok value) is = absurd is
is_fault fault (Err f) is = rw is refl

-- a step for which memory ran out gives what `Gives` allows, whatever `P` and `Q` ask
pub gives_no_memory : {A : Type 0} (P : A → Type 0) (Q : Fault → Type 0) (result : Result A Fault)
    → IsErrAnd result (λ f. f ≡ no_memory) → Gives P Q result
gives_no_memory P Q (Ok value) is = absurd is
gives_no_memory P Q (Err f) is = inr is

-- a step that refuses a text, with a refusal of which `Q` is true, gives what `Gives` allows
pub gives_text_fault : {A : Type 0} (P : A → Type 0) (Q : TextRefusal → Type 0) (refusal : TextRefusal) (result : Result
    A Fault) → Q refusal → IsErrAnd result (λ f. f ≡ faults.Text refusal)
    → Gives P (IsTextFault Q) result
gives_text_fault P Q refusal (Ok value) is_refusal is = absurd is
gives_text_fault P Q refusal (Err f) is_refusal is = inl (refusal, is_refusal, is)

-- if the registry of a command is refused, and the command gives that fault, that is what `ByRegistry` asks
pub registry_refused : {F A : Type 0} (file : Stream F) (Goes : List EntryParts → Result A Fault
    → Type 0) (fault : Fault) (result : Result A Fault) → ReadsJudged file roles.Only (Err fault)
    → IsErrAnd result (λ f. f ≡ fault) → ByRegistry file Goes result
registry_refused file Goes fault result reads is = record { had = Err fault; reads = reads; goes_on = is_fault fault result is }

-- if the registry of a command passes, and `Goes` is true of its entries and of what the command gives, that is what
-- `ByRegistry` asks
pub registry_had : {F A : Type 0} (file : Stream F) (Goes : List EntryParts → Result A Fault
    → Type 0) (R : List EntryParts) (result : Result A Fault) → ReadsJudged file roles.Only (Ok R)
    → Goes R result → ByRegistry file Goes result
registry_had file Goes R result reads goes = record { had = Ok R; reads = reads; goes_on = goes }

-- a table of codes that is lent to a call has the same codes there; without a table there are none
pub codes_lent : (lent : Option (Bor (List Code))) (codes : Option (List Code)) → option_copied lent ≡ codes
    → codes_in lent ≡ codes_of codes
codes_lent None codes is = subst (λ o. codes_in None ≡ codes_of o) is refl
codes_lent (Some table) codes is = subst (λ o. codes_in (Some table) ≡ codes_of o) is refl

-- the standard error got a text that was written to it, or a front of it if the write failed
pub text_said : {E : Type 0} (errors : Stream E) (text : List ℕ) (result : Result (Unit {0}) ToolFault)
    → WritesText errors.bytes text errors.before errors.after result → Says errors text
text_said errors text (Ok done) w = record { written = w.written; appends = w.appends; front = w.front; all = inl w.done }
text_said errors text (Err fault) w = record { written = w.written; appends = w.appends; front = w.front; all = inr w.stopped.1 }

-- if memory ran out before a line was printed, and nothing was written, that is what `Prints` allows
pub prints_none : {O : Type 0} (IsLine : List ℕ → Type 0) (output : Stream O) (printed : Result (Unit {0}) ToolFault) → IsUntouched output
    → IsErrAnd printed (λ f. f ≡ tool_faults.OutOfMemory) → Prints IsLine output printed
prints_none IsLine output (Ok done) none is = absurd is
prints_none IsLine output (Err f) none is = inl (rw is refl, none)

-- if a line of which `IsLine` is true was written, or a front of it, that is what `Prints` asks
pub prints_line : {O : Type 0} (IsLine : List ℕ → Type 0) (output : Stream O) (line : List ℕ) (printed : Result
    (Unit {0}) ToolFault) → IsLine line
    → WritesText output.bytes line output.before output.after printed → Prints IsLine output printed
prints_line IsLine output line printed is writes = inr (line, is, writes)
