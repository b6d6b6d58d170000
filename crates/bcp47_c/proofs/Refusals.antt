-- What `bcp47_handle_open` answers if its bytes are no registry is what its contract, `Opens`, allows.
use Rattle.std.proofs.Common.{List, ℕ, ◌≡◌, None, Err, inl, inr}
use Rattle.bcp47.specs.Promise.{ReadsBytes}
use Rattle.bcp47.specs.declared.errors.RegistryError.{RegistryError}
use Rattle.bcp47.specs.declared.errors.RegistryError.TheVariants as errors
use Rattle.bcp47_c.specs.Ends.{IsRefusedRegistry, Opens}
use Rattle.bcp47_c.specs.Handles.{Held}
use Rattle.bcp47_c.specs.declared.outcomes.Outcome.{Outcome}

-- The bytes are no registry, for this error, and the error was answered, or OutOfMemory where memory ran out for its
-- line: either is an answer that `Opens` allows.
pub not_opened : (held : Held) (bytes before after : List ℕ) (error : RegistryError) (o : Outcome) → held ≡ None
    → ReadsBytes bytes (Err error) → IsRefusedRegistry error before after o → Opens held bytes before after o
not_opened held bytes before after error o none read (inl told) =
    inr (record { holds = none; error = error; read = read; told = told })
not_opened held bytes before after error o none read (inr told) =
    inr (record { holds = none; error = errors.OutOfMemory; read = (read.0, read.1, tt); told = told })
