-- What a call that explains one extension among others gives: its normal form, and the steps to that form, each the
-- first that leads on (RFC 5646, 4.5).
use Rattle.std.specs.Prelude.{ℕ, ◌≡◌, ◌≢◌, ◌+◌, List, Option, Some, None, length, take}
use Rattle.std.specs.List.{AllByRecursion}
use Rattle.lt_tag.specs.Parts.{ExtensionParts}
use Rattle.lt_tag.specs.Spelling.{spell_extensions}
use Rattle.lt_registry.specs.Parts.{EntryParts}
use Rattle.lt_rewrite.specs.Applying.{ExtensionLeads}
use Rattle.lt_rewrite.specs.Runs.{extension_rank, Adds}
use Rattle.lt_rewrite.specs.ExtensionsSettling.{SettlesAt}
use Rattle.lt_rewrite.specs.declared.steps.Step.{Step}

-- the extension of `es` at an index has this singleton, `f` is its normal form, and the steps `new` are the steps `old`
-- with those to `f` added; the extensions begin after `start` subtags
pub record ExplainsAt (R : List EntryParts) (singleton start : ℕ) (es : List ExtensionParts)
    (index : ℕ) (f : ExtensionParts) (old new : List Step) : Type 0 where
  pub settles : SettlesAt R singleton es index f
  pub adds : Adds (ExtensionLeads R (start + length (spell_extensions (take index es)) + 1))
      (λ _ step. extension_rank step) settles.from f old new

-- `Some` gives the index of an extension with this singleton and its normal form, and the steps `new` are the steps
-- `old` with those to that form added. `None` says that there is no such extension, and `new` is `old`. The extensions
-- begin after `start` subtags.
abbrev pub Explains : List EntryParts → ℕ → ℕ → List ExtensionParts
    → Option (ℕ × ExtensionParts) → List Step → List Step → Type 0
Explains R singleton start es None old new = AllByRecursion (λ e. e.singleton ≢ singleton) es × (new ≡ old)
Explains R singleton start es (Some explained) old new = ExplainsAt R singleton start es explained.0 explained.1 old new
