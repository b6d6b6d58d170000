-- What a call that settles one extension among others gives: its index and its normal form (RFC 5646, 4.5).
use Rattle.std.specs.Prelude.{ℕ, ◌≡◌, ◌<◌, List, Option, Some, None, length, slice_index_or, slice_set}
use Rattle.std.specs.List.{AllByRecursion}
use Rattle.lt_tag.specs.Parts.{ExtensionParts}
use Rattle.lt_registry.specs.Parts.{EntryParts}
use Rattle.lt_rewrite.specs.Rewriting.{IsNormalForm, Rests}
use Rattle.lt_rewrite.specs.Extensions.{ExtensionStep}

-- the extension `from` at the index `place` of `es` has this singleton, and `f` is its normal form
pub record SettlesAt (R : List EntryParts) (singleton : ℕ)
    (es : List ExtensionParts) (place : ℕ) (f : ExtensionParts) : Type 0 where
  pub within : place < length es
  pub from : ExtensionParts
  pub there : from ≡ slice_index_or es place from
  pub of_singleton : from.singleton ≡ singleton
  pub normal : IsNormalForm (ExtensionStep R) from f

-- `Some` gives the index among `es` of an extension with this singleton, and its normal form, which it may have
-- already; `None` says that no step changes such an extension, or that there is none
abbrev pub Settles : List EntryParts → ℕ → List ExtensionParts → Option (ℕ × ExtensionParts) → Type 0
Settles R singleton es None = AllByRecursion (λ e. e.singleton ≡ singleton → Rests (ExtensionStep R) e) es
Settles R singleton es (Some settled) = SettlesAt R singleton es settled.0 settled.1

-- the extensions `es` with the given extension put at its index, or as they are if none is given
abbrev pub placed : Option (ℕ × ExtensionParts) → List ExtensionParts → List ExtensionParts
placed None es = es
placed (Some settled) es = slice_set es settled.0 settled.1
