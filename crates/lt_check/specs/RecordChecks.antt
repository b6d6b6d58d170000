-- What the conditions C4 and C6 ask of the languages that one record names.
use Rattle.std.specs.Prelude.{ℕ, Bool, false, ◌&&◌, List, [], ◌∷◌, is_none}
use Rattle.lt_registry.specs.Parts.{EntryParts}
use Rattle.lt_registry.specs.Entries.{preferred_value, is_registered}
use Rattle.lt_registry.specs.declared.entries.Kind.TheVariants as kinds
use Rattle.lt_rewrite.specs.CoreSteps.{EndsIn}

-- whether a language is registered and has no value
abbrev pub is_final : List EntryParts → List ℕ → Bool
is_final R l = is_registered R kinds.Language l && is_none (preferred_value R kinds.Language l)

-- whether a Prefix is one subtag, which is a registered language without a value
abbrev pub is_final_prefix : List EntryParts → List (List ℕ) → Bool
is_final_prefix R (l ∷ []) = is_final R l
is_final_prefix R _ = false

-- the chains of values from the languages `s` and `t` end in one language
abbrev pub EndAlike : List EntryParts → List ℕ → List ℕ → Type 0
EndAlike R s t =
    (end : List ℕ) × EndsIn (preferred_value R kinds.Language) s end × EndsIn (preferred_value R kinds.Language) t end
