-- What the laws of steps say of a registry `R`; the crate's module `laws` says for which registries they hold.
use Rattle.std.specs.Prelude.{ℕ, ◌≡◌, List, None, length}
use Rattle.lt_tag.specs.Parts.{CoreParts, ExtensionParts, TagForm, LangTag}
use Rattle.lt_tag.specs.Spelling.{spell_core}
use Rattle.lt_tag.specs.Values.{IsCoreValue}
use Rattle.lt_tag.specs.WellFormed.{IsNotGrandfathered}
use Rattle.lt_registry.specs.Parts.{EntryParts}
use Rattle.lt_registry.specs.Validity.{IsProperCore, IsProper}
use Rattle.lt_registry.specs.declared.entries.Kind.{Kind}
use Rattle.lt_rewrite.specs.CoreSteps.{CoreStep, IsCoreNormalForm, chase, Ends}
use Rattle.lt_rewrite.specs.Extensions.{ExtensionsStep}
use Rattle.lt_rewrite.specs.Conditions.{next_value}
use Rattle.lt_rewrite.specs.Labels.{LeadsBy}
use Rattle.lt_rewrite.specs.declared.steps.Step.{Step}

-- `d` is a core normal form of `c` (`normal`), and there is no other (`alone`)
pub record IsOneNormalForm (R : List EntryParts) (c d : CoreParts) : Type 0 where
  pub normal : IsCoreNormalForm R c d
  pub alone : (e : CoreParts) → IsCoreNormalForm R c e → e ≡ d

-- each core has exactly one core normal form
abbrev pub HasOneNormalForm : List EntryParts → Type 0
HasOneNormalForm R = (c : CoreParts) → (d : CoreParts) × IsOneNormalForm R c d

-- a core step from `c` to `d` keeps the core normal form: if `c` has the core normal form `e`, so has `d`
abbrev pub StepsKeepNormalForm : List EntryParts → Type 0
StepsKeepNormalForm R = (c d e : CoreParts) → CoreStep R c d
    → IsCoreNormalForm R c e → IsCoreNormalForm R d e

-- a core that the type Core can hold, since its subtags have their shapes and are not too many (`value`), and that is
-- proper, since its subtags are registered, and its extlang, if it has one, belongs to its language (`proper`)
pub record IsProperValue (R : List EntryParts) (c : CoreParts) : Type 0 where
  pub value : IsCoreValue c
  pub proper : IsProperCore R c

-- a core step leads from a proper core to a proper core
abbrev pub StepsKeepProper : List EntryParts → Type 0
StepsKeepProper R = (c d : CoreParts) → IsProperValue R c → CoreStep R c d → IsProperValue R d

-- A core step on the core of a proper tag leads to a proper tag (`core`), and so does a step on its extensions
-- (`extensions`), for example a core step on the source of a `t` extension (RFC 5646, 4.5).
pub record StepsKeepTagsProper (R : List EntryParts) : Type 0 where
  pub core : (c d : CoreParts) (es : List ExtensionParts) (ps : List (List ℕ)) → CoreStep R c d →
      IsProper R (LangTag c es ps) → IsProper R (LangTag d es ps)
  pub extensions : (c : CoreParts) (es fs : List ExtensionParts) (ps : List (List ℕ)) → ExtensionsStep R es fs →
      IsProper R (LangTag c es ps) → IsProper R (LangTag c fs ps)

-- a proper core spells no grandfathered tag
abbrev pub ProperCoresSpellNone : List EntryParts → Type 0
ProperCoresSpellNone R = (c : CoreParts) → IsProperValue R c → IsNotGrandfathered (spell_core c)

-- if a chain of values ends, it ends within as many values as there are records: no value follows then
abbrev pub EndingChainsAreShort : List EntryParts → Type 0
EndingChainsAreShort R =
    (k : Kind) (s : List ℕ) → Ends (next_value R k) s → next_value R k (chase (next_value R k) (length R) s) ≡ None

-- the chain of values from each subtag of each kind comes to an end
abbrev pub ChainsEnd : List EntryParts → Type 0
ChainsEnd R = (k : Kind) (s : List ℕ) → Ends (next_value R k) s

-- two steps have the same name, and their results `u` and `v` are equal
pub record AreOneStep (step other : Step) (u v : TagForm) : Type 0 where
  pub same : step ≡ other
  pub result : u ≡ v

-- the kind and the place of a step from a tag determine the number of its record and the tag to which it leads
abbrev pub StepsAreDetermined : List EntryParts → Type 0
StepsAreDetermined R =
    (t u v : TagForm) (step other : Step) → LeadsBy R t step u → LeadsBy R t other v
    → step.kind ≡ other.kind → step.place ≡ other.place → AreOneStep step other u v
