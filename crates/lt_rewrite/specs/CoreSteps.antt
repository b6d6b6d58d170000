-- The replacement steps on a core (RFC 5646, 4.5), over the entries of a registry.
use Rattle.std.specs.Prelude.{ℕ, ◌≡◌, zero, suc, nat_eq, if◌then◌else◌, List, [], length, take, slice_get, slice_set}
use Rattle.std.specs.Prelude.{Option, Some, None, is_none}
use Rattle.std.specs.Option.{option_map_or}
use Rattle.std.specs.List.{list_all, remove}
use Rattle.lt_tag.specs.Parts.{CoreParts}
use Rattle.lt_registry.specs.Parts.{EntryParts}
use Rattle.lt_registry.specs.Entries.{preferred_value, variant_value, language_value, replacement, prefixes, has_prefix}
use Rattle.lt_registry.specs.declared.entries.Kind.TheVariants as kinds
use Rattle.lt_rewrite.specs.Rewriting.{IsNormalForm}

-- The value of the variant `v`, if that is a language, and if the language `l` is one of the variant's Prefixes; else
-- None. A step puts it in the place of `l` and drops the variant (no RFC asks for that: it is a rule of this project).
abbrev pub language_beside : List EntryParts → List ℕ → List ℕ → Option (List ℕ)
language_beside R l v = if has_prefix (prefixes R kinds.Variant v) l then language_value R v else None

-- the spot at which a core step is taken; a variant is given by its index, counted from 0
pub data Spot : Type 0 where
  at_extlang : Spot
  at_language : Spot
  at_script : Spot
  at_region : Spot
  at_variant : ℕ → Spot
  -- a variant that is dropped, and whose preferred value takes the place of the language
  at_variant_language : ℕ → Spot

-- The subtag at a spot, or None if no step may be taken there (RFC 5646, 4.5, rule 3): at an extlang only if it is the
-- only one, at the language, and at a variant whose value becomes the language, only if there is no extlang.
abbrev pub subtag_at : CoreParts → Spot → Option (List ℕ)
subtag_at c at_extlang = if nat_eq (length c.extlangs) 1 then slice_get c.extlangs 0 else None
subtag_at c at_language = if nat_eq (length c.extlangs) 0 then Some c.language else None
subtag_at c at_script = c.script
subtag_at c at_region = c.region
subtag_at c (at_variant i) = slice_get c.variants i
subtag_at c (at_variant_language i) = if nat_eq (length c.extlangs) 0 then slice_get c.variants i else None

-- The value that a step puts for the subtag `s` at a spot, or None if it has none (RFC 5646, 4.5, rule 3). The value of
-- a variant replaces the language only if that of no variant further left could (no RFC asks for that: it is a rule of
-- this project).
abbrev pub value_at : List EntryParts → CoreParts → Spot → List ℕ → Option (List ℕ)
value_at R c at_extlang s = Some (replacement R s)
value_at R c at_language s = preferred_value R kinds.Language s
value_at R c at_script s = preferred_value R kinds.Script s
value_at R c at_region s = preferred_value R kinds.Region s
value_at R c (at_variant i) s = variant_value R s
value_at R c (at_variant_language i) s =
    let f = language_beside R c.language in if list_all (λ v. is_none (f v)) (take i c.variants) then f s else None

-- The core with the value `v` for the subtag at a spot. At `at_extlang` and `at_variant_language` the subtag is
-- dropped, and the value becomes the language; else the value is put in the subtag's place (RFC 5646, 4.5, rule 3).
abbrev pub replaced : CoreParts → Spot → List ℕ → CoreParts
replaced c at_extlang v = record c { language = v; extlangs = [] }
replaced c at_language v = record c { language = v }
replaced c at_script v = record c { script = Some v }
replaced c at_region v = record c { region = Some v }
replaced c (at_variant i) v = record c { variants = slice_set c.variants i v }
replaced c (at_variant_language i) v = record c { language = v; variants = remove c.variants i }

-- a step on a core, from `c` to `d`: the subtag at one spot is replaced by its value (RFC 5646, 4.5, rule 3)
pub record CoreStep (R : List EntryParts) (c d : CoreParts) : Type 0 where
  pub spot : Spot
  pub subtag : List ℕ
  pub there : subtag_at c spot ≡ Some subtag
  pub value : List ℕ
  pub has : value_at R c spot subtag ≡ Some value
  pub result : d ≡ replaced c spot value

-- core steps lead from `c` to `d`, and none leads from `d` (RFC 5646, 4.5)
abbrev pub IsCoreNormalForm : List EntryParts → CoreParts → CoreParts → Type 0
IsCoreNormalForm R c d = IsNormalForm (CoreStep R) c d

-- the subtag to which `s` leads over `n` values, or the last one of the chain if that is shorter; `f` gives the value
-- of each subtag (RFC 5646, 3.1.7)
abbrev pub chase : (List ℕ → Option (List ℕ)) → ℕ → List ℕ → List ℕ
chase f zero s = s
chase f (suc n) s = option_map_or (λ t. chase f n t) (f s) s

-- the chain of values from `s` comes to an end, where `f` gives the value of each subtag (RFC 5646, 3.1.7)
abbrev pub Ends : (List ℕ → Option (List ℕ)) → List ℕ → Type 0
Ends f s = (n : ℕ) × (f (chase f n s) ≡ None)

-- the chain of values from `s` ends in `d`, where `f` gives the value of each subtag (RFC 5646, 3.1.7)
abbrev pub EndsIn : (List ℕ → Option (List ℕ)) → List ℕ → List ℕ → Type 0
EndsIn f s d = (n : ℕ) × (chase f n s ≡ d) × (f d ≡ None)
