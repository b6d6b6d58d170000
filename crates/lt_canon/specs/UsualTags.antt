-- Langtags of a language, and at most a script and a region, and whether these subtags have values. No public contract
-- cites this; it is shown to agree with which tags are valid, and from which no step leads on.
use Rattle.std.specs.Prelude.{ℕ, ◌≡◌, ◌+◌, Bool, false, ◌||◌, List, [], Option, Some, None, is_some, length, Result, Ok}
use Rattle.std.specs.Prelude.{Err}
use Rattle.std.specs.Option.{option_to_list}
use Rattle.lt_tag.specs.Parts.{CoreParts}
use Rattle.lt_registry.specs.Parts.{EntryParts}
use Rattle.lt_registry.specs.Entries.{entry, one_of}
use Rattle.lt_registry.specs.declared.entries.Kind.{Kind}
use Rattle.lt_registry.specs.declared.entries.Kind.TheVariants as kinds
use Rattle.lt_registry.specs.declared.faults.ValidFault.{ValidFault}
use Rattle.lt_registry.specs.declared.faults.ValidFaultKind.{ValidFaultKind}
use Rattle.lt_registry.specs.declared.faults.ValidFaultKind.TheVariants as faults

-- the core has neither extlangs nor variants
pub record IsUsual (c : CoreParts) : Type 0 where
  pub extlangs : c.extlangs ≡ []
  pub variants : c.variants ≡ []

-- the answer of a test, which is whether something has a value, or the fault that ends the tests
abbrev pub Test : Type 0
Test = Result Bool ValidFault

-- the fault of the first test, if it has one, or else what `next` makes of its answer
abbrev pub on_test : Test → (Bool → Test) → Test
on_test (Ok holds) next = next holds
on_test (Err fault) next = Err fault

-- whether the entry of a subtag has a value; without an entry, the fault of this kind, at the place of the subtag
abbrev pub one_valued : ValidFaultKind → ℕ → Option EntryParts → Test
one_valued kind place (Some e) = Ok (is_some (one_of e.value))
one_valued kind place None = Err (record { kind = kind; place = place })

-- whether a script or a region has a value; without an entry, the fault. The arguments are the registry, the kind, the
-- kind of the fault, the place in the tag, counted from 1, and the subtag, if there is one.
abbrev pub part_valued : List EntryParts → Kind → ValidFaultKind → ℕ → Option (List ℕ) → Test
part_valued R kind fault place (Some s) = one_valued fault place (entry R kind s)
part_valued R kind fault place None = Ok false

-- whether the language, the script or the region of a core has a value; or the fault of the first of them that has no
-- entry, at its place: 1 for the language, 2 for the script, and for the region 2, or 3 after a script
unfoldable pub core_valued : List EntryParts → CoreParts → Test
core_valued R c =
    on_test (one_valued faults.UnknownLanguage 1 (entry R kinds.Language c.language)) (λ language.
    on_test (part_valued R kinds.Script faults.UnknownScript 2 c.script) (λ script.
    on_test (part_valued R kinds.Region faults.UnknownRegion (2 + length (option_to_list c.script)) c.region) (λ region.
    Ok (language || script || region))))
