-- The first fault of a core, and of extensions, computed from left to right. No public contract cites this; it is shown
-- to agree with the relations of Faults.
use Rattle.std.specs.Prelude.{ℕ, ◌≡◌, ◌≢◌, ◌+◌, Bool, true, false, not, ◌||◌, List, [], ◌∷◌, ◌++◌, length, Option, Some}
use Rattle.std.specs.Prelude.{None, Result, Ok, Err, bytes_eq, ◌==◌, ◌⊎◌}
use Rattle.std.specs.List.{list_any}
use Rattle.lt_tag.specs.Parts.{CoreParts, ExtensionParts}
use Rattle.lt_registry.specs.Parts.{EntryParts}
use Rattle.lt_registry.specs.Entries.{entry, is_registered, has_prefix}
use Rattle.lt_registry.specs.Faults.{IsFirstOf, HasExtensionFault, before_script, before_region, before_variants}
use Rattle.lt_registry.specs.declared.entries.Kind.{Kind}
use Rattle.lt_registry.specs.declared.entries.Kind.TheVariants as kinds
use Rattle.lt_registry.specs.declared.faults.ValidFault.{ValidFault}
use Rattle.lt_registry.specs.declared.faults.ValidFaultKind.{ValidFaultKind}
use Rattle.lt_registry.specs.declared.faults.ValidFaultKind.TheVariants as faults
use Rattle.lt_registry.specs.declared.faults.ValidRefusal.{ValidRefusal}
use Rattle.lt_registry.specs.declared.faults.ValidRefusal.TheVariants as refusals

-- what a check answers: Ok, or a fault
abbrev pub Check : Type 0
Check = Result (Unit {0}) ValidFault

-- Ok if the test holds, else the fault of this kind and place
abbrev pub unless : Bool → ValidFaultKind → ℕ → Check
unless true kind place = Ok tt
unless false kind place = Err (record { kind = kind; place = place })

-- the answer of the first check if that is a fault, else the answer of the next
abbrev pub and_then : Check → Check → Check
and_then (Ok done) next = next
and_then (Err fault) next = Err fault

-- the check of the language `l` of a core that begins after `start` subtags
abbrev pub language_check : List EntryParts → ℕ → List ℕ → Check
language_check R start l = unless (is_registered R kinds.Language l) faults.UnknownLanguage (start + 1)

-- the check of the first extlang, by its entry: it is registered, and the language `l` is one of its Prefixes; the core
-- begins after `start` subtags
abbrev pub prefix_check : ℕ → List ℕ → Option EntryParts → Check
prefix_check start l None = Err (record { kind = faults.UnknownExtlang; place = start + 2 })
prefix_check start l (Some e) = unless (has_prefix e.prefixes l) faults.ExtlangPrefix (start + 2)

-- the check that there is no second extlang, in the extlangs after the first; the core begins after `start` subtags
abbrev pub second_check : ℕ → List (List ℕ) → Check
second_check start [] = Ok tt
second_check start (x ∷ rest) = Err (record { kind = faults.TooManyExtlangs; place = start + 3 })

-- the check of the extlangs of a core of the language `l` that begins after `start` subtags
abbrev pub extlangs_check : List EntryParts → ℕ → List ℕ → List (List ℕ) → Check
extlangs_check R start l [] = Ok tt
extlangs_check R start l (x ∷ rest) =
    and_then (prefix_check start l (entry R kinds.Extlang x)) (second_check start rest)

-- the check of a script or a region, if there is one; one that isn't registered has the fault `fault`, at this place
abbrev pub part_check : List EntryParts → Kind → ValidFaultKind → ℕ → Option (List ℕ) → Check
part_check R kind fault place None = Ok tt
part_check R kind fault place (Some s) = unless (is_registered R kind s) fault place

-- whether a variant is among those of a list
abbrev pub stands_in : List (List ℕ) → List ℕ → Bool
stands_in before v = list_any (λ u. bytes_eq u v) before

-- The check of a variant at this place that comes after those of `before`: it is registered and, unless variants may
-- repeat, isn't among them. Variants may repeat in a tag that is only asked to be proper, not to be valid.
abbrev pub variant_check : List EntryParts → Bool → ℕ → List (List ℕ) → List ℕ → Check
variant_check R may_repeat place before v =
    and_then (unless (is_registered R kinds.Variant v) faults.UnknownVariant place)
    (unless (may_repeat || not (stands_in before v)) faults.DuplicateVariant place)

-- the check of variants that come after those of `before`; the first is at this place
unfoldable pub variants_check : List EntryParts → Bool → ℕ → List (List ℕ) → List (List ℕ) → Check
variants_check R may_repeat place before [] = Ok tt
variants_check R may_repeat place before (v ∷ after) =
    and_then (variant_check R may_repeat place before v)
    (variants_check R may_repeat (place + 1) (before ++ v ∷ []) after)

-- the check of a core that begins after `start` subtags; variants that repeat are no fault if `may_repeat` is true
unfoldable pub core_check : List EntryParts → Bool → ℕ → CoreParts → Check
core_check R may_repeat start c =
    and_then (language_check R start c.language)
    (and_then (extlangs_check R start c.language c.extlangs)
    (and_then (part_check R kinds.Script faults.UnknownScript (start + before_script c + 1) c.script)
    (and_then (part_check R kinds.Region faults.UnknownRegion (start + before_region c + 1) c.region)
    (variants_check R may_repeat (start + before_variants c + 1) [] c.variants))))

-- the check of the source, if there is one, of a `t` extension whose singleton is at a place
abbrev pub source_check : List EntryParts → Bool → ℕ → Option CoreParts → Check
source_check R may_repeat place None = Ok tt
source_check R may_repeat place (Some c) = core_check R may_repeat place c

-- whether one of the extensions has the singleton
abbrev pub has_singleton : List ExtensionParts → ℕ → Bool
has_singleton es s = list_any (λ (e : ExtensionParts). e.singleton == s) es

-- a fault of the extension `e`, whose singleton is at the place `here`: an extension of `before` has the singleton too,
-- or the form or the source has a fault
abbrev pub HeadFault : List EntryParts → ℕ → List ExtensionParts → ExtensionParts → ValidFaultKind → ℕ → Type 0
HeadFault R here before e kind place =
    ((kind ≡ faults.DuplicateSingleton) × (place ≡ here) × (has_singleton before e.singleton ≡ true))
    ⊎ HasExtensionFault R here e kind place

-- a fault of extensions that come after those of `before`; the first of them has its singleton at the place `here`
unfoldable pub ListFault : List EntryParts → ℕ → List ExtensionParts → List ExtensionParts → ValidFaultKind → ℕ → Type 0
ListFault R here before [] kind place = ⊥
ListFault R here before (e ∷ after) kind place =
    HeadFault R here before e kind place
    ⊎ ListFault R (here + (1 + length e.subtags)) (before ++ e ∷ []) after kind place

-- a fault of `F` that counts: each does, but if variants may repeat, DuplicateVariant doesn't; `F` tells of a kind and
-- a place whether there is such a fault
abbrev pub Counted : Bool → (ValidFaultKind → ℕ → Type 0) → ValidFaultKind → ℕ → Type 0
Counted may_repeat F kind place = F kind place × (may_repeat ≡ true → kind ≢ faults.DuplicateVariant)

-- a check answers Ok if there is no fault of `F`, else the first of them
abbrev pub Tells : (ValidFaultKind → ℕ → Type 0) → Check → Type 0
Tells F (Ok done) = (kind : ValidFaultKind) (place : ℕ) → F kind place → ⊥
Tells F (Err fault) = IsFirstOf F fault.kind fault.place

-- a check answers Ok if there is no fault of `F`, else the first of them; it may answer OutOfMemory instead only if `M`
-- is true
abbrev pub TellsOrLacks : (ValidFaultKind → ℕ → Type 0) → Type 0 → Result (Unit {0}) ValidRefusal → Type 0
TellsOrLacks F M (Ok done) = (kind : ValidFaultKind) (place : ℕ) → F kind place → ⊥
TellsOrLacks F M (Err (refusals.Fault fault)) = IsFirstOf F fault.kind fault.place
TellsOrLacks F M (Err refusals.OutOfMemory) = M
