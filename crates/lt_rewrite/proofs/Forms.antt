-- What the forms of entries (`IsRegistry`) and the conditions C1 to C6 (`MeetsCoreConditions`) say of values: each
-- value has the form of its kind, and values and the replacements of extlangs are registered. So a core step keeps the
-- form of a core.
use Rattle.std.proofs.Common.{◌≡◌, ℕ, ◌⊎◌, inl, inr, true, false, ◌&&◌, List, Option, Some, None, refl, sym, ap, ◌∙◌}
use Rattle.std.proofs.Common.{subst, length, arith, IfSome, Bor}
use Rattle.std.specs.Prelude.{nat_le, is_some, unwrap_or}
use Rattle.std.specs.Option.{option_and_then}
use Rattle.std.proofs.lemmas.Slice.Eq.{bytes_eq-Decides}
use Rattle.std.proofs.lemmas.Bool.{and_parts, and_from, or_cases, lt-leb}
use Rattle.lt_subtag.specs.Shapes.{is_alphabetic, is_language, is_extlang, is_variant}
use Rattle.lt_tag.proofs.Apart.{extlang_is, variant_is}
use Rattle.lt_registry.specs.Parts.{EntryParts}
use Rattle.lt_registry.specs.Entries.{has_value_form, FitsValue, IsEntry, is_named, holds, one_of, entry}
use Rattle.lt_registry.specs.Entries.{preferred_value, variant_value, language_value, is_registered, is_short}
use Rattle.lt_registry.specs.Entries.{replacement, IsRegistry}
use Rattle.lt_registry.specs.declared.entries.Kind.{Kind}
use Rattle.lt_registry.specs.declared.entries.EntryName.{EntryName}
use Rattle.lt_registry.specs.declared.entries.EntryValue.{EntryValue}
use Rattle.lt_rewrite.specs.Conditions.{IsFittingExtlang, HasFittingExtlang, HasRegisteredValue, has_value_of_own_kind, MeetsCoreConditions}
use Rattle.lt_rewrite.proofs.Entries.{IsEntryOf, entry_has, ValuedEntry, valued, valued_has, variant_value_is, language_value_is, entry_of}
use Rattle.lt_registry.specs.declared.entries.Kind.TheVariants as kinds
use Rattle.lt_registry.specs.declared.entries.EntryName.TheVariants as names
use Rattle.lt_registry.specs.declared.entries.EntryValue.TheVariants as values

-- a registered subtag has an entry
pub registered_entry : (R : List EntryParts) (k : Kind) (s : List ℕ) → is_registered R k s ≡ true → (e : EntryParts)
    × (entry R k s ≡ Some e)
registered_entry R k s h =
    (elim (entry R k s) as (λ o. is_some o ≡ true → (e : EntryParts) × (o ≡ Some e)) [ None ↦ λ e. cc | Some a ↦ λ e. (a, refl) ]) h

-- if a value fits a kind, and is one subtag `v`, then `v` has the form of the values of the kind
pub value_form_at : (k : Kind) (o : Option EntryValue) (v : List ℕ) → IfSome o (FitsValue k) → one_of o ≡ Some v → has_value_form k v ≡ true
value_form_at k (Some (values.One s)) v h e = let same : s ≡ v = cc in subst (λ x. has_value_form k x ≡ true) same h
value_form_at k s v h e = cc

-- a preferred value of a subtag has the form of the values of the subtag's kind
pub value_form : (R : List EntryParts) → IsRegistry R → (k : Kind) (s v : List ℕ) → preferred_value R k s ≡ Some v
    → has_value_form k v ≡ true
value_form R G k s v e =
    let en : ValuedEntry R k s v = valued R k s v e in
    subst (λ k. has_value_form k v ≡ true) en.of_kind
    (value_form_at en.at.kind en.at.value v (valued_has R k s v IsEntry G.forms en).value en.gives)

-- under the conditions C1 to C6 the value of a language, script or region is registered
pub value_registered : (R : List EntryParts) → MeetsCoreConditions R → (k : Kind) (s v : List ℕ)
    → has_value_of_own_kind k ≡ true → preferred_value R k s ≡ Some v → is_registered R k v ≡ true
value_registered R C k s v keeps e =
    let en : ValuedEntry R k s v = valued R k s v e in
    subst (λ k. is_registered R k v ≡ true) en.of_kind
    ((valued_has R k s v (HasRegisteredValue R) C.values en) (ap has_value_of_own_kind en.of_kind ∙ keeps) v
    en.gives)

-- a record whose name is the one subtag `t` names and holds no other subtag `s`
pub single_name : (s t : List ℕ) (n : EntryName) → n ≡ names.Single t → (is_named s n ≡ true) ⊎ (holds s n ≡ true) → t ≡ s
single_name s t n e (inl h) =
    (bytes_eq-Decides t s).0 (ap (is_named s) (sym e) ∙ h)
single_name s t n e (inr h) =
    let k : false ≡ true = ap (holds s) (sym e) ∙ h in cc

-- the entry of the extlang `x` (`at`) meets the condition C4 and names `x`
pub record ExtlangEntry (R : List EntryParts) (x : List ℕ) : Type 0 where
  pub at : EntryParts
  pub found : entry R kinds.Extlang x ≡ Some at
  pub fits : IsFittingExtlang R at
  pub same : fits.subtag ≡ x

-- under the conditions C1 to C6 a registered extlang has an entry that meets the condition C4 and names it
pub extlang_entry : (R : List EntryParts) → MeetsCoreConditions R → (x : List ℕ) → is_registered R kinds.Extlang x ≡ true → ExtlangEntry R x
extlang_entry R C x h =
    let en = registered_entry R kinds.Extlang x h in
    let has = entry_has R kinds.Extlang x (HasFittingExtlang R) C.extlangs en.0 en.1 in
    let of : IsEntryOf kinds.Extlang x en.0 = has.1 in
    let fits : IsFittingExtlang R en.0 = has.0 of.of_kind in
    record { at = en.0; found = en.1; fits = fits; same = single_name x fits.subtag en.0.name fits.single of.names }

-- the replacement of an extlang is the value of its entry, or the extlang itself if that has no value
pub replacement_at : (R : List EntryParts) (x : List ℕ) (e : EntryParts) → entry R kinds.Extlang x ≡ Some e
    → replacement R x ≡ unwrap_or (one_of e.value) x
replacement_at R x e h = ap (λ (o : Option EntryParts). unwrap_or (option_and_then (λ (f : EntryParts). one_of f.value) o) x) h

-- under the conditions C1 to C6 the replacement of a registered extlang is a registered language
pub replacement_registered : (R : List EntryParts) → MeetsCoreConditions R → (x : List ℕ)
    → is_registered R kinds.Extlang x ≡ true → is_registered R kinds.Language (replacement R x) ≡ true
replacement_registered R C x h =
    let en : ExtlangEntry R x = extlang_entry R C x h in
    ap (λ s. is_registered R kinds.Language s) (replacement_at R x en.at en.found
    ∙ ap (unwrap_or (one_of en.at.value)) (sym en.same)) ∙ en.fits.replacement_registered

-- an extlang, of 3 letters, has the form of a language (RFC 5646, 2.1)
pub extlang_is_language : (x : List ℕ) → is_extlang x ≡ true → is_language x ≡ true
unfolding is_language
extlang_is_language x h =
    let p = extlang_is x h in
    and_from (is_alphabetic x) (nat_le 2 (length x) && nat_le (length x) 8) p.0 (ap (λ m. nat_le 2 m && nat_le m 8) p.1)

-- the value `o`, or `x` if there is none, has the form of a language, if both have it
replacement_form_at : (x : List ℕ) (o : Option (List ℕ)) → is_language x ≡ true
    → ((v : List ℕ) → o ≡ Some v → is_language v ≡ true) → is_language (unwrap_or o x) ≡ true
replacement_form_at x None h f = h
replacement_form_at x (Some v) h f = f v refl

-- the replacement of an extlang has the form of a language
pub replacement_form : (R : List EntryParts) → IsRegistry R → (x : List ℕ) → is_extlang x ≡ true → is_language (replacement R x) ≡ true
replacement_form R G x h = replacement_form_at x (preferred_value R kinds.Extlang x) (extlang_is_language x h)
    (value_form R G kinds.Extlang x)

-- no variant is short: it has more than 3 letters or digits
pub variant_not_short : (v : List ℕ) → is_variant v ≡ true → is_short v ≡ false
variant_not_short v h =
    elim (variant_is v h) [ inl n ↦ lt-leb (length v) 3 (omega (arith, n)) | inr n ↦ lt-leb (length v) 3 (omega (arith, n.0)) ]

-- a short value of a variant has the form of a language
pub short_value_form : (v : List ℕ) → has_value_form kinds.Variant v ≡ true → is_short v ≡ true → is_language v ≡ true
short_value_form v h s =
    elim (or_cases (is_variant v) (is_language v && is_short v) h) [
      | inl a ↦ (let f = variant_not_short v a in cc)
      | inr a ↦ (and_parts (is_language v) (is_short v) a).0
    ]

-- the language value of a variant has the form of a language
pub language_value_form : (R : List EntryParts) → IsRegistry R → (v m : List ℕ) → language_value R v ≡ Some m → is_language m ≡ true
language_value_form R G v m e =
    let p = language_value_is R v m e in
    short_value_form m (value_form R G kinds.Variant v m p.0) p.1

-- the variant value of a variant has the form of a variant
pub variant_value_form : (R : List EntryParts) → IsRegistry R → (v w : List ℕ) → variant_value R v ≡ Some w → is_variant w ≡ true
variant_value_form R G v w e =
    let p = variant_value_is R v w e in
    elim (or_cases (is_variant w) (is_language w && is_short w) (value_form R G kinds.Variant v w p.0)) [
      | inl a ↦ a
      | inr a ↦ (let f = (and_parts (is_language w) (is_short w) a).1 in cc)
    ]

-- What the forms of an entry say of its value.

-- if the entry of a subtag of the kind `k` has a value with the form for the entry's own kind, the value has the form
-- for `k`
pub form_under : (R : List EntryParts) (k : Kind) (s : List ℕ) (e : EntryParts) (v : List ℕ) → entry R k s ≡ Some e
    → has_value_form e.kind v ≡ true → has_value_form k v ≡ true
form_under R k s e v h f = subst (λ x. has_value_form x v ≡ true) (entry_of R k s e h).of_kind f

-- the same as `form_under`, for an optional value
pub each_form_under : (R : List EntryParts) (k : Kind) (s : List ℕ) (e : EntryParts) (o : Option (Bor (List ℕ)))
    → entry R k s ≡ Some e → IfSome o (λ v. has_value_form e.kind v.now ≡ true)
    → IfSome o (λ v. has_value_form k v.now ≡ true)
each_form_under R k s e None h f = f
each_form_under R k s e (Some v) h f = form_under R k s e v.now h f
