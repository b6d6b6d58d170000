-- A registered language has the form of a language, and a registered extlang that of an extlang (RFC 5646, 2.1).
use Rattle.std.proofs.Common.{◌≡◌, ℕ, ◌⊎◌, inl, inr, true, ◌&&◌, ◌==◌, List, ap, ◌∙◌, subst, length}
use Rattle.std.specs.Prelude.{nat_le}
use Rattle.std.proofs.lemmas.Slice.Eq.{bytes_eq-Decides}
use Rattle.std.proofs.lemmas.Bool.{and_parts, and_from, eqb-true}
use Rattle.lt_subtag.specs.Shapes.{is_alphabetic, is_language, is_extlang}
use Rattle.lt_registry.specs.Parts.{EntryParts}
use Rattle.lt_registry.specs.Entries.{FitsName, IsEntry, is_named, holds, letters_le, is_registered, IsRegistry}
use Rattle.lt_registry.specs.declared.entries.Kind.TheVariants as kinds
use Rattle.lt_registry.specs.declared.entries.EntryName.{EntryName}
use Rattle.lt_registry.specs.declared.entries.EntryName.TheVariants as names
use Rattle.lt_rewrite.proofs.Entries.{IsEntryOf, entry_has}
use Rattle.lt_rewrite.proofs.Forms.{ExtlangEntry, registered_entry}

-- if the first subtag `a` of a range has the form of a language, each subtag `s` that the range holds has it
language_range : (s a b : List ℕ) → is_language a ≡ true → holds s (names.Range a b) ≡ true → is_language s ≡ true
unfolding is_language
language_range s a b h k =
    let p = and_parts (length s == length a) (is_alphabetic s && (letters_le a s && letters_le s b)) k in
    let m = (and_parts (is_alphabetic a) (nat_le 2 (length a) && nat_le (length a) 8) h).1 in
    and_from (is_alphabetic s) (nat_le 2 (length s) && nat_le (length s) 8)
    (and_parts (is_alphabetic s) (letters_le a s && letters_le s b) p.1).0
    (ap (λ z. nat_le 2 z && nat_le z 8) (eqb-true (length s) (length a) p.0) ∙ m)

-- a subtag that is the name of a language's record, or that the record's range holds, has the form of a language
language_at : (s : List ℕ) (n : EntryName) → FitsName kinds.Language n → (is_named s n ≡ true) ⊎ (holds s n ≡ true) → is_language s ≡ true
language_at s (names.Single t) h (inl e) = let same : t ≡ s = (bytes_eq-Decides t s).0 e in subst (λ x. is_language x ≡ true) same h
language_at s (names.Range a b) h (inr e) = language_range s a b h.first_form e
language_at s n h (inl e) = cc
language_at s n h (inr e) = cc

-- a registered language has the form of one
pub language_form : (R : List EntryParts) → IsRegistry R → (s : List ℕ) → is_registered R kinds.Language s ≡ true → is_language s ≡ true
language_form R G s h =
    let en = registered_entry R kinds.Language s h in
    let has = entry_has R kinds.Language s IsEntry G.forms en.0 en.1 in
    let of : IsEntryOf kinds.Language s en.0 = has.1 in
    language_at s en.0.name (subst (λ k. FitsName k en.0.name) of.of_kind has.0.name) of.names

-- a registered extlang with an entry that names it (`ExtlangEntry`) has the form of one
pub extlang_form : (R : List EntryParts) → IsRegistry R → (s : List ℕ) → ExtlangEntry R s → is_extlang s ≡ true
extlang_form R G s x =
    let has = entry_has R kinds.Extlang s IsEntry G.forms x.at x.found in
    let fits = subst (λ k. FitsName k x.at.name) has.1.of_kind has.0.name in
    let single : is_extlang x.fits.subtag ≡ true = subst (FitsName kinds.Extlang) x.fits.single fits in
    subst (λ z. is_extlang z ≡ true) x.same single
