-- By the shapes of its parts each subtag that a tag spells has 1 to 8 letters or digits; and each of a core has at
-- least 2 and is no separator, so that a core can be the source of a `t` extension.
use Rattle.std.proofs.Common.{◌≡◌, ℕ, ◌≤◌, ◌-◌, Bool, true, false, List, [], ◌∷◌, length, refl, arith, inl, inr, not, ap}
use Rattle.std.specs.Prelude.{Option, Some, None, option_to_list}
use Rattle.std.specs.List.{list_all, AllByRecursion}
use Rattle.std.proofs.lemmas.Bool.{and_from}
use Rattle.std.specs.Option.{option_map_or}
use Rattle.lt_subtag.specs.Bytes.{is_subtag, is_subtag_byte}
use Rattle.lt_subtag.specs.Shapes.{is_alphabetic, is_language, is_extlang, is_script, is_region, is_variant}
use Rattle.lt_subtag.specs.Shapes.{is_singleton, is_numeric, is_separator}
use Rattle.lt_tag.specs.Parts.{CoreParts, ExtensionParts, TagForm, LangTag, PrivateUse, Grandfathered}
use Rattle.lt_tag.specs.Lists.{pieces}
use Rattle.lt_tag.specs.Grandfathered.{grandfathered_texts, grandfathered_list}
use Rattle.lt_tag.specs.Spelling.{spell_core, spell_extension, spell_extensions, spell_private, x_subtag}
use Rattle.lt_tag.specs.Spelling.{is_extension_subtag, IsCore, IsExtension, IsPrivate}
use Rattle.lt_tag.specs.WellFormed.{spell, IsTag}
use Rattle.lt_tag.proofs.ListLemmas.{list_all-append}
use Rattle.lt_tag.proofs.Apart.{extlang_is, script_is, region_is}
use Rattle.lt_tag.proofs.TagLemmas.{list_all-at, table_length}
use Rattle.std.proofs.lemmas.Bool.Decides.{nat_tests}

-- if p implies q, q holds of each element of a list of which p does
pub all_weaker : {X : Type 0} (p q : X → Bool) → ((x : X) → p x ≡ true → q x ≡ true) → (xs : List X)
    → list_all p xs ≡ true → list_all q xs ≡ true
all_weaker p q w [] h = refl
all_weaker p q w (x ∷ xs) h = grind (arith, nat_tests, w x, all_weaker p q w xs)

-- a subtag of 2 to 8 letters or digits
pub record IsLong (s : List ℕ) : Type 0 where
  pub subtag : is_subtag s ≡ true
  pub long : 2 ≤ length s

-- 2 to 8 lower-case letters and digits are a subtag of this length
subtag_from : (s : List ℕ) → list_all is_subtag_byte s ≡ true → 2 ≤ length s → length s ≤ 8 → IsLong s
unfolding is_subtag
subtag_from s h low high = record { subtag = grind (arith, nat_tests); long = low }

-- letters are bytes of subtags
letters_bytes : (s : List ℕ) → is_alphabetic s ≡ true → list_all is_subtag_byte s ≡ true
letters_bytes [] h = refl
letters_bytes (b ∷ s) h = grind (arith, nat_tests, letters_bytes s)

-- digits are bytes of subtags
digits_bytes : (s : List ℕ) → is_numeric s ≡ true → list_all is_subtag_byte s ≡ true
digits_bytes [] h = refl
digits_bytes (b ∷ s) h = grind (arith, nat_tests, digits_bytes s)

-- a subtag that doesn't have exactly two characters is no separator
pub length_no_separator : (s : List ℕ) → (length s ≡ 2 → ⊥) → is_separator s ≡ false
unfolding is_separator
length_no_separator [] h = refl
length_no_separator (a ∷ []) h = refl
length_no_separator (a ∷ b ∷ []) h = absurd (h (omega arith))
length_no_separator (a ∷ b ∷ c ∷ s) h = refl

-- a subtag of only letters is no separator, since a separator has a digit
letters_no_separator : (s : List ℕ) → is_alphabetic s ≡ true → is_separator s ≡ false
unfolding is_separator
letters_no_separator [] h = refl
letters_no_separator (a ∷ []) h = refl
letters_no_separator (a ∷ b ∷ []) h = grind (arith, nat_tests)
letters_no_separator (a ∷ b ∷ c ∷ s) h = refl

-- what is known of each subtag of a core: it has 2 to 8 letters or digits, and is no separator
pub record IsPart (s : List ℕ) : Type 0 where
  pub long : IsLong s
  pub no_separator : not (is_separator s) ≡ true

-- 2 to 8 letters can be a subtag of a core
letters_part : (s : List ℕ) → is_alphabetic s ≡ true → 2 ≤ length s → length s ≤ 8 → IsPart s
letters_part s h low high = record { long = subtag_from s (letters_bytes s h) low high; no_separator = ap not (letters_no_separator s h) }

-- a language has 2 to 8 letters or digits, and is no separator
language_part : (s : List ℕ) → is_language s ≡ true → IsPart s
unfolding is_language
language_part s h = letters_part s (grind (arith, nat_tests)) (grind (arith, nat_tests)) (grind (arith, nat_tests))

-- a language has 2 to 8 letters or digits
pub language_long : (s : List ℕ) → is_language s ≡ true → IsLong s
language_long s h = (language_part s h).long

-- an extlang has 2 to 8 letters or digits, and is no separator
extlang_part : (s : List ℕ) → is_extlang s ≡ true → IsPart s
extlang_part s h = let x = extlang_is s h in letters_part s x.0 (omega (arith, x.1)) (omega (arith, x.1))

-- a script has 2 to 8 letters or digits, and is no separator
script_part : (s : List ℕ) → is_script s ≡ true → IsPart s
script_part s h = let x = script_is s h in letters_part s x.0 (omega (arith, x.1)) (omega (arith, x.1))

-- a region has 2 to 8 letters or digits, and is no separator
region_part : (s : List ℕ) → is_region s ≡ true → IsPart s
region_part s h =
    elim (region_is s h) [
      | inl x ↦ letters_part s x.0 (omega (arith, x.1)) (omega (arith, x.1))
      | inr x ↦ record {
        long = subtag_from s (digits_bytes s x.0) (omega (arith, x.1)) (omega (arith, x.1));
        no_separator = ap not (length_no_separator s (λ e. omega (arith, x.1, e)));
      }
    ]

-- a variant has 2 to 8 letters or digits, and is no separator
variant_part : (s : List ℕ) → is_variant s ≡ true → IsPart s
unfolding is_variant
variant_part s h =
    let long : 4 ≤ length s = grind (arith, nat_tests) in
    record {
      long = record { subtag = grind (arith, nat_tests); long = omega arith };
      no_separator = ap not (length_no_separator s (λ e. omega (arith, long, e)));
    }

-- a test that holds of each subtag that has 2 to 8 letters or digits and is no separator
module _ (test : List ℕ → Bool) (holds : (s : List ℕ) → IsPart s → test s ≡ true) where
  -- it holds of each subtag of a shape whose subtags have 2 to 8 letters or digits and are no separators
  all_of : (shape : List ℕ → Bool) → ((s : List ℕ) → shape s ≡ true → IsPart s) → (ss : List (List ℕ))
      → list_all shape ss ≡ true → list_all test ss ≡ true
  all_of shape part ss h = all_weaker shape test (λ s k. holds s (part s k)) ss h

  -- it holds of a subtag of such a shape, if there is one
  one_of : (shape : List ℕ → Bool) → ((s : List ℕ) → shape s ≡ true → IsPart s) → (o : Option (List ℕ))
      → option_map_or shape o true ≡ true → list_all test (option_to_list o) ≡ true
  one_of shape part None h = refl
  one_of shape part (Some s) h = rw (holds s (part s h)) refl

  -- it holds of each subtag of a shaped core
  pub core_parts : (core : CoreParts) → IsCore core → list_all test (spell_core core) ≡ true
  core_parts core k =
      and_from (test core.language) _ (holds core.language (language_part core.language k.language))
      (list_all-append test core.extlangs _ (all_of is_extlang extlang_part core.extlangs k.extlangs)
      (list_all-append test (option_to_list core.script) _ (one_of is_script script_part core.script k.script)
      (list_all-append test (option_to_list core.region) _ (one_of is_region region_part core.region k.region)
      (all_of is_variant variant_part core.variants k.variants))))

-- a test that holds of each subtag of 2 to 8 letters or digits holds of each subtag of a shaped core
pub core_all : (test : List ℕ → Bool) → ((s : List ℕ) → IsLong s → test s ≡ true) → (core : CoreParts) → IsCore core
    → list_all test (spell_core core) ≡ true
core_all test holds = core_parts test (λ s p. holds s p.long)

-- each of the list that extensions spell is a subtag
extensions_subtags : (extensions : List ExtensionParts) → AllByRecursion IsExtension extensions
    → list_all is_subtag (spell_extensions extensions) ≡ true
unfolding is_extension_subtag is_singleton
extensions_subtags [] k = refl
extensions_subtags (e ∷ es) k =
    let first : is_subtag (e.singleton ∷ []) ≡ true = grind (arith, nat_tests, k.0.singleton) in
    let others = all_weaker is_extension_subtag is_subtag (λ s h. grind (arith, nat_tests, h)) e.subtags k.0.subtags in
    list_all-append is_subtag (spell_extension e) (spell_extensions es) (and_from _ _ first others) (extensions_subtags es k.1)

-- `x` is a subtag
x_is : is_subtag x_subtag ≡ true
unfolding is_subtag
x_is = refl

-- each of the list that private use spells is a subtag
private_subtags : (private : List (List ℕ)) → IsPrivate private → list_all is_subtag (spell_private private) ≡ true
private_subtags [] k = refl
private_subtags (s ∷ ss) k = and_from (is_subtag x_subtag) _ x_is k

-- each piece of the 26 grandfathered texts is a subtag
table_subtags : list_all (λ (t : List ℕ). list_all is_subtag (pieces t)) grandfathered_texts ≡ true
unfolding grandfathered_texts is_subtag
table_subtags = refl

-- each of the list that a tag spells is a subtag
pub tag_subtags : (tag : TagForm) → IsTag tag → list_all is_subtag (spell tag) ≡ true
unfolding grandfathered_list
tag_subtags (LangTag core extensions private) k =
    list_all-append is_subtag (spell_core core) _ (core_all is_subtag (λ s l. l.subtag) core k.0.shaped_core)
    (list_all-append is_subtag (spell_extensions extensions) _ (extensions_subtags extensions k.0.shaped_extensions)
    (private_subtags private k.0.shaped_private))
tag_subtags (PrivateUse subtags) k = and_from (is_subtag x_subtag) _ x_is k.shaped_private
tag_subtags (Grandfathered number) k =
    list_all-at (λ (t : List ℕ). list_all is_subtag (pieces t)) grandfathered_texts (number - 1) table_subtags
    (omega (arith, table_length, k.0, k.1))
