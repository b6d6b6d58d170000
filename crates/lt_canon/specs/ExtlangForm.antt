-- The extlang form of a canonical tag (RFC 5646, 4.5).
use Rattle.std.specs.Prelude.{ℕ, ◌≡◌, if◌then◌else◌, List, [], ◌∷◌, Option, Some, None}
use Rattle.lt_tag.specs.Parts.{CoreParts, TagForm, LangTag, PrivateUse, Grandfathered}
use Rattle.lt_registry.specs.Parts.{EntryParts}
use Rattle.lt_registry.specs.Entries.{prefixes, is_short}
use Rattle.lt_registry.specs.Validity.{IsValid}
use Rattle.lt_registry.specs.declared.entries.Kind.TheVariants as kinds
use Rattle.lt_canon.specs.Answers.{IsCanonicalFormOf}

-- the first of these Prefixes, if it is one subtag, which is short enough for an extlang to follow it: 2 or 3 letters
-- (RFC 5646, 2.1)
abbrev pub prefix_of : List (List (List ℕ)) → Option (List ℕ)
prefix_of ((p ∷ []) ∷ rest) = if is_short p then Some p else None
prefix_of _ = None

-- the core with the Prefix as its language, and its language as the extlang; without a Prefix the core stays
abbrev pub behind : Option (List ℕ) → CoreParts → CoreParts
behind None c = c
behind (Some p) c = record c { language = p; extlangs = c.language ∷ [] }

-- the extlang form of a core: if its language is an extlang too, its Prefix is put in front (RFC 5646, 4.5)
abbrev pub extlang_core : List EntryParts → CoreParts → CoreParts
extlang_core R c = behind (prefix_of (prefixes R kinds.Extlang c.language)) c

-- the extlang form of a tag; a tag without a core stays as it is
abbrev pub extlang_form : List EntryParts → TagForm → TagForm
extlang_form R (LangTag c es ps) = LangTag (extlang_core R c) es ps
extlang_form R (PrivateUse ps) = PrivateUse ps
extlang_form R (Grandfathered n) = Grandfathered n

-- `form` is the extlang form of the canonical form of `t`: it is valid, and has the same canonical form
pub record IsExtlangFormOf (R : List EntryParts) (t form : TagForm) : Type 0 where
  pub canonical : TagForm
  pub canonical_form : IsCanonicalFormOf R t canonical
  pub is : form ≡ extlang_form R canonical
  pub valid : IsValid R form
  pub back : IsCanonicalFormOf R form canonical
