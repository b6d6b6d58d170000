-- Ends of texts that are a `u` extension of keywords in any order (RFC 5646, 4.5; RFC 6067, 2.1.1). No public contract
-- cites this.
use Rattle.std.specs.Prelude.{ℕ, ◌≡◌, List, [], ◌∷◌, ◌++◌, flat_map}
use Rattle.std.specs.List.{AllByRecursion}
use Rattle.std.specs.Char.{to_ascii_lowercase}
use Rattle.lt_tag.specs.Parts.{KeywordParts, UForm}
use Rattle.lt_tag.specs.Extensions.{unicode, spell_keyword, spell_u, IsKeyword, IsUnicode}
use Rattle.lt_tag.specs.Lists.{list_of}
use Rattle.lt_rewrite.specs.Rewriting.{IsNormalForm}
use Rattle.lt_rewrite.specs.Extensions.{UnicodeStep}

-- a `u` extension without attributes
abbrev pub of_keywords : List KeywordParts → UForm
of_keywords keywords = record { attributes = []; keywords = keywords }

-- a hyphen (45) and a subtag
abbrev pub hyphened : List ℕ → List ℕ
hyphened s = 45 ∷ s

-- the keywords `new` are `old` with one subtag more, `s`, and have the form of keywords if `old` have it
pub record AddsSubtag (s : List ℕ) (old new : List KeywordParts) : Type 0 where
  pub spelled : flat_map spell_keyword new ≡ flat_map spell_keyword old ++ s ∷ []
  pub shaped : AllByRecursion IsKeyword old → AllByRecursion IsKeyword new

-- the text is the normal form of an end that is a hyphen (45), `u`, a hyphen and keywords
pub record IsKeywordEnd (end text : List ℕ) : Type 0 where
  pub singleton : ℕ
  pub rest : List ℕ
  pub is_u : to_ascii_lowercase singleton ≡ unicode
  pub whole : end ≡ 45 ∷ singleton ∷ 45 ∷ rest
  pub from : UForm
  pub to : UForm
  pub read : IsUnicode (list_of rest) from
  pub settled : IsNormalForm UnicodeStep from to
  pub written : text ≡ 45 ∷ unicode ∷ flat_map hyphened (spell_u to)
