-- The parts of `u` and `t` extensions, computed from their subtags. The laws of lt_tag show that these are the parts
-- that spell the subtags, and that there are no others.
use Rattle.std.specs.Prelude.{ℕ, Bool, ◌&&◌, if◌then◌else◌, List, [], ◌∷◌, length, Option, Some, None, option_map}
use Rattle.std.specs.Prelude.{nat_lt}
use Rattle.std.specs.List.{list_all}
use Rattle.std.specs.Option.{option_map_or}
use Rattle.lt_subtag.specs.Shapes.{is_language, is_key, is_separator}
use Rattle.lt_tag.specs.Parts.{CoreParts, KeywordParts, UForm, FieldParts, TForm}
use Rattle.lt_tag.specs.Spelling.{spell_core, is_extension_subtag}
use Rattle.lt_tag.specs.Extensions.{is_long}
use Rattle.lt_tag.specs.Growth.{of_language, grown_by}

-- the subtags before the first subtag of which `mark` is true; all if there is none
abbrev pub before : (List ℕ → Bool) → List (List ℕ) → List (List ℕ)
before mark [] = []
before mark (s ∷ ss) = if mark s then [] else s ∷ before mark ss

-- the first subtag of which `mark` is true, and all after it; none if there is none
abbrev pub onward : (List ℕ → Bool) → List (List ℕ) → List (List ℕ)
onward mark [] = []
onward mark (s ∷ ss) = if mark s then s ∷ ss else onward mark ss

-- the keywords that subtags have: each key, with the subtags before the next key
abbrev pub keywords_of : List (List ℕ) → List KeywordParts
keywords_of [] = []
keywords_of (s ∷ ss) =
    if is_key s then record { key = s; types = before is_key ss } ∷ keywords_of ss else keywords_of ss

-- the fields that subtags have: each separator, with the subtags before the next separator
abbrev pub fields_of : List (List ℕ) → List FieldParts
fields_of [] = []
fields_of (s ∷ ss) =
    if is_separator s then record { separator = s; values = before is_separator ss } ∷ fields_of ss else fields_of ss

-- the core that subtags spell, if there is one
unfoldable pub core_of_list : List (List ℕ) → Option CoreParts
core_of_list [] = None
core_of_list (s ∷ ss) = if is_language s then grown_by (of_language s) ss else None

-- the source that subtags spell: no source (Some None) without a subtag, and None if they spell no core
abbrev pub source_of_list : List (List ℕ) → Option (Option CoreParts)
source_of_list [] = Some None
source_of_list (s ∷ ss) = option_map Some (core_of_list (s ∷ ss))

-- whether there is a value, and each has 3 to 8 letters or digits
abbrev pub are_values : List (List ℕ) → Bool
are_values values = nat_lt 0 (length values) && list_all is_long values

-- whether a field has a value, and each of its values has the form of one
abbrev pub has_values : FieldParts → Bool
has_values field = are_values field.values

-- the parts of a `u` extension with these subtags, if there is such an extension
unfoldable pub unicode_of : List (List ℕ) → Option UForm
unicode_of subtags =
    if nat_lt 0 (length subtags) && list_all is_extension_subtag subtags
    then Some (record { attributes = before is_key subtags; keywords = keywords_of subtags })
    else None

-- the parts of a `t` extension: fields, and a source, if there is one
abbrev pub with_fields : List FieldParts → Option CoreParts → TForm
with_fields fields source = record { source = source; fields = fields }

-- the parts of a `t` extension with these subtags, if they have its form
unfoldable pub transform_of : List (List ℕ) → Option TForm
transform_of subtags =
    if nat_lt 0 (length subtags) && list_all has_values (fields_of subtags)
    then option_map (with_fields (fields_of subtags)) (source_of_list (before is_separator subtags))
    else None

-- the subtags of a source, if any (RFC 6497, 2.2)
abbrev pub spell_source : Option CoreParts → List (List ℕ)
spell_source source = option_map_or spell_core source []
