-- The grammar of the header Accept-Language (RFC 9110, 12.5.4): Accept-Language = #( language-range [ weight ] ).
use Rattle.std.specs.Prelude.{ℕ, ◌≡◌, ◌⊎◌, true, List, [], ◌∷◌, ◌++◌, Option, Some, None, option_to_list, IsOk}
use Rattle.std.specs.List.{list_all}
use Rattle.lt_range.specs.Reading.{range_of}
use Rattle.lt_range.specs.Words.{is_blank}
use Rattle.lt_range.specs.Weights.{is_q, qvalue_of}
use Rattle.lt_range.specs.Elements.{ElementParts, is_basic}
use Rattle.lt_range.specs.Headers.{comma_pieces}

-- OWS = *( SP / HTAB ) (RFC 9110, 5.6.3)
abbrev pub IsWhiteSpace : List ℕ → Type 0
IsWhiteSpace text = list_all is_blank text ≡ true

-- language-range = (1*8ALPHA *("-" 1*8alphanum)) / "*" (RFC 4647, 2.1): what is read as a range is one by its grammar,
-- by the law of `lt_range`
pub record IsBasicRange (text : List ℕ) : Type 0 where
  pub range : IsOk (range_of text)
  pub basic : is_basic text ≡ true

-- weight = OWS ";" OWS "q=" qvalue (RFC 9110, 12.4.2), in thousandths; 59 is the `;`, and 61 the `=`
pub record IsWeight (text : List ℕ) (weight : ℕ) : Type 0 where
  pub before : List ℕ
  pub after : List ℕ
  pub q : ℕ
  pub value : List ℕ
  pub whole : text ≡ before ++ 59 ∷ (after ++ q ∷ 61 ∷ value)
  pub blank_before : IsWhiteSpace before
  pub blank_after : IsWhiteSpace after
  pub letter : is_q q ≡ true
  pub is_value : qvalue_of value ≡ Some weight

-- [ weight ], in thousandths; without a weight it is 1, that is 1,000 thousandths (RFC 9110, 12.4.2)
abbrev pub HasWeight : List ℕ → ℕ → Type 0
HasWeight text weight = ((text ≡ []) × (weight ≡ 1000)) ⊎ IsWeight text weight

-- language-range [ weight ]
pub record IsElement (text : List ℕ) (element : ElementParts) : Type 0 where
  pub weight : List ℕ
  pub whole : text ≡ element.range ++ weight
  pub is_range : IsBasicRange element.range
  pub has_weight : HasWeight weight element.weight

-- [ element ]: an element, or the empty text for None
abbrev pub MayBeElement : List ℕ → Option ElementParts → Type 0
MayBeElement text None = text ≡ []
MayBeElement text (Some element) = IsElement text element

-- An element or none, with white space around it. Between commas it is that of the list (RFC 9110, 5.6.1.2), and at the
-- ends of the text it belongs to no field (RFC 9110, 5.5).
pub record IsPiece (piece : List ℕ) (element : Option ElementParts) : Type 0 where
  pub before : List ℕ
  pub text : List ℕ
  pub after : List ℕ
  pub whole : piece ≡ before ++ (text ++ after)
  pub blank_before : IsWhiteSpace before
  pub blank_after : IsWhiteSpace after
  pub is_element : MayBeElement text element

-- each of the pieces is an element or empty, with white space around it, and `elements` are these elements in their
-- order
abbrev pub ArePieces : List (List ℕ) → List ElementParts → Type 0
ArePieces [] elements = elements ≡ []
ArePieces (p ∷ ps) elements = (element : Option ElementParts) × (others : List ElementParts) × IsPiece p element
    × (elements ≡ option_to_list element ++ others) × ArePieces ps others

-- #element => [ element ] *( OWS "," OWS [ element ] ) (RFC 9110, 5.6.1.2)
abbrev pub IsAcceptLanguage : List ℕ → List ElementParts → Type 0
IsAcceptLanguage text elements = ArePieces (comma_pieces text) elements
