-- The JSON object that the command `json` answers to a text.
use Rattle.std.specs.Prelude.{◌≡◌, ◌↔◌, ℕ, Bool, true, false, IsTrue, List, [], ◌∷◌, ◌++◌, codes, Option, Some, None}
use Rattle.std.specs.Prelude.{Result, Ok, Err}
use Rattle.std.specs.Str.{IsUtf8}
use Rattle.std.specs.Fmt.{decimal}
use Rattle.hex.specs.Hex.{encode_lower}
use Rattle.lt_tag.specs.Parts.{TagForm}
use Rattle.lt_tag.specs.Faults.{HasTag}
use Rattle.lt_registry.specs.Parts.{EntryParts}
use Rattle.lt_canon.specs.Names.{text_refusal_name_of}
use Rattle.lt_canon.specs.Texts.{IsCanonicalTextOf, IsTextRefusal}
use Rattle.lt_canon.specs.declared.refusals.TextRefusal.{TextRefusal}
use Rattle.lt_canon.specs.declared.refusals.TextRefusal.TheVariants as refusals
use Rattle.lt_show.specs.Strings.{string}
use Rattle.lt_show.specs.Values.{Member, member, member_text, more_members, null, object, or_null}
use Rattle.lt_answers.specs.Tags.{tag_members}

-- ---- the text

-- the members for the text: a text that is UTF-8 as it is, any other as its bytes, in hexadecimal digits
abbrev pub input_members : (is_text : Bool) → List ℕ → List Member
input_members true text = member (codes "input") (string text) ∷ member (codes "bytes") null ∷ []
input_members false text = member (codes "input") null ∷ member (codes "bytes") (string (encode_lower text)) ∷ []

-- what is answered to a text: its canonical text, or why it has none
abbrev pub Answer : Type 0
Answer = Result (List ℕ) TextRefusal

-- the answer is right for the text by the entries R: its canonical text, or why it has none; OutOfMemory is no answer
abbrev pub IsAnswerTo : List EntryParts → List ℕ → Answer → Type 0
IsAnswerTo R text (Ok canonical) = IsCanonicalTextOf R text canonical
IsAnswerTo R text (Err (refusals.NotATag fault)) = IsTextRefusal R text (refusals.NotATag fault)
IsAnswerTo R text (Err (refusals.Invalid fault)) = IsTextRefusal R text (refusals.Invalid fault)
IsAnswerTo R text (Err (refusals.ReplacementRepeats variant)) =
    IsTextRefusal R text (refusals.ReplacementRepeats variant)
IsAnswerTo R text (Err refusals.OutOfMemory) = ⊥

-- whether the text is refused
abbrev pub is_refused : Answer → Bool
is_refused (Ok canonical) = false
is_refused (Err refusal) = true

-- the place of the fault that a refusal names, counted from 1, if it names one
abbrev pub place_of : TextRefusal → Option ℕ
place_of (refusals.NotATag fault) = Some fault.place
place_of (refusals.Invalid fault) = Some fault.place
place_of (refusals.ReplacementRepeats variant) = None
place_of refusals.OutOfMemory = None

-- the variant that a refusal names, if it names one
abbrev pub variant_of : TextRefusal → Option (List ℕ)
variant_of (refusals.NotATag fault) = None
variant_of (refusals.Invalid fault) = None
variant_of (refusals.ReplacementRepeats variant) = Some variant
variant_of refusals.OutOfMemory = None

-- the members for the answer to a text: its canonical text, the name of the fault, the place and the variant, each of
-- which is null if the answer has none
abbrev pub answer_members : Answer → List Member
answer_members (Ok canonical) =
    member (codes "canonical") (string canonical)
    ∷ member (codes "fault") null ∷ member (codes "place") null ∷ member (codes "variant") null ∷ []
answer_members (Err refusal) =
    member (codes "canonical") null
    ∷ member (codes "fault") (string (text_refusal_name_of refusal))
    ∷ member (codes "place") (or_null decimal (place_of refusal))
    ∷ member (codes "variant") (or_null string (variant_of refusal)) ∷ []

-- ---- the object

-- the text is read as this tag, or, for None, as no tag
abbrev pub IsReadAs : List ℕ → Option TagForm → Type 0
IsReadAs text (Some tag) = HasTag text tag
IsReadAs text None = (tag : TagForm) → HasTag text tag → ⊥

-- `line` is the object that is answered to the text by the entries of a registry, and `refused` is whether the text is
-- refused
pub record IsObjectFor (R : List EntryParts) (text line : List ℕ) (refused : Bool) : Type 0 where
  pub is_text : Bool
  pub is_utf8 : IsTrue is_text ↔ IsUtf8 text
  pub answer : Answer
  pub is_answer : IsAnswerTo R text answer
  pub tag : Option TagForm
  pub is_tag : IsReadAs text tag
  pub line_is : line ≡ object (input_members is_text text ++ (answer_members answer ++ tag_members tag))
  pub refused_is : refused ≡ is_refused answer

-- the object that is answered to the text was appended to `old`, which gave `new`; `refused` is whether the text is
-- refused
pub record AppendsObject (R : List EntryParts) (text old new : List ℕ) (refused : Bool) : Type 0 where
  pub line : List ℕ
  pub grown : new ≡ old ++ line
  pub is_object : IsObjectFor R text line refused

-- ---- its parts, as they are appended

-- the beginning of the object: a brace (123) and the members for the text, with a comma (44) between them; `is_text` is
-- whether the text is UTF-8
abbrev pub opening : (is_text : Bool) → List ℕ → List ℕ
opening true text =
    (123 ∷ member_text (member (codes "input") (string text))) ++ (44 ∷ member_text (member (codes "bytes") null))
opening false text =
    (123 ∷ member_text (member (codes "input") null))
    ++ (44 ∷ member_text (member (codes "bytes") (string (encode_lower text))))

-- the beginning of the object for the text was appended to `old`, which gave `new`
pub record AppendsOpening (text old new : List ℕ) : Type 0 where
  pub is_text : Bool
  pub is_utf8 : IsTrue is_text ↔ IsUtf8 text
  pub grown : new ≡ old ++ opening is_text text

-- the members for the answer to the text were appended to `old`, which gave `new`; `refused` is whether the text is
-- refused
pub record AppendsAnswer (R : List EntryParts) (text old new : List ℕ) (refused : Bool) : Type 0 where
  pub answer : Answer
  pub is_answer : IsAnswerTo R text answer
  pub grown : new ≡ old ++ more_members (answer_members answer)
  pub refused_is : refused ≡ is_refused answer

-- the members for the tag that the text is read as, or for none, were appended to `old`, which gave `new`
pub record AppendsTag (text old new : List ℕ) : Type 0 where
  pub tag : Option TagForm
  pub is_tag : IsReadAs text tag
  pub grown : new ≡ old ++ more_members (tag_members tag)
