-- The values of JSON other than strings (RFC 8259, 3 to 6), each as its text, without spaces.
use Rattle.std.specs.Prelude.{ℕ, List, [], ◌∷◌, ◌++◌, codes, zero, suc, Option, Some, None}
use Rattle.std.specs.List.{flat_map}
use Rattle.lt_show.specs.Strings.{string}

-- the value `null`
abbrev pub null : List ℕ
null = codes "null"

-- the text that `value` gives for what an option holds, or null for None
abbrev pub or_null : {A : Type 0} → (A → List ℕ) → Option A → List ℕ
or_null value None = null
or_null value (Some x) = value x

-- ---- arrays

-- the values of the elements of a list, each after a comma (44); `value` gives the text of one element
abbrev pub after_commas : {A : Type 0} → (A → List ℕ) → List A → List ℕ
after_commas value xs = flat_map (λ x. 44 ∷ value x) xs

-- the values of the elements of a list, with commas (44) between them; `value` gives the text of one element
abbrev pub commaed : {A : Type 0} → (A → List ℕ) → List A → List ℕ
commaed value [] = []
commaed value (x ∷ xs) = value x ++ after_commas value xs

-- the array of the values of the elements of a list, between brackets (91 and 93) (RFC 8259, 5); `value` gives the text
-- of one element
abbrev pub array : {A : Type 0} → (A → List ℕ) → List A → List ℕ
array value xs = 91 ∷ commaed value xs ++ 93 ∷ []

-- what is before the value of an array at this index, counted from 0: nothing before the first, else a comma (44)
abbrev pub comma_at : ℕ → List ℕ
comma_at zero = []
comma_at (suc index) = 44 ∷ []

-- ---- objects

-- a member of an object (RFC 8259, 4)
pub record Member : Type 0 where
  pub name : List ℕ
  pub value : List ℕ

-- the member of this name and this value
abbrev pub member : (name value : List ℕ) → Member
member name value = record { name = name; value = value }

-- the name of a member as a string, with a colon (58) after it
unfoldable pub named : List ℕ → List ℕ
named name = string name ++ 58 ∷ []

-- the text of a member
abbrev pub member_text : Member → List ℕ
member_text m = named m.name ++ m.value

-- the text of members that are not the first of their object, each after a comma (44)
abbrev pub more_members : List Member → List ℕ
more_members members = after_commas member_text members

-- the object of these members, between braces (123 and 125) (RFC 8259, 4)
abbrev pub object : List Member → List ℕ
object members = 123 ∷ commaed member_text members ++ 125 ∷ []
