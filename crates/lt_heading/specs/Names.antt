-- The names that a heading gives to columns, and which columns have a given name.
use Rattle.std.specs.Prelude.{◌≡◌, ◌≢◌, ◌≤◌, ◌+◌, ◌==◌, ◌&&◌, ℕ, Bool, false, true, List, [], ◌∷◌, ◌++◌, Option, Some}
use Rattle.std.specs.Prelude.{◌-◌, None, codes, if◌then◌else◌, length, nat_lt, string_bytes, take}
use Rattle.std.specs.Fmt.{decimal}
use Rattle.std.specs.List.{AllByRecursion, flat_map}
use Rattle.lt_jar.specs.Lines.{content_of}
use Rattle.lt_rows.specs.Rows.{IsEnded, IsRowField, IsTextIn, separator}
use Rattle.lt_rows.specs.declared.rows.Separator.{Separator}
use Rattle.lt_words.specs.Given.{escaped}
use Rattle.lt_heading.specs.declared.names.Found.{Found}
use Rattle.lt_heading.specs.declared.names.Found.TheVariants as founds
use Rattle.lt_heading.specs.declared.names.Looked.{Looked}

-- a text in quotes as it is meant, with one quote (34) for each doubled one (RFC 4180, 2); if `after_quote`, the
-- byte before the text is a quote that was kept, and a quote that begins the text is left out
abbrev pub undoubled : (after_quote : Bool) → List ℕ → List ℕ
undoubled after_quote [] = []
undoubled after_quote (byte ∷ text) =
    if after_quote && (byte == 34) then undoubled false text else byte ∷ undoubled (byte == 34) text

-- the name that a field gives, by the `quotes` at its ends, if it has any, and the `text` between them: the text as
-- it is, or undoubled in quotes
abbrev pub name_in : (quotes text : List ℕ) → List ℕ
name_in [] text = text
name_in (quote ∷ quotes) text = undoubled false text

-- the name of the column that has this field in the heading
pub record IsNameOf (S : Separator) (field name : List ℕ) : Type 0 where
  pub quotes : List ℕ
  pub text : List ℕ
  pub is_text : IsTextIn S field quotes text
  pub name_is : name ≡ name_in quotes text

-- the names of all columns of a heading, in order
abbrev pub AreNames : Separator → (row : List ℕ) → List (List ℕ) → Type 0
AreNames S row [] = ⊥
AreNames S row (name ∷ []) = IsRowField S row × IsNameOf S row name
AreNames S row (name ∷ next ∷ names) =
    (field : List ℕ) × (more : List ℕ) × IsEnded S field × (row ≡ field ++ separator S ∷ more)
    × IsNameOf S field name × AreNames S more (next ∷ names)

-- the names in a heading, which a carriage return may end; none without a heading
abbrev pub AreNamesIn : Separator → (heading : Option (List ℕ)) → List (List ℕ) → Type 0
AreNamesIn S None names = names ≡ []
AreNamesIn S (Some heading) names = AreNames S (content_of heading) names

-- the name is none of these
abbrev pub Lacks : (name : List ℕ) → List (List ℕ) → Type 0
Lacks name names = AllByRecursion (λ other. other ≢ name) names

-- the name is the one with this number, counted from 1, and no other
pub record IsOnly (name : List ℕ) (names : List (List ℕ)) (number : ℕ) : Type 0 where
  pub first : List (List ℕ)
  pub others : List (List ℕ)
  pub cut : names ≡ first ++ name ∷ others
  pub number_is : number ≡ length first + 1
  pub none_before : Lacks name first
  pub none_after : Lacks name others

-- the name is more than one of these
pub record IsRepeated (name : List ℕ) (names : List (List ℕ)) : Type 0 where
  pub first : List (List ℕ)
  pub between : List (List ℕ)
  pub last : List (List ℕ)
  pub cut : names ≡ first ++ name ∷ (between ++ name ∷ last)

-- whether the name is none of these, only the one with this number, or more than one
abbrev pub IsFound : (name : List ℕ) → List (List ℕ) → Found → Type 0
IsFound name names founds.Missing = Lacks name names
IsFound name names (founds.Only number) = IsOnly name names number
IsFound name names founds.Repeated = IsRepeated name names

-- ---- what is said of names

-- the most bytes of a name that are shown
abbrev pub most_shown : ℕ
most_shown = 64

-- the most names that are listed
abbrev pub most_listed : ℕ
most_listed = 64

-- two dots for a name that is longer than what is shown of it, else nothing
abbrev pub dots_after : (name : List ℕ) → List ℕ
dots_after name = if nat_lt most_shown (length name) then codes ".." else []

-- a name as it is shown: after a space (32), between quotes (34), the front of it if it is long, with dots after the
-- quotes
abbrev pub shown_name : List ℕ → List ℕ
shown_name name = 32 ∷ 34 ∷ escaped (take most_shown name) ++ 34 ∷ dots_after name

-- the first of these names as they are shown, one after another
abbrev pub listed_names : List (List ℕ) → List ℕ
listed_names names = flat_map shown_name (take most_listed names)

-- how many of `count` names are not listed, if any
abbrev pub rest_said : (count : ℕ) → List ℕ
rest_said count =
    if nat_lt most_listed count then codes " and " ++ decimal (count - most_listed) ++ codes " more" else []

-- names as they are shown: the first of them, and how many more there are
abbrev pub shown_names : List (List ℕ) → List ℕ
shown_names names = listed_names names ++ rest_said (length names)

-- the line that says how many columns have a name, in the words `whose`, for example `no column`, and lists the names;
-- the name (`shown`) and the list (`listed`) are given as they are shown
abbrev pub shown_line : (whose shown listed : List ℕ) → List ℕ
shown_line whose shown listed =
    codes "error: " ++ whose ++ codes " has the name" ++ shown ++ codes "; names:" ++ listed ++ 10 ∷ []

-- the line for a name that no column has, or more than one, as `whose` says, with the names of the heading
abbrev pub name_line : (whose : List ℕ) → (name : List ℕ) → List (List ℕ) → List ℕ
name_line whose name names = shown_line whose (shown_name name) (shown_names names)

-- ---- the steps

-- what is appended to a list of names for a further one, before which `count` come
abbrev pub listed_after : (count : ℕ) → (name : List ℕ) → List ℕ
listed_after count name = if nat_lt count most_listed then shown_name name else []

-- where a name stands among the columns so far and a further one with this number; `is_name` says whether that one has
-- the name
abbrev pub found_then : Found → (number : ℕ) → (is_name : Bool) → Found
found_then found number false = found
found_then founds.Missing number true = founds.Only number
found_then found number true = founds.Repeated

-- the name was looked up in a heading, and the names are listed
pub record LooksUp (S : Separator) (heading : Option (List ℕ)) (name : List ℕ) (looked : Looked) : Type 0 where
  pub names : List (List ℕ)
  pub are_names : AreNamesIn S heading names
  pub is_found : IsFound name names looked.found
  pub listed : string_bytes looked.listed ≡ shown_names names

-- The name was looked up among the first `count` names of a row, before its `rest`, and this was found. `listed` is the
-- list of these names. Whatever names the rest has, the row has these names before them (`are_names`). The row has at
-- least one byte for each of these names beside the rest (`room`).
pub record LooksSo (S : Separator) (row rest name : List ℕ) (found : Found) (listed : List ℕ) (count : ℕ) : Type 0 where
  pub names : List (List ℕ)
  pub are_names : (more : List (List ℕ)) → AreNames S rest more → AreNames S row (names ++ more)
  pub number : count ≡ length names
  pub is_found : IsFound name names found
  pub listed_is : listed ≡ listed_names names
  pub room : count + length rest ≤ length row
