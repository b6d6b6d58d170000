-- Codes of languages, and the registered language subtags that replace them. The list is that of the table, in its
-- order.
use Rattle.std.specs.Prelude.{ℕ, List, ◌++◌, ◌==◌, Option, bytes_eq, drop, find, length}
use Rattle.std.specs.List.{before_first}
use Rattle.std.specs.Option.{option_map_or}
use Rattle.lt_subtag.specs.Bytes.{folded}
use Rattle.lt_codes.specs.declared.codes.Code.{Code}

-- the first of the codes that is this text, letter case aside
abbrev pub found_in : List Code → List ℕ → Option Code
found_in codes text = find (λ c. bytes_eq c.code (folded text)) codes

-- what is registered for a subtag that is one of the codes; else the subtag as it is
abbrev pub registered_for : List Code → List ℕ → List ℕ
registered_for codes subtag = option_map_or (λ c. c.registered) (found_in codes subtag) subtag

-- the first subtag of a text: what is before its first hyphen (45)
abbrev pub first_subtag : List ℕ → List ℕ
first_subtag text = before_first (λ byte. byte == 45) text

-- the text, with what is registered for its first subtag in the place of that
abbrev pub registered_text : List Code → List ℕ → List ℕ
registered_text codes text = registered_for codes (first_subtag text) ++ drop (length (first_subtag text)) text
