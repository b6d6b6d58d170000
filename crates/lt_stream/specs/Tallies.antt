-- How many lines were refused by each fault, and which was the first.
use Rattle.std.specs.Prelude.{◌≡◌, ◌++◌, ◌∷◌, ℕ, Bool, true, List, [], map, Some, bytes_eq, find, if◌then◌else◌}
use Rattle.std.specs.List.{AllByRecursion, IsDistinct, count_by}
use Rattle.std.specs.Set.{is_member}
use Rattle.lt_stream.specs.declared.tallies.Tally.{Tally}

-- a line that was refused: its number, the name of the fault, and the text that was refused
pub record Refused : Type 0 where
  pub number : ℕ
  pub fault : List ℕ
  pub text : List ℕ

-- the `Refused` of these parts
abbrev pub refused : ℕ → (fault text : List ℕ) → Refused
refused number fault text = record { number = number; fault = fault; text = text }

-- whether a line was refused by the fault of this name
abbrev pub is_by : (fault : List ℕ) → Refused → Bool
is_by fault line = bytes_eq fault line.fault

-- the tally of one fault: how many of these lines it refused, and the number and text of the first of them
pub record IsTally (lines : List Refused) (tally : Tally) : Type 0 where
  pub count : tally.lines ≡ count_by (is_by tally.fault.items) lines
  pub earliest : Refused
  pub is_earliest : find (is_by tally.fault.items) lines ≡ Some earliest
  pub number : tally.first ≡ earliest.number
  pub text : tally.text.items ≡ earliest.text

-- the names of the faults that are tallied
abbrev pub faults_of : List Tally → List (List ℕ)
faults_of tallies = map (λ tally. tally.fault.items) tallies

-- these names, and after them one more if it is not among them
abbrev pub with_name : (names : List (List ℕ)) → (name : List ℕ) → List (List ℕ)
with_name names name = if is_member bytes_eq names name then names else names ++ name ∷ []

-- these names, and after them the names of the faults that refused the lines, each once, in the order in which they
-- came
abbrev pub names_from : (names : List (List ℕ)) → List Refused → List (List ℕ)
names_from names [] = names
names_from names (line ∷ lines) = names_from (with_name names line.fault) lines

-- The tallies of these lines: each counts the lines of its fault (`each`), no fault has two (`once`), each fault that
-- refused a line has one (`all`), and they stand in the order in which the faults came.
pub record AreTallies (lines : List Refused) (tallies : List Tally) : Type 0 where
  pub each : AllByRecursion (IsTally lines) tallies
  pub once : IsDistinct bytes_eq (faults_of tallies)
  pub all : AllByRecursion (λ line. is_member bytes_eq (faults_of tallies) line.fault ≡ true) lines
  pub order : faults_of tallies ≡ names_from [] lines
