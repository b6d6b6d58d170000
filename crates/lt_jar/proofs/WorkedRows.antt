-- The definitions of the format on small texts, each shown by computing it: so a slip in a definition would be seen.
use Rattle.std.proofs.Common.{◌≡◌, ℕ, List, [], ◌∷◌, ◌++◌, refl, codes, false}
use Rattle.lt_jar.specs.Lines.{lines_of}
use Rattle.lt_jar.specs.LineKinds.{Bad, Continuation, Separator, Start, line_of}
use Rattle.lt_jar.specs.Records.{HasRecords, nonblank}
use Rattle.lt_jar.specs.Faults.{IsWrongAt, LeadingContinuation, begun}

-- a line feed ends a line, and what follows the last one is a line only if it has a byte
lines_ended : lines_of (codes "a" ++ 10 ∷ 10 ∷ []) ≡ codes "a" ∷ [] ∷ []
lines_ended = refl

-- the last line may lack its line feed
line_not_ended : lines_of (codes "a" ++ 10 ∷ codes "b") ≡ codes "a" ∷ codes "b" ∷ []
line_not_ended = refl

-- `A:`, `  b `, a tab and `c`
abbrev folded : List ℕ
folded = codes "A:" ++ 10 ∷ (codes "  b " ++ 10 ∷ 9 ∷ codes "c")

-- two continuation lines, without their spaces and tabs, follow the line that begins the field
folded_lines : nonblank (lines_of folded) ≡ Start (codes "A") [] ∷ Continuation (codes "b") ∷ Continuation (codes "c") ∷ []
folded_lines = refl

-- its one record has the one field `A` with the body `b c`
folded_records : HasRecords folded (((codes "A", codes "b c") ∷ []) ∷ [])
folded_records = record {
  ended = [];
  last = record { name = codes "A"; first = []; more = codes "b" ∷ codes "c" ∷ [] }
      ∷ [];
  lines = refl;
  all = refl;
}

-- an empty text has no records
empty_records : HasRecords [] []
empty_records = record { ended = []; last = []; lines = refl; all = refl }

-- a text of `%%`, an empty line and `%%` has no records
no_records : HasRecords (codes "%%" ++ 10 ∷ 10 ∷ (codes "%%" ++ 10 ∷ [])) []
no_records = record { ended = [] ∷ [] ∷ []; last = []; lines = refl; all = refl }

-- a text of `A : b:c`, and `%%` with a tab after it, has one record: the field `A` with the body `b:c`
with_gap : HasRecords (codes "A : b:c" ++ 10 ∷ (codes "%%" ++ 9 ∷ [])) (((codes "A", codes "b:c") ∷ []) ∷ [])
with_gap = record { ended = (record { name = codes "A"; first = codes "b:c"; more = [] } ∷ []) ∷ []; last = []; lines = refl; all = refl }

-- a text of a line of one space, `A: b`, a line of one space and ` c` has one record: the field `A` with the body `b c`
with_blanks : HasRecords (codes " " ++ 10 ∷ (codes "A: b" ++ 10 ∷ (codes " " ++ 10 ∷ codes " c"))) (((codes "A", codes "b c") ∷ []) ∷ [])
with_blanks = record {
  ended = [];
  last = record { name = codes "A"; first = codes "b"; more = codes "c" ∷ [] } ∷ [];
  lines = refl;
  all = refl;
}

-- a line without a colon is bad
bad_word : line_of (codes "abc") ≡ Bad
bad_word = refl

-- a line of `%%` and other bytes than spaces and tabs is bad
bad_separator : line_of (codes "%%x") ≡ Bad
bad_separator = refl

-- a line whose name is empty is bad
bad_name : line_of (codes ": b") ≡ Bad
bad_name = refl

-- a space, and a carriage return, may follow `%%`
separator_returned : line_of (codes "%% " ++ 13 ∷ []) ≡ Separator
separator_returned = refl

-- one carriage return at the end of a line is dropped
returned : line_of (codes "Type: a" ++ 13 ∷ []) ≡ Start (codes "Type") (codes "a")
returned = refl

-- of two carriage returns the first belongs to the body
returned_twice : line_of (codes "Type: a" ++ 13 ∷ 13 ∷ []) ≡ Start (codes "Type") (codes "a" ++ 13 ∷ [])
returned_twice = refl

-- `Type: language`, `Subtag: en`, `%%`, `  x`: wrong at line 4
abbrev leading : List ℕ
leading = codes "Type: language" ++ 10 ∷ (codes "Subtag: en" ++ 10 ∷ (codes "%%" ++ 10 ∷ codes "  x"))

-- the continuation line behind `%%` has no field before it
leading_wrong : IsWrongAt 0 leading LeadingContinuation 4
leading_wrong = record {
  before = codes "Type: language" ∷ codes "Subtag: en" ∷ codes "%%" ∷ [];
  line = codes "  x";
  after = [];
  all = refl;
  counted = refl;
  wrong = (refl, refl);
}

-- two fields and, after a separator, one more are of two records
begun_two : begun false (nonblank (lines_of (codes "A:" ++ 10 ∷ (codes "B:" ++ 10 ∷ (codes "%%" ++ 10 ∷ codes "C:"))))) ≡ 2
begun_two = refl
