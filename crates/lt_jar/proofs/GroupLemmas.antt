-- A group is the fields between two separators. Lines are groups in only one way, so a text has one list of records at
-- most: they are parsed back to front (`parsed`). And what one more line makes of the body of a field and of groups,
-- which records groups make, and how many records begin in their lines.
use Rattle.std.proofs.Common.{◌≡◌, ◌∙◌, ◌++◌, ◌∷◌, ℕ, List, [], true, refl, sym, ap, append_assoc, append-nil, map}
use Rattle.std.proofs.Common.{Bool, false, Result, Ok, nat_lt, ◌+◌, ◌&&◌, arith, length, length-append, MatchResult}
use Rattle.std.specs.List.{filter, flat_map}
use Rattle.std.proofs.lemmas.List.{length-map, map-append}
use Rattle.std.proofs.lemmas.Bool.{and_parts, cond_both}
use Rattle.std.proofs.lemmas.List.Elements.{filter-append}
use Rattle.lt_jar.specs.LineKinds.{Continuation, Start, Line, Blank, Separator, Bad}
use Rattle.lt_jar.specs.Records.{Field, Written, field_of, is_something, joined, lines_of_field, lines_of_group}
use Rattle.lt_jar.specs.Records.{has_field, is_nonblank, lines_of_ended, record_of, HasRecords, nonblank}
use Rattle.lt_jar.specs.Reading.{lengthened, with_text, Going, GoesOn, Taken, finished, take_kind, with_taken}
use Rattle.std.proofs.lemmas.Grind.{flat_map-append}
use Rattle.lt_jar.specs.Limits.{most_records}
use Rattle.lt_jar.specs.Faults.{Fault, begun, is_inside}
use Rattle.lt_jar.specs.Lines.{lines_of}

-- ---- the body of a field

-- joining one more text to others puts a space (32) and that text after them
joined_last : (first : List ℕ) (rest : List (List ℕ)) (text : List ℕ) → joined (first ∷ (rest ++ text ∷ []))
    ≡ joined (first ∷ rest) ++ 32 ∷ text
joined_last first [] text = refl
joined_last first (next ∷ rest) text = ap (λ l. first ++ 32 ∷ l) (joined_last next rest text)
    ∙ sym (append_assoc first (32 ∷ joined (next ∷ rest)) (32 ∷ text))

-- a body that one text makes is that text, whether it is empty or not
joined_single : (body : List ℕ) → joined (filter is_something (body ∷ [])) ≡ body
joined_single [] = refl
joined_single (byte ∷ body) = refl

-- a body that has a byte, with a further text that has one: a space (32) comes between them
lengthened_some : (first : ℕ) (front : List ℕ) (rest : List (List ℕ)) (byte : ℕ) (text : List ℕ)
    → lengthened (joined ((first ∷ front) ∷ rest)) (byte ∷ text) ≡ joined ((first ∷ front) ∷ rest) ++ 32 ∷ (byte ∷ text)
lengthened_some first front [] byte text = refl
lengthened_some first front (next ∷ rest) byte text = refl

-- the body of a field's texts and one more, which has a byte, is their body lengthened by it
joined_more_some : (texts : List (List ℕ)) (byte : ℕ) (text : List ℕ)
    → joined (filter is_something texts ++ (byte ∷ text) ∷ [])
    ≡ lengthened (joined (filter is_something texts)) (byte ∷ text)
joined_more_some [] byte text = refl
joined_more_some ([] ∷ texts) byte text = joined_more_some texts byte text
joined_more_some ((first ∷ front) ∷ texts) byte text =
    joined_last (first ∷ front) (filter is_something texts) (byte ∷ text)
    ∙ sym (lengthened_some first front (filter is_something texts) byte text)

-- the body of a field's texts and one more is their body lengthened by it, whether it has a byte or not
joined_more : (texts : List (List ℕ)) (text : List ℕ) → joined (filter is_something (texts ++ text ∷ []))
    ≡ lengthened (joined (filter is_something texts)) text
joined_more texts [] = ap joined (filter-append is_something texts ([] ∷ []) ∙ append-nil (filter is_something texts))
    ∙ sym (joined_single (joined (filter is_something texts)))
joined_more texts (byte ∷ text) = ap joined (filter-append is_something texts ((byte ∷ text) ∷ [])) ∙ joined_more_some texts byte text

-- ---- one more line

-- the group of fields, with this text as one more continuation line of the last field
abbrev group_continued : List ℕ → List Written → List Written
group_continued text [] = []
group_continued text (field ∷ []) = record { name = field.name; first = field.first; more = field.more ++ text ∷ [] } ∷ []
group_continued text (field ∷ next ∷ group) = field ∷ group_continued text (next ∷ group)

-- one more continuation line changes the fields of a group as `with_text` changes them
fields-continued : (text : List ℕ) (field : Written) (group : List Written)
    → map field_of (group_continued text (field ∷ group)) ≡ with_text text (map field_of (field ∷ group))
fields-continued text field [] = ap (λ (body : List ℕ). let f : Field = (field.name, body) in f ∷ [])
    (joined_more (field.first ∷ field.more) text)
fields-continued text field (next ∷ group) = ap (λ l. field_of field ∷ l) (fields-continued text next group)

-- the lines of a group whose last field has one more continuation line: those of the group, and that line
lines-continued : (text : List ℕ) (field : Written) (group : List Written)
    → lines_of_group (group_continued text (field ∷ group)) ≡ lines_of_group (field ∷ group) ++ Continuation text ∷ []
lines-continued text field [] =
    ap (λ l. (Start field.name field.first ∷ l) ++ []) (map-append Continuation field.more (text ∷ [])) ∙ append-nil _
    ∙ ap (λ l. l ++ Continuation text ∷ []) (sym (append-nil (lines_of_field field)))
lines-continued text field (next ∷ group) = rw (lines-continued text next group)
    (sym (append_assoc (lines_of_field field) (lines_of_group (next ∷ group)) (Continuation text ∷ [])))

-- the lines of groups that a separator has ended, and of a last one
abbrev pub lines_of_groups : List (List Written) → List Written → List Line
lines_of_groups ended last = flat_map lines_of_ended ended ++ lines_of_group last

-- the records of the groups: one of each group that has a field
abbrev pub records_of : List (List Written) → List (List Field)
records_of groups = map record_of (filter has_field groups)

-- the reading of the lines of ended groups and of a last one: the records that have ended, and the fields of the last
-- group
abbrev pub going_of : List (List Written) → List Written → Going
going_of ended last = record { records = records_of ended; fields = map field_of last }

-- the lines are groups of fields, those in `ended` with a separator after each and then a `last` one, and `going` is
-- the reading of them
pub record Leaves (lines : List Line) (going : Going) : Type 0 where
  pub ended : List (List Written)
  pub last : List Written
  pub lines_are : lines ≡ lines_of_groups ended last
  pub going_is : going ≡ going_of ended last

-- two lists of groups, one after the other, give the records of the first and then those of the second
pub records_of-append : (groups more : List (List Written)) → records_of (groups ++ more) ≡ records_of groups ++ records_of more
records_of-append groups more = simp (filter-append, map-append)

-- where a text ends after these groups, the last is a record like the others, if it has a field
pub finished-going_of : (ended : List (List Written)) (last : List Written)
    → finished (going_of ended last) ≡ records_of (ended ++ last ∷ [])
finished-going_of ended [] = sym (records_of-append ended ([] ∷ []))
finished-going_of ended (field ∷ last) = sym (records_of-append ended ((field ∷ last) ∷ []))

-- If the last line makes `said` of the fields of `going`, the reading of the lines before it, then all lines leave what
-- `going` becomes by that. Nothing is claimed if `said` is a fault.
abbrev pub Makes : List Line → Going → Result Taken Fault → Type 0
Makes lines going said = MatchResult said (λ taken. Leaves lines (with_taken going taken)) (λ fault. Unit {0})

-- a line that begins a field adds it to the last group
starts : (ended : List (List Written)) (last : List Written) (name body : List ℕ)
    → Makes (lines_of_groups ended last ++ Start name body ∷ []) (going_of ended last) (Ok
    (GoesOn (map field_of last ++ (name, body) ∷ [])))
starts ended last name body =
    let written : Written = record { name = name; first = body; more = [] } in
    record {
      ended = ended;
      last = last ++ written ∷ [];
      lines_are = simp (append_assoc, flat_map-append);
      going_is = cc (map-append field_of last (written ∷ []), joined_single body);
    }

-- a separator ends the last group: it is one of the ended ones then, and an empty one is the last
lines-separated : (ended : List (List Written)) (last : List Written) → lines_of_groups ended last ++ Separator ∷ []
    ≡ lines_of_groups (ended ++ last ∷ []) []
lines-separated ended last = simp (append_assoc, append-nil, flat_map-append)

-- a line of any kind, after the lines of groups, leaves what `take_kind` answers; n, how many records ended before it,
-- matters only for its fault
after_kind : (n : ℕ) (ended : List (List Written)) (last : List Written) (kind : Line)
    → Makes (lines_of_groups ended last ++ filter is_nonblank (kind ∷ [])) (going_of ended last) (take_kind n
    (map field_of last) kind)
after_kind n ended last Blank = record { ended = ended; last = last; lines_are = append-nil (lines_of_groups ended last); going_is = refl }
after_kind n ended [] Separator =
    record {
      ended = ended ++ [] ∷ [];
      last = [];
      lines_are = lines-separated ended [];
      going_is = cc (records_of-append ended ([] ∷ []), append-nil (records_of ended));
    }
after_kind n ended (field ∷ last) Separator =
    record {
      ended = ended ++ (field ∷ last) ∷ [];
      last = [];
      lines_are = lines-separated ended (field ∷ last);
      going_is = cc (records_of-append ended ((field ∷ last) ∷ []));
    }
after_kind n ended [] (Continuation text) = tt
after_kind n ended (field ∷ last) (Continuation text) =
    let lines = append_assoc (flat_map lines_of_ended ended) (lines_of_group (field ∷ last)) (Continuation text ∷ []) in
    record {
      ended = ended;
      last = group_continued text (field ∷ last);
      lines_are = rw (lines-continued text field last)
          lines;
      going_is = cc (fields-continued text field last);
    }
after_kind n ended [] (Start name body) = cond_both (nat_lt n most_records) _ _
    (Makes (lines_of_groups ended [] ++ Start name body ∷ []) (going_of ended [])) (λ below. starts ended [] name body)
    (λ full. tt)
after_kind n ended (field ∷ last) (Start name body) = starts ended (field ∷ last) name body
after_kind n ended last Bad = tt

-- one line more, after lines that leave a reading: all of them leave what `take_kind` answers; n, how many records
-- ended before the line, matters only for its fault
pub leaves_more : (lines : List Line) (going : Going) (kind : Line) (n : ℕ) → Leaves lines going
    → Makes (lines ++ filter is_nonblank (kind ∷ [])) going (take_kind n going.fields kind)
leaves_more lines going kind n before = rw (before.lines_are, before.going_is) (after_kind n before.ended before.last kind)

-- ---- how many records begin

-- how many records begin in two lists of lines: those of the first, and those of the second, at whose front a record
-- goes on if the first leaves one
pub begun-append : (inside : Bool) (xs ys : List Line) → begun inside (xs ++ ys) ≡ begun inside xs + begun (is_inside inside xs) ys
begun-append inside [] ys = omega arith
begun-append true (Blank ∷ xs) ys = begun-append true xs ys
begun-append false (Blank ∷ xs) ys = begun-append false xs ys
begun-append true (Separator ∷ xs) ys = begun-append false xs ys
begun-append false (Separator ∷ xs) ys = begun-append false xs ys
begun-append true (Continuation text ∷ xs) ys = begun-append true xs ys
begun-append false (Continuation text ∷ xs) ys = begun-append false xs ys
begun-append true (Start name body ∷ xs) ys = begun-append true xs ys
begun-append false (Start name body ∷ xs) ys = omega (arith, begun-append true xs ys)
begun-append true (Bad ∷ xs) ys = begun-append true xs ys
begun-append false (Bad ∷ xs) ys = begun-append false xs ys

-- whether the lines have no bad line and no continuation without a field before it; `inside` says whether a record
-- with a field goes on before them
abbrev pub fits : Bool → List Line → Bool
fits inside [] = true
fits inside (Blank ∷ lines) = fits inside lines
fits inside (Separator ∷ lines) = fits false lines
fits inside (Continuation text ∷ lines) = inside && fits inside lines
fits inside (Start name body ∷ lines) = fits true lines
fits inside (Bad ∷ lines) = false

-- if two lists of lines fit, the second fits after what the first leaves: a record that goes on, or none
pub fits-behind : (inside : Bool) (xs ys : List Line) → fits inside (xs ++ ys) ≡ true → fits (is_inside inside xs) ys ≡ true
fits-behind inside [] ys fit = fit
fits-behind inside (Blank ∷ xs) ys fit = fits-behind inside xs ys fit
fits-behind inside (Separator ∷ xs) ys fit = fits-behind false xs ys fit
fits-behind inside (Continuation text ∷ xs) ys fit = fits-behind inside xs ys (and_parts inside _ fit).1
fits-behind inside (Start name body ∷ xs) ys fit = fits-behind true xs ys fit
fits-behind inside (Bad ∷ xs) ys fit = cc

-- a function f of lines that passes over continuation lines and beginnings of fields passes over the lines of a whole
-- group
past_group : {A : Type 0} (f : List Line → A)
    → ((text : List ℕ) (lines : List Line) → f (Continuation text ∷ lines) ≡ f lines)
    → ((name body : List ℕ) (lines : List Line) → f (Start name body ∷ lines) ≡ f lines)
    → (group : List Written) (lines : List Line) → f (lines_of_group group ++ lines) ≡ f lines
past_group f goes begins [] lines = refl
past_group f goes begins (field ∷ group) lines =
    ap f (append_assoc (lines_of_field field) (lines_of_group group) lines) ∙ begins field.name field.first _
    ∙ texts field.more (lines_of_group group ++ lines) ∙ past_group f goes begins group lines
  where
    texts : (more : List (List ℕ)) (rest : List Line) → f (map Continuation more ++ rest) ≡ f rest
    texts [] rest = refl
    texts (text ∷ more) rest = goes text _ ∙ texts more rest

-- the lines of ended groups are those of the first, its separator, and those of the others
first_ended : (group : List Written) (ended : List (List Written)) (lines : List Line)
    → flat_map lines_of_ended (group ∷ ended) ++ lines ≡ lines_of_group group ++ Separator ∷ (flat_map lines_of_ended ended ++ lines)
first_ended group ended lines = append_assoc (lines_of_ended group) (flat_map lines_of_ended ended) lines
    ∙ append_assoc (lines_of_group group) (Separator ∷ []) (flat_map lines_of_ended ended ++ lines)

-- Lines behind ended groups begin outside of a record. As many records begin in the groups as groups have a field, and
-- all lines fit exactly if those behind the groups do.
pub past_ended : (ended : List (List Written)) (lines : List Line)
    → (is_inside false (flat_map lines_of_ended ended ++ lines) ≡ is_inside false lines)
    × (begun false (flat_map lines_of_ended ended ++ lines) ≡ length (filter has_field ended) + begun false lines)
    × (fits false (flat_map lines_of_ended ended ++ lines) ≡ fits false lines)
past_ended [] lines = (refl, omega arith, refl)
past_ended ([] ∷ ended) lines = past_ended ended lines
past_ended ((field ∷ group) ∷ ended) lines =
    let order = first_ended (field ∷ group) ended lines in
    let rest = past_ended ended lines in (
      ap (is_inside false) order ∙ past_group (is_inside true) (λ _ _. refl) (λ _ _ _. refl) (field ∷ group) _ ∙ rest.0,
      omega (
        arith,
        ap (begun false) order
            ∙ ap (λ n. 1 + n) (past_group (begun true) (λ _ _. refl) (λ _ _ _. refl) (field ∷ group)
            (Separator ∷ (flat_map lines_of_ended ended ++ lines))),
        rest.1,
      ),
      ap (fits false) order ∙ past_group (fits true) (λ _ _. refl) (λ _ _ _. refl) (field ∷ group) _ ∙ rest.2,
    )

-- the lines of the last group: a record goes on after them, and one began, if the group has a field; and they fit
pub past_last : (last : List Written) → (is_inside false (lines_of_group last) ≡ has_field last)
    × (begun false (lines_of_group last) ≡ length (filter has_field (last ∷ [])))
    × (fits false (lines_of_group last) ≡ true)
past_last [] = (refl, refl, refl)
past_last (field ∷ last) =
    let all = append-nil (lines_of_group (field ∷ last)) in (
      ap (is_inside true) (sym all) ∙ past_group (is_inside true) (λ _ _. refl) (λ _ _ _. refl) (field ∷ last) [],
      ap (λ l. 1 + begun true l) (sym all) ∙ ap (λ n. 1 + n) (past_group (begun true) (λ _ _. refl) (λ _ _ _. refl) (field ∷ last) []),
      ap (fits true) (sym all) ∙ past_group (fits true) (λ _ _. refl) (λ _ _ _. refl) (field ∷ last) [],
    )

-- as many records begin in the lines of groups as the groups have
pub begun-groups : (ended : List (List Written)) (last : List Written) → begun false (lines_of_groups ended last)
    ≡ length (records_of (ended ++ last ∷ []))
begun-groups ended last = simp (length-map, filter-append, length-append)
    (omega (arith, (past_ended ended (lines_of_group last)).1, (past_last last).1))

-- ---- one list of groups

-- what lines are parsed to: the texts of the continuations at their front, and the groups after them
abbrev Parsed : Type 0
Parsed = List (List ℕ) × List (List Written)

-- the groups, with the field in front of the first group
abbrev with_field : Written → List (List Written) → List (List Written)
with_field field [] = []
with_field field (group ∷ groups) = (field ∷ group) ∷ groups

-- the lines parsed back to front, into the one list of groups that can have them
abbrev parsed : List Line → Parsed
parsed [] = ([], [] ∷ [])
parsed (Separator ∷ lines) = ([], [] ∷ (parsed lines).1)
parsed (Continuation text ∷ lines) = (text ∷ (parsed lines).0, (parsed lines).1)
parsed (Start name body ∷ lines) = ([], with_field (record { name = name; first = body; more = (parsed lines).0 }) (parsed lines).1)
parsed (line ∷ lines) = parsed lines

-- continuation lines in front of lines that no continuation begins are parsed to their texts (the `let` gives a pair
-- its type)
parsed-texts : (texts : List (List ℕ)) (lines : List Line) (groups : List (List Written))
    → parsed lines ≡ (let p : Parsed = ([], groups) in p)
    → parsed (map Continuation texts ++ lines) ≡ (let p : Parsed = (texts, groups) in p)
parsed-texts [] lines groups e = e
parsed-texts (text ∷ texts) lines groups e = ap (λ (p : Parsed). let q : Parsed = (text ∷ p.0, p.1) in q)
    (parsed-texts texts lines groups e)

-- the lines of a group, in front of lines that are parsed to groups, put its fields in front of the first of these
-- groups
parsed-group : (group : List Written) (lines : List Line) (next : List Written) (groups : List (List Written))
    → parsed lines ≡ (let p : Parsed = ([], next ∷ groups) in p)
    → parsed (lines_of_group group ++ lines) ≡ (let p : Parsed = ([], (group ++ next) ∷ groups) in p)
parsed-group [] lines next groups e = e
parsed-group (field ∷ group) lines next groups e =
    let rest = parsed-group group lines next groups e in
    let texts = parsed-texts field.more (lines_of_group group ++ lines) ((group ++ next) ∷ groups) rest in
    ap parsed (append_assoc (lines_of_field field) (lines_of_group group) lines)
    ∙ ap (λ (p : Parsed). let q : Parsed = ([], with_field (record { name = field.name; first = field.first; more = p.0 }) p.1) in q) texts

-- the lines of groups are parsed to just these groups
parsed-groups : (ended : List (List Written)) (last : List Written) → parsed (lines_of_groups ended last)
    ≡ (let p : Parsed = ([], ended ++ last ∷ []) in p)
parsed-groups [] last =
    ap parsed (sym (append-nil (lines_of_group last))) ∙ parsed-group last [] [] [] refl
    ∙ ap (λ (l : List Written). let p : Parsed = ([], l ∷ []) in p) (append-nil last)
parsed-groups (group ∷ ended) last =
    let rest = parsed-groups ended last in
    let separated = ap (λ (p : Parsed). let q : Parsed = ([], [] ∷ p.1) in q) rest in
    ap parsed (first_ended group ended (lines_of_group last))
    ∙ parsed-group group (Separator ∷ lines_of_groups ended last) [] (ended ++ last ∷ []) separated
    ∙ ap (λ (l : List Written). let p : Parsed = ([], l ∷ (ended ++ last ∷ [])) in p) (append-nil group)

-- the records of a text are those of the groups to which its lines are parsed, so it has no others
records-parsed : (text : List ℕ) (records : List (List Field)) → HasRecords text records
    → records ≡ records_of (parsed (nonblank (lines_of text))).1
records-parsed text records has =
    has.all ∙ sym (ap (λ (l : List Line). records_of (parsed l).1) has.lines
    ∙ ap (λ (p : Parsed). records_of p.1) (parsed-groups has.ended has.last))

-- a text has one list of records at most
pub one_list : (text : List ℕ) (a b : List (List Field)) → HasRecords text a → HasRecords text b → a ≡ b
one_list text a b has other = records-parsed text a has ∙ sym (records-parsed text b other)
