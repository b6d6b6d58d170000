-- The loop of `CodeTable::from_bytes` over the lines of a text: the codes of the lines so far are in the table, until
-- all lines are read or one is refused. A line adds the codes of its row, or has the fault that is answered.
use Rattle.std.proofs.Common.{◌≡◌, ◌≤◌, ◌<◌, ◌+◌, ◌++◌, ◌&&◌, ◌∙◌, ℕ, Bool, true, false, List, [], ◌∷◌, refl, sym, ap}
use Rattle.std.proofs.Common.{arith, subst, length, append_assoc, append-nil, length-append, Some, None}
use Rattle.std.specs.Prelude.{Option, Result, Ok, Err}
use Rattle.std.specs.Str.{IsUtf8}
use Rattle.std.proofs.lemmas.List.Elements.{All-nil}
use Rattle.lt_jar.specs.Lines.{content_of, lines_of}
use Rattle.lt_rows.specs.Marks.{SplitsMark}
use Rattle.lt_codes.specs.Adding.{AddsCodes, AddsRow}
use Rattle.lt_codes.specs.Rows.{HasFields, codes_in, codes_of, is_empty, is_range, row_of}
use Rattle.lt_codes.specs.Tables.{AddLines, AddsLine, Agrees, IsRow, IsTable, RefusesLine, longest_table}
use Rattle.lt_codes.specs.declared.codes.Code.{Code}
use Rattle.lt_codes.specs.declared.faults.TableFaultKind.{TableFaultKind}
use Rattle.lt_codes.specs.declared.faults.TableFaultKind.TheVariants as kinds
use Rattle.lt_codes.specs.declared.rows.Row.{Row}

-- whether the fields b, t and w are those of a range: bibliographic, terminologic and of two letters
abbrev of_range : (b t w : List ℕ) → Bool
of_range b t w = is_range b && (is_empty t && is_empty w)

-- lemmas on a line with the fields b (bibliographic), t (terminologic) and w (of two letters)
module _ (before after : List Code) (line b t w : List ℕ) (utf8 : IsUtf8 line) (fields : HasFields line b t w) where
  -- the codes that the fields add are those of the line
  row_of_fields : (codes : Option (List Code)) → codes_of b t w ≡ codes → IsRow line codes
  row_of_fields codes is = record { utf8 = utf8; bibliographic = b; terminologic = t; two_letters = w; fields = fields; codes_are = is }

  -- a line of a range adds nothing
  pub range_adds : of_range b t w ≡ true → after ≡ before → (more : List Code) × AddsLine before line (Ok more) × (after ≡ before ++ more)
  range_adds is same = ([], (row_of_fields (Some []) (rw is refl), All-nil (Agrees before)), same ∙ sym (append-nil before))

  -- if the fields make no row, the line is one of which a field lacks its form
  pub bad_code : of_range b t w ≡ false → row_of b t w ≡ None → IsRow line None
  bad_code not none = row_of_fields None (rw (not, none) refl)

  -- a line of a row adds the codes of the row, or is refused as the row is
  pub row_adds : (row : Row) (r : Result (Unit {0}) TableFaultKind) → of_range b t w ≡ false → row_of b t w ≡ Some row
      → AddsRow before after row r → AddsCodes before after line r
  row_adds row (Ok done) not is adds = (codes_in row, (row_of_fields (Some (codes_in row)) (rw (not, is) refl), adds.0), adds.1)
  row_adds row (Err kinds.RepeatedCode) not is adds = (codes_in row, row_of_fields (Some (codes_in row)) (rw (not, is) refl), adds)
  row_adds row (Err kinds.OutOfMemory) not is adds = tt
  row_adds row (Err kind) not is adds = absurd adds

-- if a line after those before adds its codes to theirs, it and those before add them all
add_more : (start : List Code) (before : List (List ℕ)) (line : List ℕ) (codes more : List Code)
    → AddLines start before codes → AddsLine codes (content_of line) (Ok more)
    → AddLines start (before ++ line ∷ []) (codes ++ more)
add_more start [] line codes more is adds =
    (more, subst (λ (l : List Code). AddsLine l (content_of line) (Ok more)) is adds, ap (λ (l : List Code). l ++ more) is)
add_more start (first ∷ before) line codes more lines adds =
    (lines.0, lines.1, add_more (start ++ lines.0) before line codes more lines.2 adds)

-- The lines of a text before `rest` are read, and their codes are in `table`. `line` is the number of the next line; by
-- `room` it is at most one more than the bytes before `rest`.
pub record IsRead (text : List ℕ) (table : List Code) (rest : List ℕ) (line : ℕ) : Type 0 where
  pub short : length text ≤ longest_table
  pub mark : List ℕ
  pub whole : List ℕ
  pub split : SplitsMark text mark whole
  pub before : List (List ℕ)
  pub there : lines_of whole ≡ before ++ lines_of rest
  pub codes : AddLines [] before table
  pub number : line ≡ length before + 1
  pub room : line + length rest ≤ length text + 1

-- at first no line is read, and no code is there
pub read_none : (text mark rest : List ℕ) (table : List Code) → length text ≤ longest_table → SplitsMark text mark rest
    → table ≡ [] → IsRead text table rest 1
read_none text mark rest table short split none = record {
  short = short;
  mark = mark;
  whole = rest;
  split = split;
  before = [];
  there = refl;
  codes = none;
  number = refl;
  room = omega (arith, ap length split.whole, length-append mark rest);
}

-- if the next line, `part`, adds its codes to those of `table`, which makes `table'`, one line more is read, and
-- `after` is left
pub read_next : (text : List ℕ) (table : List Code) (rest : List ℕ) (line : ℕ) → IsRead text table rest line
    → (part after : List ℕ) (table' : List Code)
    → (lines_of rest ≡ part ∷ lines_of after) × (length after < length rest)
    → AddsCodes table table' (content_of part) (Ok tt) → IsRead text table' after (line + 1)
read_next text table rest line r part after table' next adds = record {
  short = r.short;
  mark = r.mark;
  whole = r.whole;
  split = r.split;
  before = r.before ++ part ∷ [];
  there = r.there ∙ ap (λ (l : List (List ℕ)). r.before ++ l) next.0 ∙ sym (append_assoc r.before (part ∷ []) (lines_of after));
  codes = subst (λ (l : List Code). AddLines [] (r.before ++ part ∷ []) l) (sym adds.2)
      (add_more [] r.before part table adds.0 r.codes adds.1);
  number = omega (arith, r.number, length-append r.before (part ∷ []));
  room = omega (arith, r.room, next.1);
}

-- if no line is left, the text is a table of these codes
pub read_done : (text : List ℕ) (table : List Code) (rest : List ℕ) (line : ℕ) → IsRead text table rest line
    → lines_of rest ≡ [] → IsTable text table
read_done text table rest line r none = record {
  short = r.short;
  mark = r.mark;
  rest = r.whole;
  split = r.split;
  lines = subst (λ (l : List (List ℕ)). AddLines [] l table) (sym (append-nil r.before)
      ∙ ap (λ (l : List (List ℕ)). r.before ++ l) (sym none) ∙ sym r.there) r.codes;
}

-- if the next line, `part`, is refused with this kind of fault, so is the text, with the number of the line
pub read_refused : (text : List ℕ) (table : List Code) (rest : List ℕ) (line : ℕ) → IsRead text table rest line
    → (part after : List ℕ) (table' : List Code) (kind : TableFaultKind)
    → (lines_of rest ≡ part ∷ lines_of after) × (length after < length rest)
    → AddsCodes table table' (content_of part) (Err kind) → RefusesLine text (record { kind = kind; line = line })
read_refused text table rest line r part after table' kind next adds = record {
  short = r.short;
  mark = r.mark;
  rest = r.whole;
  split = r.split;
  before = r.before;
  line = part;
  after = lines_of after;
  there = r.there ∙ ap (λ (l : List (List ℕ)). r.before ++ l) next.0;
  codes = table;
  are_codes = r.codes;
  refuses = adds;
  number = r.number;
}
