-- Lemmas for `values.rt` and `reading.rt`. A command is not named if a positional, which is an argument that is given
-- by its place, has no value. A text names a column only by a number or a name that fits. And no two subcommands have
-- the same name.
use Rattle.std.proofs.Common.{◌≡◌, ◌<◌, ◌∙◌, ℕ, Bool, true, false, List, [], ◌∷◌, Option, Some, None, map, sym, ap}
use Rattle.std.proofs.Common.{refl, subst, slice_index, ◌==◌, if◌then◌else◌, le-leb}
use Rattle.std.specs.Char.{digit_value, is_ascii_digit}
use Rattle.std.specs.Str.Parse.{AllDigits}
use Rattle.std.proofs.lemmas.Str.Parse.{digit_from_value}
use Rattle.clap.specs.Words.{Row, Text, first_of}
use Rattle.lt_words.specs.CommandLine.{name_of, positionals_of}
use Rattle.lt_words.specs.Reading.{AreGiven, FitsHeading, IsColumn, IsDecimal, IsNamed, IsNoColumn, IsNoNumber, LacksValue, NamesNone}
use Rattle.lt_words.specs.declared.faults.WordsFault.{WordsFault}
use Rattle.lt_words.specs.declared.faults.WordsFault.TheVariants as fault
use Rattle.lt_words.specs.declared.commands.Column.{Column}
use Rattle.lt_words.specs.declared.commands.Column.TheVariants as columns
use Rattle.lt_words.specs.declared.commands.Command.{Command}
use Rattle.lt_words.specs.Reading.{subcommand_for}
use Rattle.lt_words.specs.declared.subcommands.Subcommand.{Subcommand}
use Rattle.lt_words.specs.declared.subcommands.Subcommand.TheVariants as sub

-- if a positional has no value among the matches `rows`, no list of texts is the values given for it
pub no_texts : (rows : List Row) (positional : Text) → first_of positional rows ≡ None → (texts : List Text)
    → AreGiven rows (positional ∷ []) texts → ⊥
no_texts rows positional none [] given = let e = given.each in cc
no_texts rows positional none (text ∷ texts) given = let e = given.each in cc

-- the values given for a first positional and others are one value and those of the others
pub given_first : (rows : List Row) (first : Text) (others : List Text) (texts : List Text) → AreGiven rows (first ∷ others) texts
    → (text : Text) × (more : List Text) × AreGiven rows (first ∷ []) (text ∷ []) × AreGiven rows others more × (texts ≡ text ∷ more)
given_first rows first others [] given = let e = given.each in cc
given_first rows first others (text ∷ more) given =
    let e = given.each in
    let one : first_of first rows ≡ Some text = cc in
    let rest : map (λ (p : Text). first_of p rows) others ≡ map (λ (t : Text). Some t) more = cc in
    (text, more, record { each = ap (λ (o : Option Text). o ∷ []) one }, record { each = rest }, refl)

-- the value of a first positional, and those of others, are the values given for all of them
pub given_more : (rows : List Row) (first : Text) (others : List Text) (text : Text) (more : List Text)
    → AreGiven rows (first ∷ []) (text ∷ []) → AreGiven rows others more
    → AreGiven rows (first ∷ others) (text ∷ more)
given_more rows first others text more one rest =
    let e = one.each in
    let f = rest.each in
    record { each = cc }

-- positionals lack a value where the first of them does; `f` is the fault
pub lacks_first : (rows : List Row) (first : Text) (others : List Text) (f : WordsFault)
    → LacksValue rows (first ∷ []) f → LacksValue rows (first ∷ others) f
lacks_first rows first others (fault.Help text) lacks = lacks
lacks_first rows first others (fault.Version text) lacks = lacks
lacks_first rows first others (fault.Usage said) lacks = λ texts given.
    let parts = given_first rows first others texts given in lacks (parts.0 ∷ []) parts.2
lacks_first rows first others fault.OutOfMemory lacks = tt

-- positionals lack a value where one after the first does; `f` is the fault
pub lacks_other : (rows : List Row) (first : Text) (others : List Text) (f : WordsFault) → LacksValue rows others f
    → LacksValue rows (first ∷ others) f
lacks_other rows first others (fault.Help text) lacks = lacks
lacks_other rows first others (fault.Version text) lacks = lacks
lacks_other rows first others (fault.Usage said) lacks = λ texts given.
    let parts = given_first rows first others texts given in lacks parts.1 parts.3
lacks_other rows first others fault.OutOfMemory lacks = tt

-- ---- columns

-- A step through the digits of `all`. If its bytes are digits exactly if those of `rest` are, and `rest` begins with a
-- digit `d`, they are digits exactly if those of `more` are, which follow `d`.
pub digits_next : (all rest more : List ℕ) (d : ℕ) → rest ≡ d ∷ more → digit_value d < 10
    → (AllDigits 10 all → AllDigits 10 rest) × (AllDigits 10 rest → AllDigits 10 all)
    → (AllDigits 10 all → AllDigits 10 more) × (AllDigits 10 more → AllDigits 10 all)
digits_next all rest more d is digit same =
    (λ a. (subst (AllDigits 10) is (same.0 a)).1, λ m. same.1 (subst (AllDigits 10) (sym is) (digit, m)))

-- if `rest`, which is what follows some digits in `all`, begins with a byte `d` that is no digit, `all` has a byte that
-- is no digit
pub no_digit : (all rest more : List ℕ) (d : ℕ) → rest ≡ d ∷ more → is_ascii_digit d ≡ false
    → (AllDigits 10 all → AllDigits 10 rest) → AllDigits 10 all → ⊥
no_digit all rest more d is other same a =
    let inside = digit_from_value d (subst (AllDigits 10) is (same a)).0 in
    let digit : is_ascii_digit d ≡ true = rw (le-leb 48 d inside.0, le-leb d 57 inside.1) refl in
    let bad : true ≡ false = sym digit ∙ other in cc

-- a decimal number that is no number of a column names no column at all, since a name is no decimal number
pub no_number : (text : Text) (heading : Bool) (f : WordsFault) → IsDecimal text → IsNoNumber text f → IsNoColumn text heading f
no_number text heading (fault.Help said) decimal none = none
no_number text heading (fault.Version said) decimal none = none
no_number text heading (fault.Usage said) decimal none = by_column
  where
    by_column : (column : Column) → IsColumn text column → FitsHeading heading column → ⊥
    by_column (columns.Number number) is fits = none number is
    by_column (columns.Name name) is fits = is.1 decimal
no_number text heading fault.OutOfMemory decimal none = tt

-- without a heading, a text that is no decimal number names no column
pub no_name : (text : Text) (heading : Bool) → (IsDecimal text → ⊥) → heading ≡ false
    → (column : Column) → IsColumn text column → FitsHeading heading column → ⊥
no_name text heading other without (columns.Number number) is fits = other is.digits
no_name text heading other without (columns.Name name) is fits = let bad : true ≡ false = sym fits ∙ without in cc

-- ---- subcommands: where a positional has no value, no command of the subcommand is named

-- the subcommand by the third letter `a` of its name and the `first`, as bytes of ASCII: these tell all names apart
by_letters : ℕ → ℕ → Subcommand
by_letters a first =
    if a == 97 then sub.Classify
    else if a == 101 then sub.Check
    else if a == 110 then sub.Canon
    else if a == 100 then sub.Codes
    else if a == 118 then (if first == 116 then sub.Tsv else sub.Csv)
    else if a == 116 then (if first == 109 then sub.Match else sub.Extlang)
    else if a == 117 then sub.Equal
    else if a == 112 then sub.Explain
    else if a == 114 then sub.Verify
    else if a == 111 then (if first == 115 then sub.Show else sub.Json)
    else sub.Upgrade

-- the letters of a subcommand's name give it back
named_back : (s : Subcommand) → by_letters (slice_index (name_of s) 2) (slice_index (name_of s) 0) ≡ s
unfolding by_letters
named_back sub.Classify = refl
named_back sub.Check = refl
named_back sub.Canon = refl
named_back sub.Codes = refl
named_back sub.Tsv = refl
named_back sub.Csv = refl
named_back sub.Match = refl
named_back sub.Extlang = refl
named_back sub.Equal = refl
named_back sub.Explain = refl
named_back sub.Verify = refl
named_back sub.Upgrade = refl
named_back sub.Show = refl
named_back sub.Json = refl

-- two subcommands with the same name are the same
pub one_named : (s other : Subcommand) → name_of s ≡ name_of other → s ≡ other
one_named s other e = sym (named_back s) ∙ ap (λ (name : Text). by_letters (slice_index name 2) (slice_index name 0)) e ∙ named_back other

-- the name of the subcommand that a parse found, or no text
name_in : Option (Text × List Row) → Text
name_in None = []
name_in (Some found) = found.0

-- the matches of the subcommand that a parse found, or none
rows_in : Option (Text × List Row) → List Row
rows_in None = []
rows_in (Some found) = found.1

-- where a parse found the subcommand `s` with the matches `rows`, and these name a command, it is one of `s`, and its
-- matches are `rows`
found_named : (s : Subcommand) (rows : List Row) (command : Command) → (n : IsNamed (Some (name_of s, rows)) command)
    → (subcommand_for command ≡ s) × (n.rows ≡ rows)
unfolding name_in rows_in
found_named s rows command n =
    (one_named (subcommand_for command) s (sym (ap name_in n.named)), sym (ap rows_in n.named))

-- where a parse found the subcommand `s`, the command that it names is one of `s`, and its values are those of the
-- positionals of `s`
pub named_values : (s : Subcommand) (rows : List Row) (command : Command) → (n : IsNamed (Some (name_of s, rows)) command)
    → (subcommand_for command ≡ s) × AreGiven rows (positionals_of s) n.texts
named_values s rows command n =
    let found = found_named s rows command n in (
      found.0,
      subst (λ (r : List Row). AreGiven r (positionals_of s) n.texts) found.1
          (subst (λ (t : Subcommand). AreGiven n.rows (positionals_of t) n.texts) found.0 n.given),
    )

-- a subcommand whose positionals lack a value names no command; `f` is the fault
pub lacks_named : (s : Subcommand) (rows : List Row) (f : WordsFault) → LacksValue rows (positionals_of s) f
    → NamesNone (Some (name_of s, rows)) f
lacks_named s rows (fault.Help text) lacks = lacks
lacks_named s rows (fault.Version text) lacks = lacks
lacks_named s rows (fault.Usage text) lacks = λ command n. lacks n.texts (named_values s rows command n).1
lacks_named s rows fault.OutOfMemory lacks = tt
