-- The command line of the program, as `clap` sees it: an `App` is a command with its subcommands, a `Rule` is an
-- argument, and a `Text` is the bytes of a word.
use Rattle.std.specs.Prelude.{List, [], ◌∷◌, ◌++◌, Some, true, codes, map}
use Rattle.clap.specs.Words.{App, Rule, Text, new_app, new_rule, with_rule, with_subcommand}
use Rattle.clap.specs.declared.builder.action.ArgAction.TheVariants.{Append, Set, SetTrue}
use Rattle.lt_words.specs.declared.program.Form.{Form}
use Rattle.lt_words.specs.declared.program.Form.TheVariants as forms
use Rattle.lt_words.specs.declared.subcommands.Subcommand.{Subcommand}
use Rattle.lt_words.specs.declared.subcommands.Subcommand.TheVariants as sub

-- a required argument of this name, without an option's name before it
abbrev pub positional : Text → Rule
positional name = record (new_rule name) { action = Some Set; required = true }

-- a required argument of this name, which takes all words that are left
abbrev pub repeated : Text → Rule
repeated name = record (new_rule name) { action = Some Append; required = true }

-- an argument of this name, which takes all words that are left, if any are
abbrev pub leftover : Text → Rule
leftover name = record (new_rule name) { action = Some Append }

-- an option, two hyphens and `name`, which takes a value; the matches have it under `id`
abbrev pub option : (id name : Text) → Rule
option id name = record (new_rule id) { long = Some name; action = Some Set }

-- a flag, two hyphens and `name`, which takes no value; the matches have it under the same name
abbrev pub flag : (name : Text) → Rule
flag name = record (new_rule name) { long = Some name; action = Some SetTrue }

-- the rule for an argument, by how it is given and by its name, `id`
abbrev pub rule_for : Form → Text → Rule
rule_for forms.Positional id = positional id
rule_for forms.Repeated id = repeated id
rule_for forms.Leftover id = leftover id
rule_for (forms.Option name) id = option id name.now
rule_for forms.Flag id = flag id

-- the command with these arguments added, in this order
abbrev pub with_rules : App → List Rule → App
with_rules app [] = app
with_rules app (rule ∷ rules) = with_rules (with_rule app rule) rules

-- the subcommand of this name with these arguments
abbrev pub subcommand : Text → List Rule → App
subcommand name rules = with_rules (new_app name) rules

-- the program without its subcommands: it has a version, and requires one of its subcommands
abbrev pub program : App
program =
    let app = new_app (codes "langtag") in
    record app { top = record app.top { subcommand_required = true; has_version = true } }

-- the word for a subcommand
abbrev pub name_of : Subcommand → Text
name_of sub.Classify = codes "classify"
name_of sub.Check = codes "check"
name_of sub.Canon = codes "canon"
name_of sub.Codes = codes "codes"
name_of sub.Tsv = codes "tsv"
name_of sub.Csv = codes "csv"
name_of sub.Match = codes "match"
name_of sub.Extlang = codes "extlang"
name_of sub.Equal = codes "equal"
name_of sub.Explain = codes "explain"
name_of sub.Verify = codes "verify"
name_of sub.Upgrade = codes "upgrade"
name_of sub.Show = codes "show"
name_of sub.Json = codes "json"

-- the names of a subcommand's required arguments, without one that takes all words that are left
abbrev pub positionals_of : Subcommand → List Text
positionals_of sub.Classify = codes "TAG" ∷ []
positionals_of sub.Check = codes "REGISTRY" ∷ []
positionals_of sub.Canon = codes "REGISTRY" ∷ []
positionals_of sub.Codes = codes "TABLE" ∷ codes "REGISTRY" ∷ []
positionals_of sub.Tsv = codes "REGISTRY" ∷ codes "COLUMN" ∷ []
positionals_of sub.Csv = codes "REGISTRY" ∷ codes "COLUMN" ∷ []
positionals_of sub.Match = codes "REGISTRY" ∷ []
positionals_of sub.Extlang = codes "REGISTRY" ∷ codes "TAG" ∷ []
positionals_of sub.Equal = codes "REGISTRY" ∷ codes "TAG" ∷ codes "OTHER" ∷ []
positionals_of sub.Explain = codes "REGISTRY" ∷ codes "TAG" ∷ []
positionals_of sub.Verify = codes "REGISTRY" ∷ codes "TAG" ∷ []
positionals_of sub.Upgrade = codes "OLD" ∷ codes "NEW" ∷ []
positionals_of sub.Show = codes "REGISTRY" ∷ []
positionals_of sub.Json = codes "REGISTRY" ∷ []

-- the options of a subcommand, after the argument that takes all words that are left, if it has one
abbrev pub options_of : Subcommand → List Rule
options_of sub.Canon = flag (codes "summary") ∷ []
options_of sub.Codes = flag (codes "summary") ∷ []
options_of sub.Tsv =
    flag (codes "heading") ∷ flag (codes "keep") ∷ option (codes "TABLE") (codes "codes") ∷ flag (codes "summary") ∷ []
options_of sub.Csv =
    option (codes "C") (codes "delimiter") ∷ flag (codes "keep") ∷ option (codes "TABLE") (codes "codes")
    ∷ flag (codes "summary") ∷ []
options_of sub.Match =
    leftover (codes "RANGE") ∷ flag (codes "extended") ∷ flag (codes "lookup")
    ∷ option (codes "HEADER") (codes "accept") ∷ []
options_of sub.Show = repeated (codes "TAG") ∷ flag (codes "json") ∷ []
options_of _ = []

-- the arguments of a subcommand
abbrev pub arguments_of : Subcommand → List Rule
arguments_of s = map positional (positionals_of s) ++ options_of s

-- the subcommands, in the order in which help names them
abbrev pub subcommands : List Subcommand
subcommands =
    sub.Classify ∷ sub.Check ∷ sub.Canon ∷ sub.Codes ∷ sub.Tsv ∷ sub.Csv ∷ sub.Match ∷ sub.Extlang
    ∷ sub.Equal ∷ sub.Explain ∷ sub.Verify ∷ sub.Upgrade ∷ sub.Show ∷ sub.Json ∷ []

-- the program with these subcommands, in this order; `.top` is a subcommand without subcommands of its own
abbrev pub with_subcommands : App → List Subcommand → App
with_subcommands app [] = app
with_subcommands app (s ∷ more) =
    with_subcommands (with_subcommand app (subcommand (name_of s) (arguments_of s)).top) more

-- the program with all its subcommands
abbrev pub langtag : App
langtag = with_subcommands program subcommands
