use Rattle.std.proofs.Common.{◌∙◌, ℕ, List, Option, Some, ap, codes, option_map, sym}
use Rattle.std.specs.Borrow.{Bor}
use Rattle.std.specs.Option.{option_map_or}
use Rattle.clap.proofs.WalkLemmas.{first_value-rows}
use Rattle.clap.specs.Words.{Text}
use Rattle.clap.specs.declared.parser.matches.ArgMatches.TheViews.{out-ArgMatches}
use Rattle.lt_words.specs.Reading.{delimiter_named}
use Rattle.lt_words.proofs.values.delimiter_of.Goals as goal

-- the text that is lent
abbrev now_of : Bor (List ℕ) → List ℕ
now_of s = s.now

-- the byte that the text of the option names, if it names one, or a comma (44) without the option
abbrev of_text : Option Text → Option ℕ
of_text text = option_map_or delimiter_named text (Some 44)

-- the option is not given, and the delimiter of the command line is then a comma
pub returns-in_default-clause-given : goal.returns-in_default-clause-given
returns-in_default-clause-given c =
    let found = (out-ArgMatches c.args.matches.now).found in
    ap of_text (sym (first_value-rows found (codes "C")) ∙ sym c.get_str.ensures ∙ ap (option_map now_of) c.in_default.is)

-- the text of the option names this byte, which is the delimiter of the command line
pub returns-in-Some-delimiter_named-clause-given : goal.returns-in-Some-delimiter_named-clause-given
returns-in-Some-delimiter_named-clause-given c =
    let found = (out-ArgMatches c.args.matches.now).found in
    ap of_text (sym (first_value-rows found (codes "C")) ∙ sym c.get_str.ensures ∙ ap (option_map now_of) c.in-Some.is)
    ∙ sym c.delimiter_named.ensures ∙ c.in-Some-delimiter_named.is

-- the text of the option names no delimiter, so the command line has none, as the refusal says
pub returns-in_ok-format-in-None-clause-none : goal.returns-in_ok-format-in-None-clause-none
returns-in_ok-format-in-None-clause-none c =
    let found = (out-ArgMatches c.args.matches.now).found in
    ap of_text (sym (first_value-rows found (codes "C")) ∙ sym c.get_str.ensures ∙ ap (option_map now_of) c.in-Some.is)
    ∙ sym c.delimiter_named.ensures ∙ c.in-None.is
