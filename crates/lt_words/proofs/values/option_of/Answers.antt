use Rattle.std.proofs.Common.{◌∙◌, ℕ, List, Some, ap, option_map, sym}
use Rattle.std.specs.Borrow.{Bor}
use Rattle.clap.proofs.WalkLemmas.{first_value-rows}
use Rattle.clap.specs.declared.parser.matches.ArgMatches.TheViews.{out-ArgMatches}
use Rattle.lt_words.proofs.values.option_of.Goals as goal

-- the text that is lent
abbrev now_of : Bor (List ℕ) → List ℕ
now_of s = s.now

-- the matches have a value, and its copy is given
pub returns-in_ok-from_str-in-Some : goal.returns-in_ok-from_str-in-Some
returns-in_ok-from_str-in-Some c =
    let found = (out-ArgMatches c.args.matches.now).found in
    sym (sym (first_value-rows found c.args.option.now.name.now) ∙ sym c.get_str.ensures ∙ ap (option_map now_of) c.in-Some.is
    ∙ ap (λ (text : List ℕ). Some text) (sym c.in_ok-from_str-in-Some.ensures.ok))

-- the matches have no value
pub returns-in-None : goal.returns-in-None
returns-in-None c =
    let found = (out-ArgMatches c.args.matches.now).found in
    sym (sym (first_value-rows found c.args.option.now.name.now) ∙ sym c.get_str.ensures ∙ ap (option_map now_of) c.in-None.is)
