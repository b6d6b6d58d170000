use Rattle.std.proofs.Common.{◌∙◌, Bool, false, ℕ, List, Option, ap, bytes_eq, codes, option_map, sym}
use Rattle.std.specs.Borrow.{Bor}
use Rattle.std.specs.Option.{option_map_or}
use Rattle.clap.proofs.WalkLemmas.{first_value-rows}
use Rattle.clap.specs.Words.{Text}
use Rattle.clap.specs.declared.parser.matches.ArgMatches.TheViews.{out-ArgMatches}
use Rattle.lt_words.proofs.values.is_flagged.Goals as goal

-- the text that is lent
abbrev now_of : Bor (List ℕ) → List ℕ
now_of s = s.now

-- whether a value says that the flag is given
abbrev of_text : Option Text → Bool
of_text text = option_map_or (λ t. bytes_eq t (codes "true")) text false

-- the matches have a value for the flag, and it is given if that is `true`
pub returns-in-Some : goal.returns-in-Some
returns-in-Some c =
    let found = (out-ArgMatches c.args.matches.now).found in
    c.eq.ensures
    ∙ sym (ap of_text (sym (first_value-rows found c.args.flag.now.name.now) ∙ sym c.get_str.ensures
    ∙ ap (option_map now_of) c.in-Some.is))

-- the matches have no value for the flag, so it is not given
pub returns-in-None : goal.returns-in-None
returns-in-None c =
    let found = (out-ArgMatches c.args.matches.now).found in
    sym (ap of_text (sym (first_value-rows found c.args.flag.now.name.now) ∙ sym c.get_str.ensures ∙ ap (option_map now_of) c.in-None.is))
