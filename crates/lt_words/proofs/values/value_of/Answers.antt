use Rattle.std.proofs.Common.{◌∙◌, ℕ, List, [], ◌∷◌, Option, Some, option_map, sym, ap}
use Rattle.std.specs.Borrow.{Bor}
use Rattle.clap.proofs.WalkLemmas.{first_value-rows}
use Rattle.clap.specs.Words.{Text}
use Rattle.clap.specs.declared.parser.matches.ArgMatches.TheViews.{out-ArgMatches}
use Rattle.lt_words.proofs.ValueLemmas.{no_texts}
use Rattle.lt_words.proofs.values.value_of.Goals as goal

-- the text that is lent
abbrev now_of : Bor (List ℕ) → List ℕ
now_of s = s.now

-- the matches have a value, and its copy is given
pub returns-in_ok-from_str-in-Some-clause-value : goal.returns-in_ok-from_str-in-Some-clause-value
returns-in_ok-from_str-in-Some-clause-value c =
    let found = (out-ArgMatches c.args.matches.now).found in
    let is = sym (first_value-rows found c.args.positional.now.name.now) ∙ sym c.get_str.ensures ∙ ap (option_map now_of) c.in-Some.is
    ∙ ap (λ (text : List ℕ). Some text) (sym c.in_ok-from_str-in-Some.ensures.ok) in
    record { each = ap (λ (o : Option Text). o ∷ []) is }

-- the matches have no value, so no texts are those of the positional
pub returns-in_ok-format-in-None-clause-lacks : goal.returns-in_ok-format-in-None-clause-lacks
returns-in_ok-format-in-None-clause-lacks c =
    let found = (out-ArgMatches c.args.matches.now).found in
    no_texts _ _ (sym (first_value-rows found c.args.positional.now.name.now) ∙ sym c.get_str.ensures ∙ ap (option_map now_of) c.in-None.is)
