use Rattle.std.proofs.Common.{◌∙◌, List, [], Option, ap, map, option_map, string_bytes, sym}
use Rattle.std.proofs.lemmas.Result.{IfOk-weaker}
use Rattle.std.specs.Borrow.{Bor}
use Rattle.std.specs.Option.{option_map_or}
use Rattle.clap.proofs.WalkLemmas.{raw_values-rows}
use Rattle.clap.specs.Words.{Text}
use Rattle.clap.specs.declared.parser.matches.ArgMatches.TheViews.{out-ArgMatches}
use Rattle.lt_words.proofs.values.values_of.Goals as goal

-- the texts that are lent
abbrev now_of : Bor (List (Bor Text)) → List Text
now_of texts = map (λ (text : Bor Text). text.now) texts.now

-- the values, or an empty list where the argument was not found
abbrev or_none : Option (List Text) → List Text
or_none texts = option_map_or (λ (l : List Text). l) texts []

-- the matches have values, and their copies are given
pub returns-in-Some : goal.returns-in-Some
returns-in-Some c =
    let found = (out-ArgMatches c.args.matches.now).found in
    let is = ap or_none (ap (option_map now_of) (sym c.in-Some.is) ∙ c.get_strs.ensures
    ∙ raw_values-rows found c.args.repeated.now.name.now) in
    IfOk-weaker c.copies_of.result _ _ (λ values same. same ∙ is) c.copies_of.ensures

-- the matches have no values, so there are none to copy
pub returns-in-None : goal.returns-in-None
returns-in-None c =
    let found = (out-ArgMatches c.args.matches.now).found in
    ap (map string_bytes) c.new.ensures.items
    ∙ ap or_none (ap (option_map now_of) (sym c.in-None.is) ∙ c.get_strs.ensures
    ∙ raw_values-rows found c.args.repeated.now.name.now)
