use Rattle.std.proofs.Common.{◌≡◌, ◌∙◌, [], false, sym, subst, arith}
use Rattle.std.proofs.lemmas.List.{get_or_read}
use Rattle.lt_range.specs.Preferences.{at, Serves}
use Rattle.lt_range.specs.declared.preferences.Preference.{Preference}
use Rattle.lt_range.proofs.ServingLemmas.{first_serves, none_before}
use Rattle.lt_range.proofs.preferences.served_in_turn.Goals as goal

-- the answer is what the turn serves: no range before this one serves a tag, so what this one serves is that
pub returns-then-index-all : goal.returns-then-index-all
returns-then-index-all c =
    let all = c.args.all.now in
    let i = c.first_serving-index.result in
    let is : c.index-all-index.result ≡ at all i = get_or_read all i c.index-all-index.result c.if-index-all.true
    c.index-all-index.is (record { range = record { wild = false; named = [] }; weight = 0; place = 0 }) in
    first_serves c.args.wild all c.args.tags.now i c.served.result c.first_serving-index.ensures c.if-index-all.true
    (subst (λ (p : Preference). Serves all p.range c.args.tags.now c.served.result) (sym c.index-all-index.is ∙ is) c.served.ensures)

-- None is right: the first range that serves a tag would be past the last, so none does
pub returns-else-index-all : goal.returns-else-index-all
returns-else-index-all c = λ i within. none_before c.args.wild c.args.all.now c.args.tags.now
    c.first_serving-index.result c.first_serving-index.ensures i (omega (arith, within, c.if-index-all.false))
