use Rattle.std.proofs.Common.{◌≡◌, ◌∙◌, ℕ, List, [], subst, sym, take}
use Rattle.std.proofs.lemmas.Result.{on_ok_weaker}
use Rattle.lt_rows.specs.Quotes.{is_quoted}
use Rattle.lt_rows.specs.declared.quotes.Place.TheVariants as places
use Rattle.lt_lines.specs.Answering.{place_then}
use Rattle.lt_lines.specs.Looks.{IsAhead}
use Rattle.lt_lines.specs.Owed.{ground_of, terms}
use Rattle.lt_lines.proofs.LookLemmas.{fresh_place, open_is}
use Rattle.lt_lines.proofs.PartLemmas.{short_by}
use Rattle.lt_lines.proofs.TakenLemmas.{taken_within}
use Rattle.lt_lines.proofs.answering.Answering.end_row.Goals as goal
use Rattle.lt_lines.proofs.answering.Answering.end_row.Goals.{After-is_open}

-- The clause `taken` of `end_row`: where the line goes on after the line feed, and where it ends.

-- what `is_open` answered is whether the line goes on after the line feed
open_there : (g : _) (c : After-is_open g) → (c.args.self.now.kept.items ≡ [] → c.args.self.now.place ≡ places.Fresh)
    → c.is_open.result ≡ is_quoted (place_then c.args.form c.args.self.now.place (take c.args.count c.args.text.now))
open_there g c fresh =
    open_is c.args.form c.args.self.now.kept.items (take c.args.count c.args.text.now) c.args.self.now.place
    c.look_ahead-look.result c.is_open.result
    (subst (λ (l : List ℕ). IsAhead c.args.form l (take c.args.count c.args.text.now) c.look_ahead-look.result)
    c.deref.ensures.value c.look_ahead-look.ensures) c.is_open.ensures fresh

-- the line feed is within quotes: it is kept with the bytes before it, and no line is answered
pub returns-then-is_open-clause-taken : goal.returns-then-is_open-clause-taken
returns-then-is_open-clause-taken g c =
    let T = terms (ground_of g.L.Lookup.listed c.args.basis.now) c.args.form in
    let is = open_there g (goal.at.returns-then-is_open-clause-taken g c).After-is_open in
    on_ok_weaker c.go_on.result
    (λ goes bytes out one room t. taken_within T bytes out (take c.args.count c.args.text.now) c.args.self.now
    c.go_on.new.self t one
    (sym (is (fresh_place T bytes out c.args.self.now t)) ∙ c.if-is_open.true) goes) c.go_on.ensures.taken

-- the line feed is outside of quotes and ends the line, which is answered
pub returns-clause-taken : goal.returns-clause-taken
returns-clause-taken g c =
    let T = terms (ground_of g.L.Lookup.listed c.args.basis.now) c.args.form in
    let is = open_there g (goal.at.returns-clause-taken g c).After-is_open in
    on_ok_weaker c.answer_line.result (λ taken bytes out one room t. taken bytes out
    (record {
      one = one;
      closed = sym (is (fresh_place T bytes out c.args.self.now t)) ∙ c.if-is_open.false;
      short = short_by c.args.form c.args.self.now.kept.items _ room;
    }) t) c.answer_line.ensures.taken
