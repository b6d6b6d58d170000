use Rattle.std.proofs.Common.{◌∙◌, sym, []}
use Rattle.lt_stream.proofs.PartLemmas.{some_items}
use Rattle.lt_answers.proofs.FollowingLemmas.{last_judged}
use Rattle.lt_answers.proofs.following.Following.finish.Goals as goal

-- The clause of `Following::finish`, JudgesEnd, where a last line is kept.

-- the last line, which no line feed ends, settles the verdict
pub returns-in-Some : goal.returns-in-Some
returns-in-Some g c =
    last_judged (g.L.Lookup.listed c.args.table.now) c.args.self.now c.in-Some.verdict
    (some_items _ _ c.args.self.now.kept.ok.0 (sym c.is_empty.ensures ∙ c.if-is_empty.false))
    ((rw c.in-Some.is at c.in_ok-verdict.ensures) [])

-- the last line settles no verdict, so the verdict is that at the end of the lines
pub returns-in-None : goal.returns-in-None
returns-in-None g c =
    last_judged (g.L.Lookup.listed c.args.table.now) c.args.self.now c.at_end-in-None.result
    (some_items _ _ c.args.self.now.kept.ok.0 (sym c.is_empty.ensures ∙ c.if-is_empty.false))
    ((rw c.in-None.is at c.in_ok-verdict.ensures).follows [] c.at_end-in-None.result c.at_end-in-None.ensures)
