use Rattle.std.proofs.Common.{◌∙◌, refl, sym}
use Rattle.std.proofs.lemmas.Result.{IfOk-weaker}
use Rattle.lt_stream.proofs.PartLemmas.{some_items}
use Rattle.lt_answers.proofs.FollowingLemmas.{begun_line, settled_rest}
use Rattle.lt_answers.proofs.following.Following.judge_rest.Goals as goal

-- What `judge_front` requires, and the clause of `judge_rest`, SettlesKept.

-- the explanation has ended and a further line has begun, which is a bad step however it goes on
pub returns-in_default : goal.returns-in_default
returns-in_default g c =
    λ more one.
    rw (
      c.in_default.is,
      (begun_line c.args.self.now.kept.items more one
          (some_items _ _ c.args.self.now.kept.ok.0 (sym c.is_empty.ensures ∙ c.if-is_empty.false))).2,
    ) refl

-- the lines so far lead to a tag, so this tag is proper
pub judge_front-requires : goal.judge_front-requires
judge_front-requires g c = rw c.in-Some.is at c.requires

-- what the front of the line settles after this tag, the state settles
pub returns : goal.returns
returns g c =
    IfOk-weaker c.judge_front.result _ _
    (λ j is. settled_rest (g.L.Lookup.listed c.args.table.now) c.in-Some.here c.args.self.now c.in-Some.is j
    (rw c.deref.ensures.value at is)) c.judge_front.ensures
