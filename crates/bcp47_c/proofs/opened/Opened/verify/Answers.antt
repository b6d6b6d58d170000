use Rattle.std.proofs.Common.{◌≡◌, inl, inr, ap, ◌∙◌, subst, arith, rules}
use Rattle.bcp47_c.specs.Outcomes.{outcome}
use Rattle.bcp47_c.specs.Traces.{IsToldFault, trace_said}
use Rattle.bcp47_c.proofs.opened.Opened.verify.Goals as goal

-- both texts are tags, and what is wrong with the steps is said without a text
pub returns : goal.returns
returns c =
    let tags = (c.in-Ok.ensures {u = tt}).tags in
    let same : c.deref.result.now ≡ c.args.self.now.entries = search rules in
    let owed = subst (λ R. IsToldFault R c.in-Ok.pair.0 c.args.steps.now c.in-Ok.pair.1 c.in-Err-judge.fault) same
    ((c.in-Err-judge.ensures {u = tt}).fault) in
    let told : c.deliver-in-Err-judge.result ≡ outcome (trace_said c.in-Err-judge.fault) 0 =
    (c.deliver-in-Err-judge.ensures.fits (omega arith)).0 ∙ ap (λ said. outcome said 0) c.trace_said.ensures in
    inl (record {
      tag = c.in-Ok.pair.0;
      read = tags.0;
      end = c.in-Ok.pair.1;
      read_end = tags.1;
      judged = inr (c.in-Err-judge.fault, owed, told);
    })
