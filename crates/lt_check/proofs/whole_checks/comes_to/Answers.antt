use Rattle.std.proofs.Common.{◌≢◌, inl, inr, refl}
use Rattle.lt_check.specs.WholeChecks.{ComesTo}
use Rattle.lt_check.proofs.WholeRecords.{found_proper, same_verdict, differ, at_form, by_value}
use Rattle.lt_check.proofs.whole_checks.comes_to.Goals as goal
use Rattle.lt_check.proofs.whole_checks.comes_to.Goals.{then-eq-via-then-eq, then-eq-via-else-eq+then-eq-2}

-- the core that is settled is proper: it is that of the tag, of which this call asks so
pub settled-requires-clause-proper : goal.settled-requires-clause-proper
settled-requires-clause-proper g c = c.requires.proper _ c.in-Some.ensures.value

-- true is right: the form is the tag's own core, of which nothing is asked, or it is the end already
pub returns-then-eq : goal.returns-then-eq
returns-then-eq g c =
    let comes = elim c.then-eq.branch as (λ _. c.in_ok-form.form ≢ c.in-Some.core.now
    → ComesTo (g.L.Lookup.listed c.args.table.now) c.in_ok-form.form c.args.end.now) [
      | then-eq-via-then-eq w ↦ λ moved. absurd (moved ((same_verdict _ _ _ c.eq.ensures).0 w.if-eq.true))
      | then-eq-via-else-eq+then-eq-2 w ↦ λ moved. inl ((same_verdict _ _ _ w.eq-else-eq.ensures).0 w.if-eq-2.true)
    ] in
    at_form _ c.requires.lower _ _ _ _ c.in-Some.ensures.value c.in_ok-form.ensures.normal _ ((λ h. comes), (λ t. refl))

-- the second core that is settled is proper: it is that of a value that is found for a tag, which is valid by C9
pub settled-requires-in-Some-plain_value_of-clause-proper : goal.settled-requires-in-Some-plain_value_of-clause-proper
settled-requires-in-Some-plain_value_of-clause-proper g c = found_proper _ c.requires.lower _ _ c.in-Some-plain_value_of.ensures

-- true exactly if the tag comes to `end`: the form is neither the core nor the end, so it does exactly if the form of
-- its value is the end
pub returns-in_ok-settled-in-Some-plain_value_of : goal.returns-in_ok-settled-in-Some-plain_value_of
returns-in_ok-settled-in-Some-plain_value_of g c =
    let moved = differ _ _ _ c.eq.ensures c.if-eq.false in
    let apart = differ _ _ _ c.eq-else-eq.ensures c.if-eq-2.false in
    let reaches = same_verdict _ _ _ c.eq-in-Some-plain_value_of.ensures in
    at_form _ c.requires.lower _ _ _ _ c.in-Some.ensures.value c.in_ok-form.ensures.normal _
    (by_value _ c.requires.lower _ _ _ _ _ moved apart c.in-Some-plain_value_of.ensures
    c.in_ok-settled-in-Some-plain_value_of.ensures.normal _ reaches)

-- false is right: the form is neither the core nor the end, and has no value, so it does not come to the end
pub returns-in-None : goal.returns-in-None
returns-in-None g c =
    let moved = differ _ _ _ c.eq.ensures c.if-eq.false in
    let apart = differ _ _ _ c.eq-else-eq.ensures c.if-eq-2.false in (
      (λ h. cc),
      (λ t. elim (t _ _ c.in-Some.ensures.value c.in_ok-form.ensures.normal moved)
          [ inl e ↦ absurd (apart e) | inr v ↦ absurd (c.in-None.ensures v.0 v.1) ]),
    )
