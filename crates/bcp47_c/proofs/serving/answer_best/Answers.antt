use Rattle.std.proofs.Common.{◌≡◌, ◌∙◌, List, ap, arith, inl, rules, subst}
use Rattle.lt_range.specs.Preferences.{IsBest}
use Rattle.lt_range.specs.declared.preferences.Preference.{Preference}
use Rattle.bcp47_c.specs.Outcomes.{outcome}
use Rattle.bcp47_c.proofs.serving.answer_best.Goals as goal

-- the header has preferences, and the tag that is best by them is said
pub returns-in-Ok : goal.returns-in-Ok
returns-in-Ok c =
    let same : c.deref.result.now ≡ c.in-Ok.preferences.items = search rules in
    let best = subst (λ (l : List Preference). IsBest l c.args.available.now c.best.result) same c.best.ensures in
    inl (record {
      preferences = c.in-Ok.preferences.items;
      asked = (c.in-Ok.ensures {u = tt}).preferences;
      best = c.best.result;
      is_best = best;
      told = (c.deliver.ensures.fits (omega arith)).0 ∙ ap (λ said. outcome said 0) c.served_said-said.ensures;
    })
