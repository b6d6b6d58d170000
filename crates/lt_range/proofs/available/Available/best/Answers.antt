use Rattle.std.proofs.Common.{◌≡◌, List, rules, subst}
use Rattle.lt_range.specs.Preferences.{IsBest}
use Rattle.lt_range.specs.Spellings.{Spellings}
use Rattle.lt_range.proofs.available.Available.best.Goals as goal

-- the place is that of the best of the available tags: those that are kept are the ones that a contract sees
pub returns : goal.returns
returns c =
    let same : c.deref.result.now ≡ c.args.self.now = search rules in
    subst (λ (l : List Spellings). IsBest c.args.preferences.now l c.best.result) same c.best.ensures
