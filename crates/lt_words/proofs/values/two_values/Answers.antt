use Rattle.std.proofs.Common.{[], ◌∷◌}
use Rattle.std.proofs.lemmas.Result.{err_from_is_err_and}
use Rattle.lt_words.proofs.ValueLemmas.{lacks_first, lacks_other}
use Rattle.lt_words.proofs.values.two_values.Goals as goal

-- the first of the two has no value, so no two texts are their values
pub returns-in_err-value-clause-lacks : goal.returns-in_err-value-clause-lacks
returns-in_err-value-clause-lacks c =
    let p = err_from_is_err_and c.from_residual.result c.from_residual.ensures.1 in
    rw (p.1, p.2) (lacks_first _ c.args.first.now.name.now (c.args.second.now.name.now ∷ []) c.in_err-value.field-0.0
    c.in_err-value.ensures.lacks)

-- the second of the two has no value, so no two texts are their values
pub returns-in_err-other-clause-lacks : goal.returns-in_err-other-clause-lacks
returns-in_err-other-clause-lacks c =
    let p = err_from_is_err_and c.from_residual-in_err-other.result c.from_residual-in_err-other.ensures.1 in
    rw (p.1, p.2) (lacks_other _ c.args.first.now.name.now (c.args.second.now.name.now ∷ []) c.in_err-other.field-0.0
    c.in_err-other.ensures.lacks)
