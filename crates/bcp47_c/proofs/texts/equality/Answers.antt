use Rattle.std.proofs.lemmas.Result.{err_from_is_err_and}
use Rattle.lt_tag.specs.Faults.{HasTag}
use Rattle.lt_canon.proofs.TextRefusals.{pair_refused}
use Rattle.bcp47_c.proofs.texts.equality.Goals as goal

-- both texts are tags, and one of the tags is refused, which is a refusal of the two texts
pub returns-in_err-equivalent-clause-refusal : goal.returns-in_err-equivalent-clause-refusal
returns-in_err-equivalent-clause-refusal c =
    let p = err_from_is_err_and c.from_residual-in_err-equivalent.result c.from_residual-in_err-equivalent.ensures.1 in
    let a = (c.in_ok-tag.ensures {u = tt}).tag in
    let b = (c.in_ok-other.ensures {u = tt}).tag in
    let first : HasTag c.args.first.now c.in_ok-tag.tag = a in
    let second : HasTag c.args.second.now c.in_ok-other.other = b in
    rw (p.1, p.2) (pair_refused c.args.registry.now c.args.first.now c.args.second.now c.in_ok-tag.tag
    c.in_ok-other.other c.in_err-equivalent.field-0.0 first second ((c.in_err-equivalent.ensures {u = tt}).refusal))
