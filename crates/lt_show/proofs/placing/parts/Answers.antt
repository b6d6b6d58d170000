use Rattle.std.proofs.Common.{rules, arith}
use Rattle.std.proofs.lemmas.Grind.{common_steps}
use Rattle.std.proofs.lemmas.Result.{IfOk-weaker}
use Rattle.lt_show.proofs.SpellLemmas.{spelled}
use Rattle.lt_show.proofs.placing.parts.Goals as goal

-- a grandfathered tag is one part, and the parts of any other are the pieces of its text with their kinds
pub returns-clause-parts : goal.returns-clause-parts
returns-clause-parts c = first_of (search rules, grind (arith, common_steps))

-- the result is the parts of the tag, and these spell its text
pub returns-clause-spell : goal.returns-clause-spell
returns-clause-spell c = IfOk-weaker c.place.result _ _
    (λ parts e. spelled c.args.tag.now parts.items c.grandfathered.ensures.tag.tag e) (returns-clause-parts c)
