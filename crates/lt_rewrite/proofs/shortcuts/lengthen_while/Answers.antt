use Rattle.std.proofs.Common.{◌+◌, sym, subst}
use Rattle.lt_rewrite.specs.Shortcuts.{GrowNoMore, LeadOn}
use Rattle.lt_rewrite.proofs.shortcuts.lengthen_while.Goals as goal

-- if no shortcut leads elsewhere than before, the list is the same and twice as long, so it can get no longer
pub returns-then-grows-clause-rest : goal.returns-then-grows-clause-rest
returns-then-grows-clause-rest c = λ no. let same = c.lengthen.ensures.same no in
    subst GrowNoMore (sym same) (λ R n lead. subst (LeadOn R (n + n)) same (c.lengthen.ensures.doubled R n lead))

-- these shortcuts cannot get longer, so they already lead over twice as many values
pub returns-else-grows-clause-doubled : goal.returns-else-grows-clause-doubled
returns-else-grows-clause-doubled c = c.requires.rest c.if-grows.false
