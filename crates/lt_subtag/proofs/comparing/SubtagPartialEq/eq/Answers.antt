use Rattle.std.proofs.Common.{nat_eq, ap₂, ◌∙◌}
use Rattle.lt_subtag.proofs.NumberLemmas.{subtag_few, numbers_equal}
use Rattle.lt_subtag.proofs.comparing.SubtagPartialEq.eq.Goals as goal

-- subtags are equal exactly if their numbers are
pub returns : goal.returns
returns c =
    ap₂ nat_eq c.number.ensures.number c.number-2.ensures.number
    ∙ numbers_equal c.args.self.now c.args.other.now (subtag_few c.args.self.now c.number.ensures.subtag) (subtag_few
    c.args.other.now c.number-2.ensures.subtag)
