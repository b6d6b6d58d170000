use Rattle.std.proofs.Common.{sym, ap₂, ◌∙◌}
use Rattle.std.specs.Ordering.{nat_cmp}
use Rattle.lt_subtag.proofs.NumberLemmas.{subtag_few, numbers_ordered}
use Rattle.lt_subtag.proofs.comparing.SubtagOrd.cmp.Goals as goal

-- the order of subtags is that of their numbers
pub returns : goal.returns
returns c =
    c.cmp.ensures ∙ ap₂ nat_cmp c.number.ensures.number c.number-2.ensures.number
    ∙ sym (numbers_ordered c.args.self.now c.args.other.now (subtag_few c.args.self.now c.number.ensures.subtag)
    (subtag_few c.args.other.now c.number-2.ensures.subtag))
