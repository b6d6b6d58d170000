use Rattle.std.proofs.Common.{◌||◌, [], ap, ◌∙◌, sym}
use Rattle.lt_registry.specs.Checking.{variants_check}
use Rattle.lt_registry.proofs.VariantFaultLemmas.{differing_pass}
use Rattle.lt_registry.proofs.validity.check_variants.Goals as goal
use Rattle.lt_registry.proofs.validity.check_variants.Goals.{then-may_repeat, else-may_repeat}

-- the check without a search for repeats answers the same: if the variants are known to differ, that search would find
-- none
pub returns : goal.returns
returns g c =
    let R = g.L.Lookup.listed c.args.table.now in
    let vs = c.args.variants.now in
    c.check_each_variant.ensures ∙ elim c.if-may_repeat.branch [
      | then-may_repeat w ↦ ap (λ b. variants_check R b c.args.start [] vs) w.differ_or_may_repeat-is
      | else-may_repeat w ↦ ap (λ b. variants_check R b c.args.start [] vs) (w.differ_or_may_repeat-is
          ∙ ap (λ r. r || w.many_differ-differ_or_may_repeat.result) (sym w.if-may_repeat.false))
          ∙ differing_pass R c.args.may_repeat c.args.start vs w.many_differ-differ_or_may_repeat.result
          w.many_differ-differ_or_may_repeat.ensures
    ]
