use Rattle.std.proofs.Common.{◌≡◌, ◌∙◌, ◌++◌, List, ap, rules, sym, subst}
use Rattle.lt_range.specs.Matched.{AreRangesOf}
use Rattle.lt_range.specs.Ranges.{RangeParts}
use Rattle.bcp47.proofs.registries.Registry.ranges.Goals as goal

-- the ranges are those that were added to none
pub returns-clause-ranges : goal.returns-clause-ranges
returns-clause-ranges c =
    let added = c.in_ok-append_ranges.ensures.appended in
    let same : c.self.inside.table ≡ c.args.self.now = search rules in
    subst (λ (l : List RangeParts). AreRangesOf c.args.self.now c.args.text.now l)
    (sym (added.1 ∙ ap (λ (l : List RangeParts). l ++ added.0) c.new-ranges.ensures.items)) (rw same at added.2)
