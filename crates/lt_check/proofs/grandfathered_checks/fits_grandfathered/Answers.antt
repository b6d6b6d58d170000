use Rattle.std.proofs.Common.{ap, ◌∙◌}
use Rattle.std.specs.List.{list_any}
use Rattle.lt_check.specs.RegularTags.{is_number}
use Rattle.lt_check.proofs.RegularLists.{fits_verdict}
use Rattle.lt_check.proofs.grandfathered_checks.fits_grandfathered.Goals as goal

-- true exactly if the record meets C8: its tag fits, so it does exactly if its number is none of the validating
-- records'
pub returns-then-has_fitting_tag : goal.returns-then-has_fitting_tag
returns-then-has_fitting_tag g c =
    let known = c.has_number.ensures ∙ ap (λ n. list_any (is_number n) c.args.validating.now) c.number.ensures.value in
    fits_verdict (g.L.Lookup.listed c.args.table.now) c.know_entries.ensures.rising c.args.entry.now c.requires.listed
    c.args.validating.now c.requires.validating
    (c.has_fitting_tag.ensures.0 c.if-has_fitting_tag.true) c.has_number.result known
