use Rattle.std.proofs.Common.{◌∙◌, sym}
use Rattle.lt_check.proofs.checking.meets_each.Goals as goal
use Rattle.lt_check.proofs.checking.meets_each.Goals.{then-has_fitting_prefixes, else-has_fitting_prefixes}
use Rattle.lt_check.proofs.checking.meets_each.Goals.{then-has_fitting_value, else-has_fitting_value}

-- where true is answered, the record meets each condition that is decided record by record: the tests of value,
-- Prefixes and whole tag held, and the last, that of C12, gives the answer
pub returns-then-has_valid_whole : goal.returns-then-has_valid_whole
returns-then-has_valid_whole g c = λ no_range.
    elim c.if-has_fitting_prefixes.branch [
      | then-has_fitting_prefixes w ↦ elim c.if-has_fitting_value.branch [
        | then-has_fitting_value v ↦ record {
          fitting_value = c.has_fitting_value.ensures v.if-has_fitting_value.true;
          fitting_prefixes = v.has_fitting_prefixes.ensures (sym v.value-is ∙ w.if-has_fitting_prefixes.true);
          valid_whole = w.has_valid_whole.ensures.0 (sym w.value-is ∙ c.if-has_valid_whole.true);
          no_range_value = c.has_no_range_value.ensures.0 no_range;
        }
        | else-has_fitting_value v ↦ cc (sym v.value-is ∙ w.if-has_fitting_prefixes.true)
      ]
      | else-has_fitting_prefixes w ↦ absurd (cc (w.value-is, c.if-has_valid_whole.true))
    ]
