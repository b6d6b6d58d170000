-- What the crates above use of RepeatedVariants: a variant that steps can repeat is repeated in the end form of the
-- tag, the canonical form is the end form, and steps can repeat a variant of equivalent valid tags together.
pub use Rattle.lt_canon.proofs.RepeatedVariants.{repeats_at_end, form_is_end, repeat_together}
