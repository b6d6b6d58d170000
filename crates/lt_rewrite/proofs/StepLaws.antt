-- What other crates use of single steps: their kind and place determine their record and result, the ranks and places
-- of core steps are within bounds, and so is the number of the subtags of extensions.
pub use Rattle.lt_rewrite.proofs.CoreLeading.{core_rank, core_low, core_high}
pub use Rattle.lt_rewrite.proofs.TagLeading.{steps_determined}
pub use Rattle.lt_rewrite.proofs.TagLeading.{fits, few_subtags}
