-- What the crates above use of UsualForms: a langtag whose subtags *stay* as they are is its own canonical form.
pub use Rattle.lt_canon.proofs.UsualForms.{stays_canonical}
