use Rattle.std.proofs.Common.{[], ◌∷◌, refl, string_bytes}
use Rattle.lt_words.proofs.reading.read_csv.Goals as goal

-- the registry and the column are the values that are given, and each option is as the matches have it
pub returns-clause-named : goal.returns-clause-named
returns-clause-named c = record {
  rows = _;
  named = refl;
  texts = string_bytes c.in_ok-registry.registry ∷ string_bytes c.in_ok-registry.column ∷ [];
  given = c.in_ok-registry.ensures.values;
  values = (
    string_bytes c.in_ok-registry.column,
    rw c.deref.ensures at c.in_ok-column_of.ensures.column,
    c.in_ok-column_of.ensures.fits,
    refl,
  );
  options = (c.is_flagged-summary.ensures, refl, c.in_ok-delimiter.ensures.given, (c.is_flagged.ensures, c.in_ok-option_of.ensures));
}
