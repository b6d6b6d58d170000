use Rattle.std.proofs.Common.{◌≡◌, true, false}
use Rattle.lt_rows.proofs.SplitLemmas.{no_split}
use Rattle.lt_rows.proofs.looks.is_free_of.Goals as goal

-- the clause where the answer is false: the byte was found, so the text is not free of it
pub returns-in-Some : goal.returns-in-Some
returns-in-Some c = (
  λ told. let bad : false ≡ true = told in cc,
  λ free. absurd (no_split c.args.byte c.args.text.now _ _ free c.in-Some.ensures.1),
)
