use Rattle.lt_rows.proofs.LaneLemmas.{free_of_rest}
use Rattle.lt_rows.proofs.looks.is_free_from.Goals as goal

-- the clause, in both directions: the front is free of the byte, so the text is free of it exactly if the rest is
pub returns : goal.returns
returns c =
    let rest = free_of_rest c.args.byte c.args.front c.args.text.now c.requires.0 c.requires.1 in
    (λ told. rest.1 (c.is_free_of.ensures.0 told), λ free. c.is_free_of.ensures.1 (rest.0 free))
