use Rattle.std.proofs.Common.{refl}
use Rattle.lt_rows.proofs.LookLemmas.{text_there}
use Rattle.lt_rows.proofs.looks.text_at.Goals as goal

-- the clause HasTextAt: the text begins behind the quote at the front of the field, if it has one, and is as long as
-- what `text_in` cut out
pub returns : goal.returns
returns c = λ before is. text_there c.args.separator before c.args.row.now c.args.start c.args.end
    c.text_in.result.0.now c.text_in.result.1.now _ is c.text_in.ensures refl refl
