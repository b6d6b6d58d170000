use Rattle.std.proofs.Common.{◌∙◌, ap, drop, subst, sym, take}
use Rattle.lt_rows.specs.Quotes.{is_quoted}
use Rattle.lt_rows.specs.Rows.{Skips}
use Rattle.lt_rows.specs.declared.rows.Separator.{Separator}
use Rattle.lt_rows.proofs.LookLemmas.{open_from}
use Rattle.lt_rows.proofs.looks.is_open.Goals as goal

-- the clause where the delimiter is no quote (34): a field begins outside of quotes, so the row ends within quotes
-- exactly if its rest from `start` on does
pub returns-else-delimiter-eq34 : goal.returns-else-delimiter-eq34
returns-else-delimiter-eq34 c = λ before skipped.
    let row = take c.args.count c.args.text.now in
    let rest = drop c.args.start row in
    let d = c.in-Delimiter.delimiter in
    let s = subst (λ (S : Separator). Skips S before row rest) c.in-Delimiter.is skipped in
    rw c.in-Delimiter.is (c.is_open_from-else-delimiter-eq34.ensures
    ∙ ap is_quoted (sym (open_from d c.if-delimiter-eq34.false before row rest s)))
