use Rattle.lt_rows.proofs.FieldLemmas.{line_end_of}
use Rattle.lt_rows.proofs.rows.Separator.field_end.Goals as goal

-- the clause EndsField, where `is_line` says that the rest has no line feeds: a field of CSV without a quote at its
-- front ends at the first delimiter
pub returns-then-is_line : goal.returns-then-is_line
returns-then-is_line c =
    rw c.in-Delimiter.is (line_end_of c.in-Delimiter.delimiter c.args.text.now c.args.count c.begins_quoted.result _
    c.requires.count c.begins_quoted.ensures c.if-begins_quoted.false
    (c.requires.line c.if-is_line.true) c.place_within-then-is_line.ensures)
