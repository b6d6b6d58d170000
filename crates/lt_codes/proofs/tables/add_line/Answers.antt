use Rattle.std.proofs.Common.{◌∙◌, refl, sym}
use Rattle.lt_codes.proofs.RowLemmas.{are_codes, row_is}
use Rattle.lt_codes.proofs.TableLemmas.{range_adds, row_adds}
use Rattle.lt_codes.proofs.tables.add_line.Goals as goal

-- The call adds the codes of the line or refuses it, as AddsCodes says. Here the line is a range, and adds none.
pub returns-then-are_of_range : goal.returns-then-are_of_range
returns-then-are_of_range c =
    let f = c.in-Some.fields in
    range_adds c.args.table.now c.args.table.now c.args.line.now f.bibliographic.now f.terminologic.now
    f.two_letters.now c.in-Ok.ensures.cases.1 c.in-Some.ensures (sym c.are_of_range.ensures
    ∙ c.if-are_of_range.true) refl

-- the fields have the forms of codes, so the codes of the row are three letters, as `add_row` asks
pub add_row-requires : goal.add_row-requires
add_row-requires c =
    let f = c.in-Some.fields in
    are_codes c.in-Some-row.row (row_is f.bibliographic.now f.terminologic.now f.two_letters.now c.in-Some-row.row
    (sym c.row.ensures ∙ c.in-Some-row.is))

-- the line has the codes of its row, and is refused if that is
pub returns-in-Some-row : goal.returns-in-Some-row
returns-in-Some-row c =
    let f = c.in-Some.fields in
    row_adds c.args.table.now c.add_row.new.table c.args.line.now f.bibliographic.now f.terminologic.now
    f.two_letters.now c.in-Ok.ensures.cases.1 c.in-Some.ensures c.in-Some-row.row c.add_row.result
    (sym c.are_of_range.ensures ∙ c.if-are_of_range.false) (sym c.row.ensures ∙ c.in-Some-row.is) c.add_row.ensures
