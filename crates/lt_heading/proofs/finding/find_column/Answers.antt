use Rattle.std.proofs.Common.{◌≡◌, ◌∙◌, Ok, Err, ap, option_map}
use Rattle.std.proofs.lemmas.Result.{err_from_is_err_and}
use Rattle.lt_heading.specs.Headings.{heading_in}
use Rattle.lt_heading.proofs.ReadLemmas.{finds_column, finds_fault, finds_no_heading, reads_heading}
use Rattle.lt_heading.proofs.finding.find_column.Goals as goal

-- The clause of `find_column`, FindsColumn, at three of its ends.

-- the heading was not read, and the fault is that of the reading
pub returns-in_err-end : goal.returns-in_err-end
returns-in_err-end g c =
    let p = err_from_is_err_and c.from_residual.result c.from_residual.ensures.1 in
    let fault = c.in_err-end.field-0.0 in
    let reading = reads_heading c.args.separator g.R.Read.remaining c.args.input.now c.run_pieces.new.input
    c.run_pieces.new.pieces (Err fault) c.in_err-end.ensures in
    rw (p.1, p.2) (finds_no_heading c.args.separator c.args.name.now g.R.Read.remaining c.args.input.now
    c.run_pieces.new.input c.run_pieces.new.pieces.first fault reading)

-- the heading was read, but no column has the name alone
pub returns-in_err-number : goal.returns-in_err-number
returns-in_err-number g c =
    let p = err_from_is_err_and c.from_residual-in_err-number.result c.from_residual-in_err-number.ensures.1 in
    let end = c.in_ok-end.end in
    let first = c.run_pieces.new.pieces.first in
    let looked = c.in_ok-looked.ensures in
    let reading = reads_heading c.args.separator g.R.Read.remaining c.args.input.now c.run_pieces.new.input
    c.run_pieces.new.pieces (Ok end) c.in_ok-end.ensures in
    let heading = c.heading_in-heading.ensures ∙ ap (λ t. heading_in t end) c.deref.ensures.value in
    rw (p.1, p.2) (finds_fault c.args.separator c.args.name.now g.R.Read.remaining c.args.input.now
    c.run_pieces.new.input first end looked.names c.in_err-number.field-0.0 reading (rw heading at looked.are_names)
    (c.in_err-number.ensures looked.names (rw c.as_bytes.ensures.value at looked.is_found) looked.listed))

-- the heading was read, one column alone has the name, and all bytes that were read are kept
pub returns : goal.returns
returns g c =
    let end = c.in_ok-end.end in
    let first = c.run_pieces.new.pieces.first in
    let looked = c.in_ok-looked.ensures in
    let reading = reads_heading c.args.separator g.R.Read.remaining c.args.input.now c.run_pieces.new.input
    c.run_pieces.new.pieces (Ok end) c.in_ok-end.ensures in
    let heading = c.heading_in-heading.ensures ∙ ap (λ t. heading_in t end) c.deref.ensures.value in
    finds_column c.args.separator c.args.name.now g.R.Read.remaining c.args.input.now c.run_pieces.new.input first end
    looked.names (record { number = c.in_ok-number.number; front = c.in_ok-front.front }) reading
    (rw heading at looked.are_names)
    (c.in_ok-number.ensures looked.names (rw c.as_bytes.ensures.value at looked.is_found) looked.listed)
    c.in_ok-front.ensures
