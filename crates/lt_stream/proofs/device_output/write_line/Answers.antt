use Rattle.std.proofs.Common.{◌∙◌, List, ℕ, codes, subst, decimal}
use Rattle.std.proofs.lemmas.Result.{err_from_is_err_and}
use Rattle.lt_stream.specs.DeviceOutput.{WritesText}
use Rattle.lt_stream.proofs.DeviceLemmas.{wrote_less, wrote_more}
use Rattle.lt_stream.proofs.device_output.write_line.Goals as goal

-- The clause of `write_line`, `WritesText` of ` line ` and the number, at its two ends.

-- a front of ` line ` was written, which is a front of the whole too
pub returns-in_err-write_text : goal.returns-in_err-write_text
returns-in_err-write_text g c =
    let p = err_from_is_err_and c.from_residual.result c.from_residual.ensures.1 in
    rw (p.1, p.2) (wrote_less g.W.Write.contents (codes " line ") (decimal c.args.line) c.args.output.now
    c.write_text.new.output _ c.in_err-write_text.ensures)

-- ` line ` was written, and then the number in decimal, or a front of it
pub returns : goal.returns
returns g c =
    let contents = g.W.Write.contents in
    let between = c.write_text.new.output in
    let number = subst (λ (l : List ℕ). WritesText contents l between c.write_text-2.new.output c.write_text-2.result)
    (c.as_bytes.ensures.value ∙ c.format.ensures.text) c.write_text-2.ensures in
    (wrote_more contents (codes " line ") (decimal c.args.line) c.args.output.now between c.write_text-2.new.output
    c.write_text-2.result c.in_ok-write_text.ensures number)
