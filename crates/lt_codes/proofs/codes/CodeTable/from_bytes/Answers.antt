use Rattle.std.proofs.Common.{inr, List, ℕ, subst}
use Rattle.std.specs.Prelude.{Ok, Err}
use Rattle.lt_codes.specs.Adding.{AddsCodes}
use Rattle.lt_codes.proofs.TableLemmas.{read_next, read_refused}
use Rattle.lt_codes.proofs.codes.CodeTable.from_bytes.Goals as goal

-- this line, without the carriage return that may end it, is the first that is refused
pub returns-in-Err-clause-refused : goal.returns-in-Err-clause-refused
returns-in-Err-clause-refused c =
    let adds = subst (λ (l : List ℕ). AddsCodes c.loop-part.table c.add_line.new.table l (Err c.in-Err.kind))
    c.content.ensures c.in-Err.ensures in
    inr (inr (read_refused c.args.text.now c.loop-part.table c.loop-part.rest.now c.loop-part.line c.loop-part.invariant
    c.in-Some.part.now c.in-Some.after.now c.add_line.new.table c.in-Err.kind c.in-Some.ensures adds))

-- a turn adds the codes of one line more, and counts it
pub loop-part-preserved : goal.loop-part-preserved
loop-part-preserved c =
    let adds = subst (λ (l : List ℕ). AddsCodes c.loop-part.table c.add_line.new.table l (Ok c.in-Ok-add_line.field-0))
    c.content.ensures c.in-Ok-add_line.ensures in
    read_next c.args.text.now c.loop-part.table c.loop-part.rest.now c.loop-part.line c.loop-part.invariant
    c.in-Some.part.now c.in-Some.after.now c.add_line.new.table c.in-Some.ensures adds
