use Rattle.std.proofs.Common.{◌++◌, ◌∷◌, [], Ok, codes}
use Rattle.std.proofs.lemmas.Result.{err_from_is_err_and}
use Rattle.lt_stream.specs.DeviceOutput.{WritesText}
use Rattle.lt_stream.specs.Faults.{place_said, tool_name_of}
use Rattle.lt_stream.proofs.DeviceLemmas.{wrote_less, wrote_more}
use Rattle.lt_stream.proofs.device_output.write_fault.Goals as goal
use Rattle.lt_stream.proofs.device_output.write_fault.Goals.{In_ok-write_text-2}

-- Each goal but `named` is the clause of `write_fault`, `WritesText` of the line, at one of its ends.

-- a front of `! ` was written, which is a front of the line too
pub returns-in_err-write_text : goal.returns-in_err-write_text
returns-in_err-write_text g c =
    let p = err_from_is_err_and c.from_residual.result c.from_residual.ensures.1 in
    rw (p.1, p.2) (wrote_less _ (codes "! ") (tool_name_of c.args.fault ++ place_said c.args.fault ++ 10 ∷ []) _ _ _
    c.in_err-write_text.ensures)

-- `! ` and a front of the name were written, which are a front of the line too
pub returns-in_err-write_text-2 : goal.returns-in_err-write_text-2
returns-in_err-write_text-2 g c =
    let p = err_from_is_err_and c.from_residual-in_err-write_text-2.result c.from_residual-in_err-write_text-2.ensures.1 in
    let name = tool_name_of c.args.fault in
    let place = place_said c.args.fault in
    let failed = rw (c.as_bytes.ensures.value, c.name.ensures) at c.in_err-write_text-2.ensures in
    rw (p.1, p.2) (wrote_less _ (codes "! " ++ name ++ place) (10 ∷ []) _ _ _
    (wrote_less _ (codes "! " ++ name) place _ _ _
    (wrote_more _ (codes "! ") name _ _ _ _ c.in_ok-write_text.ensures failed)))

-- `! ` and the name were written
named : (g : _) (c : goal.In_ok-write_text-2 g)
    → WritesText g.W.Write.contents (codes "! " ++ tool_name_of c.args.fault) c.args.output.now
    c.write_text-2.new.output (Ok tt)
named g c = wrote_more _ (codes "! ") _ _ _ _ (Ok tt) c.in_ok-write_text.ensures
    (rw (c.as_bytes.ensures.value, c.name.ensures) at c.in_ok-write_text-2.ensures)

-- `! `, the name and a front of the place were written, which are a front of the line too
pub returns-in_err-write_place : goal.returns-in_err-write_place
returns-in_err-write_place g c =
    let p = err_from_is_err_and c.from_residual-in_err-write_place.result c.from_residual-in_err-write_place.ensures.1 in
    let front = named g (goal.at.returns-in_err-write_place g c).In_ok-write_text-2 in
    rw (p.1, p.2) (wrote_less _ (codes "! " ++ tool_name_of c.args.fault ++ place_said c.args.fault) (10 ∷ []) _ _ _
    (wrote_more _ _ _ _ _ _ _ front c.in_err-write_place.ensures))

-- all before the line feed was written, so the last write tells whether the whole line was
pub returns : goal.returns
returns g c =
    let front = named g (goal.at.returns g c).In_ok-write_text-2 in
    wrote_more _ _ (10 ∷ []) _ _ _ c.write_text-3.result
    (wrote_more _ _ _ _ _ _ (Ok tt) front c.in_ok-write_place.ensures) c.write_text-3.ensures
