use Rattle.std.proofs.Common.{inl, inr, refl, subst, sym}
use Rattle.lt_registry.specs.Validity.{IsProper}
use Rattle.lt_answers.specs.Verifying.{VerifiesLines}
use Rattle.lt_tool.proofs.running.verify.Goals as goal

-- a valid tag is proper, as is asked of the tag that is explained
pub verify_lines-requires : goal.verify_lines-requires
verify_lines-requires g c = subst (λ l. IsProper (g.L.Lookup.listed l) c.in-Ok.tag) (sym c.table.ensures.value) c.in-Ok.ensures.valid.proper

-- the text is a valid tag, and the lines are judged as its explanation
pub returns-in-Ok : goal.returns-in-Ok
returns-in-Ok g c = inr (
  c.in-Ok.tag,
  c.verify_lines.result,
  c.in-Ok.ensures.read,
  c.in-Ok.ensures.valid,
  subst (λ l. VerifiesLines (g.L.Lookup.listed l) c.in-Ok.tag g.I.Read.remaining c.args.input.now
      c.verify_lines.new.input c.verify_lines.result) c.table.ensures.value c.verify_lines.ensures,
  c.judged.ensures,
)

-- the text is no valid tag, and no line is read
pub returns-in-Err : goal.returns-in-Err
returns-in-Err g c = inl (c.in-Err.refusal, c.in-Err.ensures.refusal, refl, refl)
