use Rattle.std.proofs.Common.{refl}
use Rattle.std.proofs.lemmas.Result.{on_ok_weaker}
use Rattle.lt_lines.proofs.answering.Answering.end_line.Goals as goal

-- the clause `taken` for a tag, which is that of `answer_line`: no line of a tag goes on after a line feed, and none is
-- too long
pub returns-in-Tag-clause-taken : goal.returns-in-Tag-clause-taken
returns-in-Tag-clause-taken g c =
    rw c.in-Tag.is (on_ok_weaker c.answer_line.result (λ taken bytes out one room t. taken bytes out
    (record { one = one; closed = refl; short = tt }) t) c.answer_line.ensures.taken)
