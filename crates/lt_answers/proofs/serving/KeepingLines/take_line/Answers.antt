use Rattle.std.proofs.Common.{[], ◌∙◌, append-nil, sym}
use Rattle.std.proofs.lemmas.Result.{on_ok_weaker}
use Rattle.lt_answers.proofs.serving.KeepingLines.take_line.Goals as goal

-- what `Lines` promises of a line, TakesLine: nothing is written for it, and it is kept if it is a tag
pub returns : goal.returns
returns g c = on_ok_weaker c.take_tag.result (λ takes. record {
  part = [];
  grown = sym (append-nil c.args._owed.now.items);
  taken = λ line one kept first lines bytes q. (q.0, append-nil bytes ∙ q.1, takes lines line kept q.2);
}) c.take_tag.ensures
