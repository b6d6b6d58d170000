use Rattle.std.proofs.Common.{◌∙◌, ℕ, List, ap, length, subst, take}
use Rattle.lt_rows.specs.Looks.{IsLookAt}
use Rattle.lt_lines.proofs.LookLemmas.{content_front, content_lacks}
use Rattle.lt_lines.proofs.line_looks.look_at_row.Goals as goal

-- what `look_at` requires: the row lacks what its line lacks, since it is a front of it
pub look_at-requires-clause-lacks : goal.look_at-requires-clause-lacks
look_at-requires-clause-lacks c =
    rw (c.without_return-row.ensures, content_front c.args.text.now c.args.count c.requires.count)
    (content_lacks (take c.args.count c.args.text.now) c.args.lacks c.requires.lacks)

-- the clause: the bytes that were looked at are the line without the carriage return that may end it
pub returns : goal.returns
returns c =
    let front = ap (λ (l : List ℕ). take (length l) c.args.text.now) c.without_return-row.ensures
    ∙ content_front c.args.text.now c.args.count c.requires.count in
    subst (λ (l : List ℕ). IsLookAt c.args.separator c.args.before l c.look_at.result) front c.look_at.ensures
