use Rattle.std.proofs.Common.{◌≡◌, ◌∙◌, sym, take, true, false}
use Rattle.lt_rows.specs.Rows.{HasReturn}
use Rattle.lt_rows.proofs.LookLemmas.{field_skips, line_returns}
use Rattle.lt_rows.proofs.RowLemmas.{skips_none}
use Rattle.lt_rows.proofs.looks.look_at.Goals as goal
use Rattle.lt_rows.proofs.looks.look_at.Goals.{After-field_at, else-not-is_line-via-then-not-is_line+else-has_return}
use Rattle.lt_rows.proofs.looks.look_at.Goals.{else-not-is_line-via-else-not-is_line}

-- The clause of `look_at`, IsLookAt, at its three ends: whether the row ends within quotes (`ends`), and what was found
-- in it (`found`).

-- a carriage return is outside of quotes, and the end of the row is found from its first field on
pub returns-then-has_return : goal.returns-then-has_return
returns-then-has_return c = record {
  ends = c.is_open.ensures 0 (skips_none c.args.separator (take c.args.count c.args.text.now));
  found = c.has_return.ensures.0 c.if-has_return.true;
}

-- no carriage return is outside of quotes
no_return : (c : After-field_at) → HasReturn c.args.separator (take c.args.count c.args.text.now) → ⊥
no_return c = λ returns. elim c.else-not-is_line.branch [
  | else-not-is_line-via-then-not-is_line+else-has_return w ↦ let bad : true ≡ false =
      sym (w.has_return.ensures.1 returns) ∙ w.if-has_return.false in cc
  | else-not-is_line-via-else-not-is_line w ↦ line_returns c.args.separator (take c.args.count c.args.text.now)
      (c.is_plain_line-is_line.ensures.0 w.if-not-is_line.false) returns
]

-- there is such a field, and the end of the row is found from its start on
pub returns-in-Some : goal.returns-in-Some
returns-in-Some c = record {
  ends = c.is_open-in-Some.ensures c.args.before
      (field_skips c.args.separator c.args.before (take c.args.count c.args.text.now) c.in-Some.start c.in-Some.end
      c.in-Some.ensures);
  found = (no_return (goal.at.returns-in-Some c).After-field_at, c.text_at.ensures c.args.before c.in-Some.ensures);
}

-- there is no such field, and the end of the row is found from its first field on
pub returns-in-None : goal.returns-in-None
returns-in-None c = record {
  ends = c.is_open-in-None.ensures 0 (skips_none c.args.separator (take c.args.count c.args.text.now));
  found = (no_return (goal.at.returns-in-None c).After-field_at, c.in-None.ensures);
}
