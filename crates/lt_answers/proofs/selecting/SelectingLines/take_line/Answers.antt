use Rattle.std.proofs.Common.{[], ◌∷◌, ◌++◌, ◌≡◌, ◌∙◌, true, false, sym, ap, arith, append-nil, append_assoc}
use Rattle.lt_answers.proofs.MatchedLemmas.{selected_tells}
use Rattle.lt_answers.proofs.SelectingLemmas.{owed_few, owed_no, owed_yes}
use Rattle.lt_answers.proofs.selecting.SelectingLines.take_line.Goals as goal

-- That the count doesn't overflow, and what `Lines` promises of a line, TakesLine, selected or not.

-- no more lines are counted than were read, so the count has room for one more
pub overflow_add-self : goal.overflow_add-self
overflow_add-self g c = let r = c.requires in omega (arith, r.few, owed_few _ r.lines r.bytes _ r.answered.3)

-- the line is not selected: nothing is to be written for it, and the count stays
pub returns-then-not-branch : goal.returns-then-not-branch
returns-then-not-branch g c =
    let here = c.args.self.now in
    let not = c.if-not-branch.true in
    record {
      part = [];
      grown = sym (append-nil c.args.owed.now.items);
      taken = λ line one kept first lines bytes q. (
        q.0,
        q.1,
        q.2,
        owed_no _ (selected_tells (g.L.Lookup.listed here.table.now) here.scheme here.ranges.now)
            lines bytes line c.args.line.now here.count kept q.3
            (λ is. let bad : true ≡ false = sym (c.in_ok-is_selected.ensures.1 is) ∙ not in cc),
      );
    }

-- the line is selected: it is to be written with a line feed (10), and is counted
pub returns : goal.returns
returns g c =
    let here = c.args.self.now in
    let yes = c.if-not-branch.false in
    record {
      part = c.args.line.now ++ 10 ∷ [];
      grown = c.in_ok-push.ensures.items ∙ ap (λ l. l ++ 10 ∷ []) c.in_ok-extend_from_slice.ensures.items
          ∙ append_assoc c.args.owed.now.items c.args.line.now (10 ∷ []);
      taken = λ line one kept first lines bytes q. (
        q.0,
        q.1,
        q.2,
        owed_yes _ (selected_tells (g.L.Lookup.listed here.table.now) here.scheme here.ranges.now)
            lines bytes line c.args.line.now here.count kept q.3 (c.in_ok-is_selected.ensures.0 yes),
      );
    }
