use Rattle.std.proofs.Common.{◌≡◌, ◌++◌, ◌∷◌, [], refl}
use Rattle.lt_jar.specs.Lines.{content_of}
use Rattle.lt_rows.specs.Rows.{separator}
use Rattle.lt_lines.proofs.RowLemmas.{kept_answered, kept_refused}
use Rattle.lt_lines.proofs.answer_rows.append_kept.Goals as goal
use Rattle.lt_lines.proofs.answer_rows.append_kept.Goals.{After-append_field}

-- The clause `owed` of `append_kept`: the field has a canonical text, or is refused.

-- the row and a separator are in front of what is added
front : (g : _) (c : goal.After-append_field g)
    → c.push.new.self.items ≡ (c.args.lines.now.items ++ content_of c.args.line.now) ++ separator c.args.separator ∷ []
front g c = rw (c.in_ok-push.ensures.items, c.in_ok-extend_from_slice.ensures.items, c.without_return.ensures, c.byte.ensures) refl

-- the field has a canonical text, which is added, and then an empty field
pub returns-in_ok-end_answered-in-None-clause-owed : goal.returns-in_ok-end_answered-in-None-clause-owed
returns-in_ok-end_answered-in-None-clause-owed g c = λ recent.
    let at = front g (goal.at.returns-in_ok-end_answered-in-None-clause-owed g c).After-append_field in
    let made = rw c.in-None.is at (c.in_ok-append_field.ensures.owed recent) in
    kept_answered _ _ c.args.line.now _ _ _ _ _ at made c.in_ok-end_answered-in-None.ensures

-- the field is refused: an empty field is added, and then why
pub returns-in_ok-end_refused-in-Some-clause-owed : goal.returns-in_ok-end_refused-in-Some-clause-owed
returns-in_ok-end_refused-in-Some-clause-owed g c = λ recent.
    let at = front g (goal.at.returns-in_ok-end_refused-in-Some-clause-owed g c).After-append_field in
    let made = rw c.in-Some.is at (c.in_ok-append_field.ensures.owed recent) in
    kept_refused _ _ c.args.line.now _ _ _ _ _ at c.in-Some.refusal made.0 made.1 c.in_ok-end_refused-in-Some.ensures
