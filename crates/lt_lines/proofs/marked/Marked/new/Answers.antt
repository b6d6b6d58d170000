use Rattle.std.proofs.Common.{◌↔◌, IsTrue, not, refl, subst, sym}
use Rattle.lt_lines.specs.Owed.{MayHaveMark}
use Rattle.lt_lines.specs.declared.forms.LineForm.{LineForm}
use Rattle.lt_lines.proofs.TextRunLemmas.{new_text}
use Rattle.lt_lines.proofs.marked.Marked.new.Goals as goal

-- the clause IsNew, for any terms T of this form: nothing was read, and the text has begun already if no mark is looked
-- for
pub returns : goal.returns
returns c = λ T form.
    let new = c.new-answering.ensures in
    let may = c.may_have_mark.result in
    new_text T (record { front = c.new-front.result; is_begun = not may; answering = c.new-answering.result }) may
    (subst (λ (f : LineForm). IsTrue may ↔ MayHaveMark f) (sym form) c.may_have_mark.ensures)
    c.new-front.ensures.items refl
    (record { items = new.items; place = new.place; counts = new.counts; tallies = new.tallies; recent = new.recent })
