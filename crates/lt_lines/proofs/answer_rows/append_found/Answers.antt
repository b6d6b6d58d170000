use Rattle.std.proofs.Common.{◌≡◌, ◌-◌, ◌++◌, [], ◌∙◌, ℕ, List, ap, drop, length, subst, take}
use Rattle.std.proofs.lemmas.List.{take_rest}
use Rattle.std.proofs.lemmas.Result.{IfOk-weaker}
use Rattle.lt_jar.specs.Lines.{content_of}
use Rattle.lt_codes.specs.Codes.{registered_text}
use Rattle.lt_canon.specs.Texts.{AppendsCanonicalText, IsTextRefusal}
use Rattle.lt_lines.specs.Answering.{AppendsKept, EndsRefused}
use Rattle.lt_lines.specs.Owed.{ground_of, row_line}
use Rattle.lt_lines.proofs.RowLemmas.{found_answered, found_kept, found_refused, text_within}
use Rattle.lt_lines.proofs.answer_rows.append_found.Goals as goal
use Rattle.lt_lines.proofs.answer_rows.append_found.Goals.{After-append_field, After-without_return-row}

-- The clause `owed` of `append_found` comes last: the row is answered, refused, or kept (`--keep`).

-- the text of the field is the same bytes of the piece and of the row
text_is : (g : _) (c : After-without_return-row g)
    → take (c.args.place.end - c.args.place.start) (take (length c.args.text.now - c.args.place.start)
    (drop c.args.place.start c.args.text.now))
    ≡ take (c.args.place.end - c.args.place.start) (drop c.args.place.start (content_of (take c.args.count c.args.text.now)))
text_is g c = text_within c.args.text.now c.args.count c.args.place c.requires.count c.requires.place.ordered c.requires.place.inside

-- the rest of the row from the place `at` on, as a slice and as a list
rest_is : (g : _) (c : After-without_return-row g) (at : ℕ)
    → take (length c.without_return-row.result.now - at) (drop at c.without_return-row.result.now)
    ≡ drop at (content_of (take c.args.count c.args.text.now))
rest_is g c at = take_rest c.without_return-row.result.now at ∙ ap (drop at) c.without_return-row.ensures

-- before the field is answered, what was appended is the row in front of the field's text
front_is : (g : _) (c : After-append_field g) → c.extend_from_slice.new.self.items
    ≡ c.args.lines.now.items ++ take c.args.place.start (content_of (take c.args.count c.args.text.now))
front_is g c = c.in_ok-extend_from_slice.ensures.items
    ∙ ap (λ (l : List ℕ). c.args.lines.now.items ++ take c.args.place.start l) c.without_return-row.ensures

-- the field has a canonical text, which stands in place of its own, and the fault's field is empty
pub returns-in_ok-end_answered-in-None-clause-owed : goal.returns-in_ok-end_answered-in-None-clause-owed
returns-in_ok-end_answered-in-None-clause-owed g c = λ recent.
    let at = goal.at.returns-in_ok-end_answered-in-None-clause-owed g c in
    let line = take c.args.count c.args.text.now in
    let G = ground_of g.L.Lookup.listed c.args.basis.now in
    let made = rw c.in-None.is at (c.in_ok-append_field.ensures.owed recent) in
    found_answered c.args.separator G c.args.form line c.args.lines.now.items c.extend_from_slice.new.self.items
    c.append_field.new.lines.items c.end_answered.new.lines.items
    c.args.place c.requires.place c.requires.none c.if-form.false (front_is g at.After-append_field)
    (subst (λ (t : List ℕ). AppendsCanonicalText G.entries (registered_text G.codes t)
    c.extend_from_slice.new.self.items c.append_field.new.lines.items) (text_is g at.After-without_return-row) made)
    (c.in_ok-end_answered-in-None.ensures
    ∙ ap (λ (l : List ℕ). c.append_field.new.lines.items ++ row_line c.args.separator l [] line) (rest_is g
    at.After-without_return-row c.args.place.end))

-- the field is refused: the row stays as it was, and the last field says why
pub returns-in_ok-end_refused-in-Some-clause-owed : goal.returns-in_ok-end_refused-in-Some-clause-owed
returns-in_ok-end_refused-in-Some-clause-owed g c = λ recent.
    let at = goal.at.returns-in_ok-end_refused-in-Some-clause-owed g c in
    let line = take c.args.count c.args.text.now in
    let G = ground_of g.L.Lookup.listed c.args.basis.now in
    let refusal = c.in-Some.refusal in
    let made = rw c.in-Some.is at (c.in_ok-append_field.ensures.owed recent) in
    found_refused c.args.separator G c.args.form line c.args.lines.now.items c.extend_from_slice.new.self.items
    c.append_field.new.lines.items c.end_refused.new.lines.items
    c.args.place c.requires.place c.requires.none c.if-form.false (front_is g at.After-append_field) refusal
    (subst (λ (t : List ℕ). IsTextRefusal G.entries (registered_text G.codes t) refusal)
    (text_is g at.After-without_return-row) made.0) made.1
    (subst (λ (l : List ℕ). EndsRefused c.args.separator refusal l line c.append_field.new.lines.items
    c.end_refused.new.lines.items) (rest_is g at.After-without_return-row c.args.place.start)
    c.in_ok-end_refused-in-Some.ensures)

-- a row that is kept: `append_kept` was given the text of its field
pub returns-then-form-clause-owed : goal.returns-then-form-clause-owed
returns-then-form-clause-owed g c =
    let at = goal.at.returns-then-form-clause-owed g c in
    let line = take c.args.count c.args.text.now in
    let G = ground_of g.L.Lookup.listed c.args.basis.now in
    let old = c.args.lines.now.items in
    let new = c.append_kept.new.lines.items in
    IfOk-weaker c.append_kept.result _ _ (λ refused kept recent. found_kept c.args.separator G c.args.form line old old
    old new c.args.place c.requires.place c.requires.none refused c.if-form.true
    (subst (λ (t : List ℕ). AppendsKept c.args.separator G t line old new refused)
    (text_is g at.After-without_return-row) (kept recent))) c.append_kept.ensures.owed
