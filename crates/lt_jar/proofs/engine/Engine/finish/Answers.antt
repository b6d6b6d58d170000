use Rattle.std.proofs.Common.{◌∙◌, ◌≡◌, arith, [], refl, sym, ap, subst, append-nil, length}
use Rattle.std.proofs.lemmas.Bool.{both_ways, eqb-false, eqb-true, not-false, not-true}
use Rattle.std.proofs.lemmas.List.{nil_from_length}
use Rattle.std.proofs.lemmas.Result.{err_from_is_err_and}
use Rattle.lt_jar.specs.Pieces.{fields_in, last_line}
use Rattle.lt_jar.specs.Reading.{going_on, steps, take_line}
use Rattle.lt_jar.specs.Views.{IsSaid}
use Rattle.lt_jar.proofs.TurnLemmas.{last_some}
use Rattle.lt_jar.proofs.ReadingLemmas.{last_taken}
use Rattle.lt_jar.proofs.engine.Engine.finish.Goals as goal

-- The engine did with the end of the text what `FinishesOr` says. Here no bytes are kept, so no line is left, and the
-- fields so far are the last record, if there are any.
pub returns-then-is_empty : goal.returns-then-is_empty
returns-then-is_empty c =
    let old = c.args.self.now in
    let none : old.partial.items ≡ [] = nil_from_length old.partial.items (sym old.partial.ok.0
    ∙ eqb-true _ 0 (sym c.is_empty.ensures ∙ c.if-is_empty.true)) in
    record {
      going = record { records = []; fields = fields_in old };
      ran = ap (λ l. steps old.ended (going_on (fields_in old)) (last_line l)) none;
      record_is = refl;
      with_fields = λ is none. both_ways _ (not-true _ is) (c.is_empty-then-is_empty.ensures.1 none);
      without = λ is. c.is_empty-then-is_empty.ensures.0 (not-false _ is);
      line = omega (arith, ap (λ l. length (last_line l)) none);
      ended = refl;
      empty = none;
    }

-- the kept bytes are the last line, which is refused
pub returns-in_err-end_line : goal.returns-in_err-end_line
returns-in_err-end_line c =
    let p = err_from_is_err_and c.from_residual.result c.from_residual.ensures.1 in
    let old = c.args.self.now in
    let ensures = c.in_err-end_line.ensures in
    let counted = ensures.counted c.requires.begun in
    rw (p.1, p.2) (record {
      some = λ none. eqb-false _ 0 (sym c.is_empty.ensures ∙ c.if-is_empty.false) (old.partial.ok.0 ∙ ap length none);
      said = subst (λ l. IsSaid c.in_err-end_line.field-0.0 (take_line old.ended (fields_in old) l))
          (append-nil old.partial.items) ensures.taken;
      line = counted.0;
      ended = ensures.ended;
      begun = counted.1;
    })

-- the kept bytes are the last line, and the fields after it are the last record, if there are any
pub returns : goal.returns
returns c =
    let old = c.args.self.now in
    let new = c.end_line.new.self in
    let line = old.partial.items in
    let ensures = c.in_ok-end_line.ensures in
    let counted = ensures.counted c.requires.begun in
    let last = last_some line (λ none. eqb-false _ 0 (sym c.is_empty.ensures ∙ c.if-is_empty.false) (old.partial.ok.0 ∙ ap length none)) in
    let taken = last_taken old.ended (fields_in old) (fields_in new) line c.in_ok-end_line.field-0
    (ap (λ l. take_line old.ended (fields_in old) l) (sym (append-nil line)) ∙ ensures.taken) in
    record {
      going = taken.0;
      ran = ap (λ l. steps old.ended (going_on (fields_in old)) l) last ∙ taken.1;
      record_is = taken.2;
      with_fields = λ is none. both_ways _ (not-true _ is) (c.is_empty-2.ensures.1 none);
      without = λ is. c.is_empty-2.ensures.0 (not-false _ is);
      line = omega (arith, counted.0, ap length last);
      ended = ensures.ended;
      empty = counted.1;
    }
