use Rattle.std.proofs.Common.{◌≢◌, ℕ, List, Some, arith, length-take-le, subst, sym, take}
use Rattle.std.proofs.lemmas.List.Elements.{All-drop}
use Rattle.lt_rows.specs.Rows.{EndsField, IsRowField}
use Rattle.lt_rows.specs.Splitting.{IsFreeOf}
use Rattle.lt_rows.proofs.FieldLemmas.{field_ended, field_last, left_is}
use Rattle.lt_rows.proofs.rows.field_at.Goals as goal

-- What `field_end` requires, and the clause of `field_at`, IsFieldAt, at its two last ends.

-- a row without line feeds (10) has none in its rest either
pub field_end-requires-clause-line : goal.field_end-requires-clause-line
field_end-requires-clause-line c = λ is.
    let start = c.in_ok-start.start in
    subst (IsFreeOf 10) (sym (left_is c.args.text.now c.args.count start c.in_ok-start.ensures.0))
    (All-drop (λ (b : ℕ). b ≢ 10) start (take c.args.count c.args.text.now) (c.requires.line is))

-- the field begins behind the skipped ones, and ends at the separator that was found
pub returns-in-Some : goal.returns-in-Some
returns-in-Some c =
    let start = c.in_ok-start.start in
    let ends = subst (λ (l : List ℕ). EndsField c.args.separator l (Some c.in-Some.end))
    (left_is c.args.text.now c.args.count start c.in_ok-start.ensures.0) c.in-Some.ensures in
    field_ended c.args.separator c.args.before start c.in-Some.end (take c.args.count c.args.text.now)
    (omega (arith, c.in_ok-start.ensures.0, length-take-le c.args.count c.args.text.now c.requires.count)) c.in_ok-start.ensures.1 ends

-- the field begins behind the skipped ones, and no separator ends it, so it goes to the end of the row
pub returns-in-None : goal.returns-in-None
returns-in-None c =
    let start = c.in_ok-start.start in
    let row = take c.args.count c.args.text.now in
    field_last c.args.separator c.args.before start c.args.count row
    (omega (arith, length-take-le c.args.count c.args.text.now c.requires.count)) c.in_ok-start.ensures.0
    c.in_ok-start.ensures.1
    (subst (IsRowField c.args.separator) (left_is c.args.text.now c.args.count start c.in_ok-start.ensures.0) c.in-None.ensures)
