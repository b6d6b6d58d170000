use Rattle.std.proofs.Common.{◌≡◌, ◌∙◌, ◌&&◌, true, false, sym, ap}
use Rattle.std.specs.Prelude.{is_some}
use Rattle.lt_codes.specs.Rows.{code_of}
use Rattle.lt_codes.proofs.SplitLemmas.{range_found, range_none}
use Rattle.lt_codes.proofs.rows.is_range.Goals as goal

-- what is after the first hyphen is a code, so the field is a range if what is before it is one too
pub returns-then-is_some : goal.returns-then-is_some
returns-then-is_some c =
    let found = range_found c.args.field.now c.in-Some.first.now c.in-Some.last.now c.in-Some.ensures in
    let last : is_some (code_of 3 c.in-Some.last.now) ≡ true = sym (c.is_some.ensures ∙ ap is_some c.code_of.ensures) ∙ c.if-is_some.true in
    c.is_some-then-is_some.ensures ∙ ap is_some c.code_of-then-is_some.ensures
    ∙ ap (λ b. b && is_some (code_of 3 c.in-Some.first.now)) (sym last) ∙ sym found

-- what is after the first hyphen is no code, so the field is no range
pub returns-else-is_some : goal.returns-else-is_some
returns-else-is_some c =
    let found = range_found c.args.field.now c.in-Some.first.now c.in-Some.last.now c.in-Some.ensures in
    let last : is_some (code_of 3 c.in-Some.last.now) ≡ false = sym (c.is_some.ensures ∙ ap is_some c.code_of.ensures)
    ∙ c.if-is_some.false in
    c.if-is_some.false ∙ ap (λ b. b && is_some (code_of 3 c.in-Some.first.now)) (sym last) ∙ sym found

-- a field without a hyphen is no range
pub returns-in-None : goal.returns-in-None
returns-in-None c = sym (range_none c.args.field.now c.in-None.ensures)
