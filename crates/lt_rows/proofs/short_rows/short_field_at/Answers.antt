use Rattle.std.proofs.Common.{◌≡◌, ℕ, arith, drop, length-take-le, subst, take}
use Rattle.lt_rows.specs.Lanes.{AreBitsFrom}
use Rattle.lt_rows.specs.Rows.{Skips}
use Rattle.lt_rows.proofs.PlainLemmas.{field_to_end, field_up_to, no_more, one_more}
use Rattle.lt_rows.proofs.RowLemmas.{skips_none}
use Rattle.lt_rows.proofs.short_rows.short_field_at.Goals as goal
use Rattle.lt_rows.proofs.short_rows.short_field_at.Goals.{After-loop-field}

-- The invariant before the loop and after a turn, that a sum doesn't overflow, and the clause of `short_field_at` at
-- its ends: HasFewer where the answer is None, and else IsFieldAt.

-- before the loop no field is skipped, and the bits are those of all separators of the row
pub loop-field-init : goal.loop-field-init
loop-field-init c = (
  omega arith,
  skips_none c.args.separator (take c.args.count c.args.text.now),
  subst (λ (byte : ℕ). AreBitsFrom byte 0 (take c.args.count c.args.text.now) c.bits_in-bits.result) c.byte.ensures c.bits_in-bits.ensures,
)

-- the place of a separator is in the row, which has less than 64 bytes
pub overflow_add-start : goal.overflow_add-start
overflow_add-start c =
    let i = c.loop-field.invariant in
    omega (
      arith,
      c.in-Some.ensures.inside _ _ _ i.2,
      length-take-le c.args.count c.args.text.now
          (omega (arith, c.requires.near.0, c.requires.near.1)),
      c.requires.near.0,
    )

-- no separator is left, and one field more was to be skipped, so the row has too few
pub returns-in-None : goal.returns-in-None
returns-in-None c =
    let i = c.loop-field.invariant in
    no_more c.args.separator c.loop-field._field c.loop-field.start (take c.args.count c.args.text.now) c.requires.plain
    i.1 c.args.before (omega (arith, c.loop-field-test.true))
    (c.in-None.ensures.next _ _ _ i.2)

-- a turn skips one field more, up to the next separator
pub loop-field-preserved : goal.loop-field-preserved
loop-field-preserved c =
    let i = c.loop-field.invariant in
    let one = one_more c.args.separator c.loop-field._field c.loop-field.start (take c.args.count c.args.text.now)
    c.requires.plain i.1 c.in-Some.end
    (c.in-Some.ensures.next _ _ _ i.2) in (
      omega (
        arith,
        one.0,
        length-take-le c.args.count c.args.text.now
            (omega (arith, c.requires.near.0, c.requires.near.1)),
      ),
      one.1,
      c.in-Some.ensures.rest _ _ _ i.2,
    )

-- each field was skipped
skipped : (c : After-loop-field)
    → Skips c.args.separator c.args.before (take c.args.count c.args.text.now) (drop c.loop-field.start
    (take c.args.count c.args.text.now))
skipped c =
    let row = take c.args.count c.args.text.now in
    let all : c.loop-field._field ≡ c.args.before = omega (arith, c.loop-field.auto._field-end, c.loop-field-test.false) in
    subst (λ (n : ℕ). Skips c.args.separator n row (drop c.loop-field.start row)) all c.loop-field.invariant.1

-- the field ends at the next separator
pub returns-in-Some-take_lowest : goal.returns-in-Some-take_lowest
returns-in-Some-take_lowest c =
    let i = c.loop-field.invariant in
    field_up_to c.args.separator c.args.before c.loop-field.start (take c.args.count c.args.text.now) c.requires.plain
    (skipped (goal.at.returns-in-Some-take_lowest c).After-loop-field)
    c.in-Some-take_lowest.end
    (omega (
      arith,
      i.0,
      length-take-le c.args.count c.args.text.now
          (omega (arith, c.requires.near.0, c.requires.near.1)),
    )) (c.in-Some-take_lowest.ensures.next _ _ _ i.2)

-- no separator is left, so the field goes to the end of the row
pub returns-in-None-take_lowest : goal.returns-in-None-take_lowest
returns-in-None-take_lowest c =
    let i = c.loop-field.invariant in
    field_to_end c.args.separator c.args.before c.loop-field.start (take c.args.count c.args.text.now) c.requires.plain
    (skipped (goal.at.returns-in-None-take_lowest c).After-loop-field) c.args.count
    (omega (arith, length-take-le c.args.count c.args.text.now (omega (arith, c.requires.near.0, c.requires.near.1))))
    i.0 (c.in-None-take_lowest.ensures.next _ _ _ i.2)
