use Rattle.std.proofs.Common.{rules, ◌+◌, ℕ, subst, sym}
use Rattle.bcp47_c.specs.Replacing.{IsNoValue}
use Rattle.bcp47_c.proofs.Replaced.{foreign_value}
use Rattle.bcp47_c.proofs.replacing.read_value.Goals as goal

-- the value is read as a langtag, but its part at this index is in another section, so it is no value (Misplaced)
pub returns-in-Some-clause-none : goal.returns-in-Some-clause-none
returns-in-Some-clause-none c =
    subst (λ (fault : ℕ). IsNoValue c.args.section c.args.value.now
    (record { status = 1; detail = fault; place = c.in-Some.index + 1 })) (sym c.tag_fault.ensures)
    (foreign_value c.args.section c.args.value.now c.deref.result.now c.in-Ok.tag c.deref-2.result.now c.in-Some.index
    c.in_ok-langtag.langtag (search rules) c.in-Ok.ensures.short c.in-Ok.ensures.tag c.in-Ok.ensures.spelled
    (search rules) (search rules) (search rules))
