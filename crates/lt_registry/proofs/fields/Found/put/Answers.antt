use Rattle.std.proofs.Common.{ap, sym, ◌∙◌}
use Rattle.lt_registry.specs.RecordSteps.{field_told}
use Rattle.lt_registry.proofs.FoundLemmas.{found_date, found_other, found_subtag, found_tag, found_type, found_value}
use Rattle.lt_registry.proofs.fields.Found.put.Goals as goal

-- To show of each name: what is noted is true of the fields with one more. The first field Type gives its place, and a
-- further one is a repeat.
pub returns-in-Type : goal.returns-in-Type
returns-in-Type c = λ r f l n h.
    rw (c.or-self.ensures, c.is_some.ensures)
    (found_type r f c.args.place c.args.self.now l h (ap field_told n ∙ sym c.field_name.ensures ∙ c.in-Type.is))

-- the first field Subtag gives its place, and a further one is a repeat
pub returns-in-Subtag : goal.returns-in-Subtag
returns-in-Subtag c = λ r f l n h.
    rw (c.or-self-in-Subtag.ensures, c.is_some-in-Subtag.ensures)
    (found_subtag r f c.args.place c.args.self.now l h (ap field_told n ∙ sym c.field_name.ensures
    ∙ c.in-Subtag.is))

-- the first field Tag gives its place, and a further one is a repeat
pub returns-in-Tag : goal.returns-in-Tag
returns-in-Tag c = λ r f l n h.
    rw (c.or-self-in-Tag.ensures, c.is_some-in-Tag.ensures)
    (found_tag r f c.args.place c.args.self.now l h (ap field_told n ∙ sym c.field_name.ensures ∙ c.in-Tag.is))

-- the first field Preferred-Value gives its place, and a further one is a repeat
pub returns-in-PreferredValue : goal.returns-in-PreferredValue
returns-in-PreferredValue c = λ r f l n h.
    rw (c.or-self-in-PreferredValue.ensures, c.is_some-in-PreferredValue.ensures)
    (found_value r f c.args.place c.args.self.now l h (ap field_told n ∙ sym c.field_name.ensures
    ∙ c.in-PreferredValue.is))

-- a field File-Date is noted without its place, and is no repeat
pub returns-in-FileDate : goal.returns-in-FileDate
returns-in-FileDate c = λ r f l n h. found_date r f c.args.place c.args.self.now l h (ap field_told n
    ∙ sym c.field_name.ensures ∙ c.in-FileDate.is)

-- a field of any other name changes nothing of what is found
pub returns-in-Other : goal.returns-in-Other
returns-in-Other c = λ r f l n h. found_other r f c.args.place c.args.self.now l h (ap field_told n
    ∙ sym c.field_name.ensures ∙ c.in-Other.is)
