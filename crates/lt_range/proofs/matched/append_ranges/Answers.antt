use Rattle.lt_range.proofs.PlainRanges.{unread, unvalid, plain_ok, plain_err}
use Rattle.lt_range.proofs.matched.append_ranges.Goals as goal

-- the text is no tag, so it matches by the range that it is, if it is one
pub returns-in-Err-NotATag-clause-appended : goal.returns-in-Err-NotATag-clause-appended
returns-in-Err-NotATag-clause-appended g c =
    let R = g.L.Lookup.listed c.args.table.now in
    let text = c.args.text.now in
    plain_ok R text c.append_plain.result _ _ (unread R text c.in-Err-NotATag.field-0 c.in-Err-NotATag.field-0-0
    c.in-Err-NotATag.field-0-is c.in-Err-NotATag.ensures.refusal) c.append_plain.ensures.appended

-- the text is no tag, so it is refused exactly if it is no range
pub returns-in-Err-NotATag-clause-refusal : goal.returns-in-Err-NotATag-clause-refusal
returns-in-Err-NotATag-clause-refusal g c =
    let R = g.L.Lookup.listed c.args.table.now in
    let text = c.args.text.now in
    plain_err R text c.append_plain.result (unread R text c.in-Err-NotATag.field-0 c.in-Err-NotATag.field-0-0
    c.in-Err-NotATag.field-0-is c.in-Err-NotATag.ensures.refusal) c.append_plain.ensures.refusal

-- the text is no valid tag, so it matches by the range that it is, if it is one
pub returns-in-Err-Invalid-clause-appended : goal.returns-in-Err-Invalid-clause-appended
returns-in-Err-Invalid-clause-appended g c =
    let R = g.L.Lookup.listed c.args.table.now in
    let text = c.args.text.now in
    plain_ok R text c.append_plain-in-Err-Invalid.result _ _
    (unvalid R text c.in-Err-Invalid.field-0 c.in-Err-Invalid.field-0-0 c.in-Err-Invalid.field-0-is
    c.in-Err-Invalid.ensures.refusal) c.append_plain-in-Err-Invalid.ensures.appended

-- the text is no valid tag, so it is refused exactly if it is no range
pub returns-in-Err-Invalid-clause-refusal : goal.returns-in-Err-Invalid-clause-refusal
returns-in-Err-Invalid-clause-refusal g c =
    let R = g.L.Lookup.listed c.args.table.now in
    let text = c.args.text.now in
    plain_err R text c.append_plain-in-Err-Invalid.result
    (unvalid R text c.in-Err-Invalid.field-0 c.in-Err-Invalid.field-0-0 c.in-Err-Invalid.field-0-is
    c.in-Err-Invalid.ensures.refusal) c.append_plain-in-Err-Invalid.ensures.refusal
