use Rattle.std.proofs.Common.{arith, inr, refl, ap, length}
use Rattle.std.specs.Str.{is_utf8}
use Rattle.std.proofs.lemmas.Bool.{false_from_ne_true, le-ltb}
use Rattle.std.proofs.lemmas.Str.{IsUtf8-from_is_utf8, is_utf8-from_IsUtf8}
use Rattle.lt_jar.specs.Limits.{longest_line}
use Rattle.lt_jar.specs.LineKinds.{line_of}
use Rattle.lt_jar.specs.Faults as faults
use Rattle.lt_jar.proofs.drafts.Draft.take_line.Goals as goal

-- the answer is that of the definition `take_line`: the line is short and UTF-8, so its kind alone decides
pub returns-in-Ok : goal.returns-in-Ok
returns-in-Ok c =
    let kind = ap line_of c.in-Ok.ensures.cases.0 in
    rw (
      le-ltb longest_line (length c.args.line.now) (omega arith),
      is_utf8-from_IsUtf8 c.args.line.now
          c.in-Ok.ensures.cases.1,
      ← kind,
    ) c.take_short_line.ensures

-- NotUtf8 is the fault that the definition `take_line` gives: the line is short and not UTF-8
pub returns-in-Err : goal.returns-in-Err
returns-in-Err c =
    let line = c.args.line.now in
    inr (
      faults.NotUtf8,
      refl,
      rw (
        le-ltb longest_line (length line) (omega arith),
        false_from_ne_true (is_utf8 line)
            (λ is. c.in-Err.ensures.cases.0 (IsUtf8-from_is_utf8 line is)),
      ) refl,
    )
