use Rattle.std.proofs.Common.{arith, length}
use Rattle.std.proofs.lemmas.Bool.{le-ltb}
use Rattle.std.proofs.lemmas.Str.{is_utf8-from_IsUtf8}
use Rattle.lt_jar.specs.Limits.{longest_line}
use Rattle.lt_jar.proofs.drafts.Draft.take_text.Goals as goal

-- the answer is that of the definition `take_line`: the line is short, and UTF-8 by its type, so its kind alone decides
pub returns : goal.returns
returns c =
    let line = c.args.line.now in
    rw (le-ltb longest_line (length line) (omega arith), is_utf8-from_IsUtf8 line c.utf8.line) c.take_short_line.ensures
