use Rattle.std.proofs.Common.{◌<◌, ◌++◌, arith, inr, refl, ap, length, length-append}
use Rattle.lt_jar.specs.Limits.{longest_line}
use Rattle.lt_jar.proofs.engine.Engine.keep.Goals as goal

-- LineTooLong is right: the kept bytes and this part are more than a line may have, wherever the line ends
pub returns-then-part-saturating_sub-clause-kept : goal.returns-then-part-saturating_sub-clause-kept
returns-then-part-saturating_sub-clause-kept c =
    let partial = c.args.self.now.partial in
    let part = c.args.part.now in
    let sum = length-append partial.items part in
    let long : longest_line < length (partial.items ++ part) = omega
    (arith, sum, partial.ok.0, c.saturating_sub.ensures, c.if-part-saturating_sub.true, c.len.ensures) in
    (inr (refl, long), λ none. omega (arith, long, ap length none), refl)
