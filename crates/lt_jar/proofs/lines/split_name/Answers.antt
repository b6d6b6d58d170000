use Rattle.std.proofs.Common.{rules, arith}
use Rattle.std.proofs.lemmas.Bool.Decides.{nat_tests}
use Rattle.std.proofs.lemmas.Grind.{common_steps}
use Rattle.std.proofs.lemmas.Str.{IsCharBoundary-after_ascii, IsCharBoundary-start}
use Rattle.lt_jar.proofs.lines.split_name.Goals as goal

-- before the loop no byte is read, and at the start of the text no character is cut
pub loop-i-init : goal.loop-i-init
loop-i-init c = record { named = search rules; boundary = IsCharBoundary-start c.args.text.now c.utf8.text }

-- a turn adds one byte to the name, an ASCII one, so that no character is cut behind it
pub loop-i-preserved : goal.loop-i-preserved
loop-i-preserved c = record {
  named = grind (arith, common_steps);
  boundary = IsCharBoundary-after_ascii c.args.text.now
      c.loop-i.i c.utf8.text (omega arith) (grind (arith, nat_tests));
}
