use Rattle.std.proofs.Common.{rules}
use Rattle.lt_cache.proofs.SettledEnds.{keywords_append}
use Rattle.lt_cache.proofs.texts.append_end.Goals as goal

-- what was appended follows each canonical core with this end in its canonical text: it is the normal form of its
-- keywords
pub returns-in-Ok-Some-clause-appended : goal.returns-in-Ok-Some-clause-appended
returns-in-Ok-Some-clause-appended c = λ ok.
    keywords_append c.args.end.now c.in-Ok-Some.text.items c.args.texts.now.items c.extend_from_slice.new.self.items
    (search rules) (search rules)
