use Rattle.lt_tag.specs.WellFormed.{spell}
use Rattle.lt_tag.proofs.PrintingLemmas.{displays}
use Rattle.lt_tag.proofs.printing.TagDisplay.fmt.Goals as goal

-- `{}` writes the text of the tag in conventional case: its subtags were printed, from the first style on
pub returns-clause-writes : goal.returns-clause-writes
returns-clause-writes g c =
    displays g.W.Write.write_str_gives c.put_tag.new.self (spell c.args.self.now) c.put_tag.result c.new.ensures c.put_tag.ensures.put
