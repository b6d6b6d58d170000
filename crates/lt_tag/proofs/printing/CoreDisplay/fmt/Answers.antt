use Rattle.lt_tag.specs.Spelling.{spell_core}
use Rattle.lt_tag.proofs.PrintingLemmas.{displays}
use Rattle.lt_tag.proofs.printing.CoreDisplay.fmt.Goals as goal

-- `{}` writes the text of the core in conventional case: its subtags were printed, from the first style on
pub returns-clause-writes : goal.returns-clause-writes
returns-clause-writes g c =
    displays g.W.Write.write_str_gives c.put_core.new.self (spell_core c.args.self.now) c.put_core.result c.new.ensures
    c.put_core.ensures.put
