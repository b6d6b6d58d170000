use Rattle.lt_tag.specs.Spelling.{spell_extension}
use Rattle.lt_tag.proofs.PrintingLemmas.{displays}
use Rattle.lt_tag.proofs.printing.ExtensionDisplay.fmt.Goals as goal

-- `{}` writes the text of the extension in conventional case: its subtags were printed, from the first style on
pub returns-clause-writes : goal.returns-clause-writes
returns-clause-writes g c =
    displays g.W.Write.write_str_gives c.put_extension.new.self (spell_extension c.args.self.now) c.put_extension.result
    c.new.ensures c.put_extension.ensures.put
