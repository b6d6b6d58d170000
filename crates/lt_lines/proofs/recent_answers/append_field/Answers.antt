use Rattle.std.proofs.Common.{take}
use Rattle.lt_lines.proofs.TextLemmas.{replaced_none}
use Rattle.lt_lines.proofs.recent_answers.append_field.Goals as goal

-- the clause `owed` without a table of codes: the field is read as it is
pub returns-in-None-clause-owed : goal.returns-in-None-clause-owed
returns-in-None-clause-owed g c = rw (c.in-None.is, replaced_none (take c.args.count c.args.rest.now)) c.append_read_field.ensures.owed
