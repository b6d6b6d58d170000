use Rattle.lt_jar.proofs.ReadLemmas.{decided}
use Rattle.lt_jar.proofs.laws.records_or_fault.Goals as goal

-- a text has records and keeps the limits, or it has a fault: reading line by line comes to the end of the text with
-- its records, or to a line with a fault
pub returns : goal.returns
returns c = decided
