use Rattle.lt_tool.proofs.AheadLemmas.{ahead_is}
use Rattle.lt_tool.proofs.running.answer_lines.Goals as goal

-- nothing of the input was read before, so the lines are those of the input
pub returns-in-None : goal.returns-in-None
returns-in-None g c = rw c.in-None.is c.run_over.ensures

-- the bytes that were read for the heading stand before the rest of the input
-- a reader of both has the same bytes left as the input had before the heading was read
pub returns-in-Some : goal.returns-in-Some
returns-in-Some g c = rw c.in-Some.is (record {
  before = c.new-ahead.result;
  after = c.run_over-in-Some.new.input;
  same = rw c.new-ahead.ensures.inner (ahead_is _ _ _ (rw c.as_slice.ensures.value at c.chain.ensures.bytes));
  runs = c.run_over-in-Some.ensures;
})
