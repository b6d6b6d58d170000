use Rattle.lt_tool.proofs.program.carry_out.Goals as goal

-- the answer is found first, and then printed to the output as the run left it
pub returns : goal.returns
returns g c = record {
  end = c.answer_of-end.result;
  between = c.answer_of-end.new.output;
  answers = rw c.new-tallies.ensures at c.answer_of-end.ensures;
  finishes = c.finish-end.ensures;
}
