use Rattle.lt_tool.proofs.running.look_up.Goals as goal

-- the lines were searched by the ranges of the plan, since the vector lends the call just these, and the answer is what
-- the end of that search comes to
pub returns : goal.returns
returns g c = record {
  end = c.look_up_line.result;
  searches = rw c.deref.ensures.value at c.look_up_line.ensures;
  is_found = c.searched.ensures;
}
