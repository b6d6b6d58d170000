use Rattle.lt_tool.proofs.running.answer_in_json.Goals as goal

-- the objects are written first; whether a line was refused then says how the run ends
pub returns : goal.returns
returns g c = record {
  refused = c.write_objects-ended.result.0;
  end = c.write_objects-ended.result.1;
  runs = c.write_objects-ended.ensures;
  ends = c.answered.ensures;
}
