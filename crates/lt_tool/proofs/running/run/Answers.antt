-- For each plan: which streams and tallies are left as they were, and what the plan's own function did and gave.
use Rattle.std.proofs.Common.{refl}
use Rattle.lt_tool.proofs.running.run.Goals as goal

-- an answer that is there already is given as it is, and no stream is touched
pub returns-in-Print : goal.returns-in-Print
returns-in-Print g c = rw c.in-Print.is (refl, refl, refl, refl)

-- lines are answered, which sets the tallies
pub returns-in-Lines : goal.returns-in-Lines
returns-in-Lines g c = rw c.in-Lines.is c.answer_lines.ensures

-- lines are matched, and no line is tallied
pub returns-in-Match : goal.returns-in-Match
returns-in-Match g c = rw c.in-Match.is (refl, c.match_lines.ensures)

-- one line is searched for, and nothing is written yet
pub returns-in-Serve : goal.returns-in-Serve
returns-in-Serve g c = rw c.in-Serve.is (refl, refl, rw c.deref.ensures.value at c.serve.ensures)

-- an explanation is written, and the input is not read
pub returns-in-Explain : goal.returns-in-Explain
returns-in-Explain g c = rw c.in-Explain.is (refl, refl, c.explain.ensures)

-- lines are judged, and nothing is written yet
pub returns-in-Verify : goal.returns-in-Verify
returns-in-Verify g c = rw c.in-Verify.is (refl, refl, c.verify.ensures)

-- tags are shown, and the input is not read
pub returns-in-Show : goal.returns-in-Show
returns-in-Show g c = rw c.in-Show.is (refl, refl, rw c.records.ensures at c.show_texts.ensures)

-- objects are written, and no line is tallied
pub returns-in-Json : goal.returns-in-Json
returns-in-Json g c = rw c.in-Json.is (refl, c.answer_in_json.ensures)
