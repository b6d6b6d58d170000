use Rattle.std.proofs.Common.{refl}
use Rattle.lt_tool.proofs.program.report.Goals as goal

-- the words give an end without a look at the input, and that is printed or told
pub returns : goal.returns
returns g c = record {
  ends = record {
    end = c.end_of_words-end.result;
    is_end = c.end_of_words-end.ensures;
    tallies = c.new.ensures;
    finishes = c.finish.ensures;
  };
  unread = refl;
}
