use Rattle.lt_tool.proofs.printing.finish.Goals as goal

-- what was printed, what the run then came to, and what was said of it, each by its own call
pub returns : goal.returns
returns g c = record {
  printed = c.print_end-printed.result;
  prints = c.print_end-printed.ensures;
  after = c.end_after-end.ensures;
  says = c.say_end.ensures;
}
