use Rattle.bcp47.proofs.registries.know_promise.Goals as goal

-- The promise holds of a table that passes the check: that it does is a clause of `table`, and all that follows from it
-- are clauses of `confluence`.
pub returns : goal.returns
returns c = record {
  checked = c.table.ensures.checked;
  canonical = c.confluence.ensures.canonical;
  formless = c.confluence.ensures.formless;
  named = c.confluence.ensures.named;
  twice = c.confluence.ensures.twice;
  text_twice = c.confluence.ensures.text_twice;
  equivalence = c.confluence.ensures.equal_texts;
}
