use Rattle.std.proofs.Common.{◌∙◌, sym, inl, inr, refl, vec_len}
use Rattle.std.proofs.lemmas.Result.{on_ok_weaker}
use Rattle.lt_stream.proofs.PartLemmas.{no_items, some_items}
use Rattle.lt_stream.proofs.lines.Lined.end_last.Goals as goal

-- The clause of `end_last`, `EndsLast`, at its two ends.

-- nothing is kept, so there is no last line, and nothing changes
pub returns-then-is_empty : goal.returns-then-is_empty
returns-then-is_empty g c = let kept = c.args.self.now.kept in
    inl (no_items kept.items (vec_len kept) kept.ok.0 (sym c.is_empty.ensures ∙ c.if-is_empty.true), refl)

-- something is kept, which is the last line, and it is answered
pub returns : goal.returns
returns g c =
    let kept = c.args.self.now.kept in
    on_ok_weaker c.end_line.result
    (λ ends. inr (
      some_items kept.items (vec_len kept) kept.ok.0 (sym c.is_empty.ensures ∙ c.if-is_empty.false),
      ends,
    )) c.end_line.ensures
