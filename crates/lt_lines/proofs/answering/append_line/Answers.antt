use Rattle.std.proofs.Common.{◌++◌, ◌∙◌, ℕ, sym, ap, take, vec_len}
use Rattle.std.proofs.lemmas.Result.{IfOk-weaker, on_ok_weaker}
use Rattle.lt_lines.specs.Answering.{part_kept}
use Rattle.lt_lines.proofs.KeptLemmas.{keeps_none, keeps_some}
use Rattle.lt_stream.proofs.PartLemmas.{no_items, some_items}
use Rattle.lt_lines.proofs.PartLemmas.{nothing_kept}
use Rattle.lt_lines.proofs.answering.append_line.Goals as goal

-- The clauses `owed` and `kept` of `append_line`, where nothing was kept and where a front of the line was.

-- nothing was kept, so the bytes are the whole line, and the answer to them is that to the line
pub returns-then-is_empty-clause-owed : goal.returns-then-is_empty-clause-owed
returns-then-is_empty-clause-owed g c =
    let kept = c.args.kept.now in
    let none = no_items kept.items (vec_len kept) kept.ok.0 (sym c.is_empty.ensures ∙ c.if-is_empty.true) in
    IfOk-weaker c.append_reply.result _ _ (λ refused owes recent. let a = owes recent in record {
      bytes = a.bytes;
      grown = a.grown;
      owed = λ last is. rw (nothing_kept c.args.form kept.items last is none) a.owed;
    }) c.append_reply.ensures.owed

-- nothing was kept of the line, and nothing is
pub returns-then-is_empty-clause-kept : goal.returns-then-is_empty-clause-kept
returns-then-is_empty-clause-kept g c =
    let kept = c.args.kept.now in
    let none = no_items kept.items (vec_len kept) kept.ok.0 (sym c.is_empty.ensures ∙ c.if-is_empty.true) in
    on_ok_weaker c.append_reply.result (λ _. keeps_none c.args.form kept.items (take c.args.count c.args.text.now) none)
    c.append_reply.ensures.recent

-- a front of the line was kept, and now all of it that is to be kept is
pub returns-clause-kept : goal.returns-clause-kept
returns-clause-kept g c =
    let part = take c.args.count c.args.text.now in
    let old = c.args.kept.now in
    let some = some_items old.items (vec_len old) old.ok.0 (sym c.is_empty.ensures ∙ c.if-is_empty.false) in
    on_ok_weaker c.append_kept_line.result
    (λ kept. keeps_some c.args.form old.items part c.append_kept_line.new.kept.items some
    (kept ∙ ap (λ (n : ℕ). old.items ++ part_kept c.args.form n part) old.ok.0)) c.append_kept_line.ensures.kept
