use Rattle.std.proofs.Common.{◌∙◌, sym, vec_len}
use Rattle.lt_lines.specs.Owed.{ground_of, terms}
use Rattle.lt_lines.proofs.EndLemmas.{answered_none, last_answered}
use Rattle.lt_stream.proofs.PartLemmas.{no_items, some_items}
use Rattle.lt_lines.proofs.answering.Answering.end_last.Goals as goal

-- The clause of `end_last`, that all lines of the bytes are answered, at its two ends.

-- nothing is kept, so a line feed ended each line, and all are answered
pub returns-then-is_empty : goal.returns-then-is_empty
returns-then-is_empty g c = λ bytes out t.
    let kept = c.args.self.now.kept in
    answered_none (terms (ground_of g.L.Lookup.listed c.args.basis.now) c.args.form) bytes out c.args.self.now t
    (no_items kept.items (vec_len kept) kept.ok.0 (sym c.is_empty.ensures ∙ c.if-is_empty.true))

-- the kept line is answered as if a line feed followed it, which leaves nothing unanswered
pub returns : goal.returns
returns g c =
    let kept = c.args.self.now.kept in
    last_answered (terms (ground_of g.L.Lookup.listed c.args.basis.now) c.args.form) c.args.self.now
    c.answer_line.new.self c.answer_line.result
    (some_items kept.items (vec_len kept) kept.ok.0 (sym c.is_empty.ensures ∙ c.if-is_empty.false)) c.requires.closed
    c.answer_line.ensures.taken c.answer_line.ensures.kept
