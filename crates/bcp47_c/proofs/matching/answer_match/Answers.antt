use Rattle.std.proofs.Common.{◌∙◌, ap, sym}
use Rattle.std.specs.Prelude.{if◌then◌else◌}
use Rattle.bcp47_c.specs.Outcomes.{ended}
use Rattle.bcp47_c.proofs.MatchAnswers.{told_by_parts, told_match}
use Rattle.bcp47_c.proofs.matching.answer_match.Goals as goal

-- the range and the tag match by their parts, which are their only extlang forms, and the status is 0
pub returns-then-any_matches : goal.returns-then-any_matches
returns-then-any_matches c =
    let answer = told_by_parts c.args.registry.now c.promise.ensures.checked c.args.scheme c.args.range.now
    c.args.text.now c.in-Ok.known.items c.in-Ok-subtags_of_text.subtags c.any_matches.result
    ((c.in-Ok.ensures {u = tt}).ranges) ((c.in-Ok-subtags_of_text.ensures {u = tt}).subtags)
    (rw c.deref.ensures.value at c.any_matches.ensures) in
    let said = c.ended.ensures ∙ ap (λ b. ended (if b then 0 else 6)) (sym c.if-any_matches.true) in
    told_match c.args.registry.now c.args.scheme c.args.range.now c.args.text.now c.args.buffer.now
    c.deliver.new.buffer c.any_matches.result c.ended.result c.deliver.result answer said c.deliver.ensures

-- the range and the tag don't match by their parts, which are their only extlang forms, and the status is 6
pub returns : goal.returns
returns c =
    let answer = told_by_parts c.args.registry.now c.promise.ensures.checked c.args.scheme c.args.range.now
    c.args.text.now c.in-Ok.known.items c.in-Ok-subtags_of_text.subtags c.any_matches.result
    ((c.in-Ok.ensures {u = tt}).ranges) ((c.in-Ok-subtags_of_text.ensures {u = tt}).subtags)
    (rw c.deref.ensures.value at c.any_matches.ensures) in
    let said = c.ended-else-any_matches.ensures ∙ ap (λ b. ended (if b then 0 else 6)) (sym c.if-any_matches.false) in
    told_match c.args.registry.now c.args.scheme c.args.range.now c.args.text.now c.args.buffer.now
    c.deliver-else-any_matches.new.buffer c.any_matches.result c.ended-else-any_matches.result
    c.deliver-else-any_matches.result answer said c.deliver-else-any_matches.ensures
