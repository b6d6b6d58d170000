use Rattle.std.proofs.Common.{◌+◌, Bor, List, ℕ, map, sym, subst}
use Rattle.std.proofs.lemmas.Result.{err_from_is_err_and}
use Rattle.lt_range.specs.Available.{AreAvailable}
use Rattle.lt_range.specs.Matched.{HasSubtags}
use Rattle.lt_range.specs.Spellings.{Spellings}
use Rattle.lt_range.proofs.AvailableLemmas.{available_next, refused_at, text_read}
use Rattle.lt_range.proofs.available.Available.of_texts.Goals as goal

-- the refusal names the first text that is refused, by its number: each text before this one has its list
pub returns-in_err-subtags-clause-refusal : goal.returns-in_err-subtags-clause-refusal
returns-in_err-subtags-clause-refusal g c =
    let p = err_from_is_err_and c.from_residual.result c.from_residual.ensures.1 in
    rw (p.1, p.2) (refused_at (g.L.Lookup.listed c.args.table.now) c.args.texts.now c.loop-place.place _
    c.loop-place.tags.items c.in_err-subtags.field-0.0 c.loop-place-test.true c.loop-place.invariant
    c.in_err-subtags.ensures.numbered c.in_err-subtags.ensures.refusal)

-- after a turn `tags` are the lists of one text more: its own is added
pub loop-place-preserved : goal.loop-place-preserved
loop-place-preserved g c =
    let R = g.L.Lookup.listed c.args.table.now in
    let texts = map (λ (text : Bor (List ℕ)). text.now) c.args.texts.now in
    let n = c.loop-place.place in
    subst (λ (l : List Spellings). AreAvailable R texts (n + 1) l) (sym c.in_ok-push.ensures.items)
    (available_next R texts n c.loop-place.tags.items c.in_ok-subtags.subtags c.loop-place.invariant
    (subst (λ (s : List ℕ). HasSubtags R s c.in_ok-subtags.subtags)
    (text_read c.args.texts.now n _ c.loop-place-test.true) c.in_ok-subtags.ensures.subtags))
