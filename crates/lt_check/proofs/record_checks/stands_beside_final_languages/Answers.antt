use Rattle.std.proofs.Common.{◌==◌, ℕ, List, length, sym, ap, ◌∙◌}
use Rattle.std.specs.List.{list_all}
use Rattle.lt_check.specs.RecordChecks.{is_final_prefix}
use Rattle.lt_check.proofs.RecordChecks.{beside_compared}
use Rattle.lt_check.proofs.record_checks.stands_beside_final_languages.Goals as goal

-- true exactly if the record meets C6: the variant has a language as its value and has Prefixes, so C6 asks just that
-- each of these is final
pub returns-then-not-is_empty : goal.returns-then-not-is_empty
returns-then-not-is_empty g c =
    let R = g.L.Lookup.listed c.args.table.now in
    let valued = c.in-Variant-Some in
    beside_compared R c.args.entry.now valued.value.now c.have_final_languages.result (sym valued.ensures.value)
    (sym valued.ensures'.value) (sym c.is_short.ensures ∙ c.if-is_short.true)
    (ap (λ (ps : List (List (List ℕ))). length ps == 0) (sym c.prefixes.ensures.value) ∙ sym c.is_empty.ensures ∙ c.if-not-is_empty.true)
    (c.have_final_languages.ensures ∙ ap (list_all (is_final_prefix R)) c.prefixes-then-not-is_empty.ensures.value)
