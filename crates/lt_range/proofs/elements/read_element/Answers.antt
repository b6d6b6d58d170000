use Rattle.std.proofs.Common.{sym, ap, ◌∙◌, subst}
use Rattle.std.specs.Prelude.{Result, Option}
use Rattle.std.proofs.lemmas.Result.{err_from_is_err_and}
use Rattle.lt_range.specs.Words.{is_word_byte, front, rest}
use Rattle.lt_range.specs.Weights.{weight_of}
use Rattle.lt_range.specs.Elements.{ElementParts, range_fault, element_at, element_of, IsRefused}
use Rattle.lt_range.specs.declared.accept_faults.AcceptFaultKind.{AcceptFaultKind}
use Rattle.lt_range.proofs.ElementLemmas.{refused_by_range, element_of_some}
use Rattle.lt_range.proofs.elements.read_element.Goals as goal

-- where `check_range` refuses, its fault is that of the element, whatever weight follows
pub returns-in_err-check_range-clause-fault : goal.returns-in_err-check_range-clause-fault
unfolding element_of
returns-in_err-check_range-clause-fault c =
    let p = err_from_is_err_and c.from_residual.result c.from_residual.ensures.1 in
    let kind = c.in_err-check_range.field-0.0 in
    let text = c.after_blanks-text.result.now in
    let range = front is_word_byte text in
    let is = ap element_at (sym c.after_blanks-text.ensures) ∙ element_of_some text (sym c.is_empty.ensures ∙ c.if-is_empty.false) in
    rw (p.1, p.2) (subst (λ (r : Result (Option ElementParts) AcceptFaultKind). IsRefused r kind) (sym is)
    (refused_by_range range (range_fault range) (weight_of (rest is_word_byte text)) kind
    (rw c.cut_word.ensures.word at c.in_err-check_range.ensures.fault)))
