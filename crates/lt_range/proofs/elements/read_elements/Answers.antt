use Rattle.std.proofs.Common.{◌∷◌, [], map}
use Rattle.std.specs.Option.{option_map}
use Rattle.std.proofs.lemmas.List.{append-nil, map-append}
use Rattle.std.proofs.lemmas.Result.{err_from_is_err_and}
use Rattle.lt_range.specs.Elements.{parts_of}
use Rattle.lt_range.specs.Headers.{elements_from}
use Rattle.lt_range.proofs.HeaderLemmas.{texts, refused_within, one_more, no_more}
use Rattle.lt_range.proofs.elements.read_elements.Goals as goal
use Rattle.lt_range.proofs.elements.read_elements.Goals.{in-Some+in_ok-push, in_default}

-- a refusal is the fault of the header: no piece before this one has a fault, so its fault, with its number, is that
pub returns-in_err-element-clause-fault : goal.returns-in_err-element-clause-fault
returns-in_err-element-clause-fault c =
    let p = err_from_is_err_and c.from_residual.result c.from_residual.ensures.1 in
    let pieces = c.args.pieces.now in
    let front = map parts_of c.loop-index.elements.items in
    rw (p.1, p.2) (refused_within pieces c.loop-index.index front (elements_from 1 (texts pieces))
    c.in_err-element.field-0.0 c.loop-index-test.true c.loop-index.invariant c.in_err-element.ensures.fault)

-- after a turn the elements so far and those of the other pieces are still those of all: it adds that of one piece, or
-- none if this is empty
pub loop-index-preserved : goal.loop-index-preserved
loop-index-preserved c =
    let pieces = c.args.pieces.now in
    let i = c.loop-index.index in
    let items = c.loop-index.elements.items in
    let next = one_more pieces i (map parts_of items) (elements_from 1 (texts pieces))
    (option_map parts_of c.in_ok-element.field-0) c.loop-index-test.true c.loop-index.invariant
    c.in_ok-element.ensures.element in
    elim c.match-branch-2.branch [
      | in-Some+in_ok-push w ↦
          rw (w.elements-is, w.in_ok-push.ensures.items, map-append parts_of items (w.in-Some.element ∷ [])) (rw w.in-Some.is at next)
      | in_default w ↦ rw (w.elements-is) (rw (w.in_default.is, append-nil (map parts_of items)) at next)
    ]

-- the answer is the elements of all pieces: no piece is left
pub returns-clause-elements : goal.returns-clause-elements
returns-clause-elements c =
    no_more c.args.pieces.now c.loop-index.index (map parts_of c.loop-index.elements.items)
    (elements_from 1 (texts c.args.pieces.now)) c.loop-index-test.false c.loop-index.invariant
