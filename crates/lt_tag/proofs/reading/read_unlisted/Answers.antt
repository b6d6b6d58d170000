use Rattle.std.proofs.Common.{◌≡◌, ℕ, List, length, sym, ap, ◌∙◌, subst, arith}
use Rattle.std.specs.Prelude.{Some, None}
use Rattle.std.proofs.lemmas.Result.{err_from_is_err_and}
use Rattle.lt_tag.specs.Rest.{pieces_left}
use Rattle.lt_tag.specs.WellFormed.{IsNotGrandfathered}
use Rattle.lt_tag.specs.Draft.{drafted}
use Rattle.lt_tag.specs.DraftViews.{draft_view}
use Rattle.lt_tag.proofs.ListedLemmas.{length-pieces}
use Rattle.lt_tag.proofs.TextLemmas.{piece_fault}
use Rattle.lt_tag.proofs.MisplacedLemmas.{HasRead, read_first, fault_behind_first, misplaced_first, fault_here}
use Rattle.lt_tag.proofs.MisplacedLemmas.{read_next, fault_behind, misplaced_here, read_room, whole_listed, whole_draft}
use Rattle.lt_tag.proofs.MisplacedLemmas.{whole_length, whole_value, whole_unfinished}
use Rattle.lt_tag.proofs.reading.read_unlisted.Goals as goal

-- the numbers of the pieces fit in 32 bits, as `check_pieces` asks: a text of at most 1,024 bytes has at most 1,025
pub check_pieces-requires : goal.check_pieces-requires
check_pieces-requires c =
    let split = c.cut_piece.ensures.pieces in
    omega (arith, ap length split, length-pieces c.args.text.now, c.requires.short)

-- the first subtag begins no tag, but a later piece is no subtag, and that is the fault that comes first
pub returns-in_err-check_pieces-clause-fault : goal.returns-in_err-check_pieces-clause-fault
returns-in_err-check_pieces-clause-fault c =
    let p = err_from_is_err_and c.from_residual-in_err-check_pieces.result c.from_residual-in_err-check_pieces.ensures.1 in
    let split = c.cut_piece.ensures.pieces in
    let read = sym c.subtag_at.ensures ∙ c.in_ok-subtag_at.was in
    rw (p.1, p.2) (piece_fault c.args.text.now c.in_err-check_pieces.field-0.0 c.requires.short
    (fault_behind_first c.args.text.now _ _ _ split read c.in_err-check_pieces.field-0.0
    c.in_err-check_pieces.ensures))

-- the fault is BadLanguage at 1: all pieces are subtags, and no langtag or private use tag begins with the first of
-- them
pub returns-in_default-clause-fault : goal.returns-in_default-clause-fault
returns-in_default-clause-fault c =
    let split = c.cut_piece.ensures.pieces in
    misplaced_first c.args.text.now _ _ _ split (sym c.subtag_at.ensures ∙ c.in_ok-subtag_at.was)
    (sym c.in_default.ensures) c.in_ok-check_pieces.ensures c.requires.short c.requires.other

-- before the loop one subtag is read, which begins a tag
pub loop-rest-init : goal.loop-rest-init
loop-rest-init c =
    let split = c.cut_piece.ensures.pieces in
    let first = read_first c.args.text.now _ _ _ split (sym c.subtag_at.ensures ∙ c.in_ok-subtag_at.was)
    (draft_view c.in-Some.draft) (sym c.in-Some.ensures) in
    (omega (arith, ap length split, length-pieces c.args.text.now, c.requires.short), first)

-- all pieces before this one are subtags, so it is the leftmost that is none, and its fault is that of the text
pub returns-in_err-subtag_at-2-clause-fault : goal.returns-in_err-subtag_at-2-clause-fault
returns-in_err-subtag_at-2-clause-fault c =
    let p = err_from_is_err_and c.from_residual-in_err-subtag_at-2.result c.from_residual-in_err-subtag_at-2.ensures.1 in
    let has = subst (λ (left : List (List ℕ)). HasRead c.args.text.now c.loop-rest.place left
    (draft_view c.loop-rest.draft)) (ap pieces_left c.in-Some-rest.is ∙ c.cut_piece-in-Some-rest.ensures.pieces)
    c.loop-rest.invariant.1 in
    let read = sym c.subtag_at-in-Some-rest.ensures ∙ c.in_err-subtag_at-2.was in
    rw (p.1, p.2) (piece_fault c.args.text.now c.in_err-subtag_at-2.field-0.0 c.requires.short
    (fault_here c.args.text.now c.loop-rest.place (draft_view c.loop-rest.draft) _ _ has
    c.in_err-subtag_at-2.field-0.0 read))

-- the draft of the subtags so far has its shape
pub add-requires-clause-shaped : goal.add-requires-clause-shaped
add-requires-clause-shaped c = (read_room c.args.text.now c.loop-rest.place (draft_view c.loop-rest.draft) _
    c.loop-rest.invariant.1
    (omega (
      arith,
      c.loop-rest.invariant.0,
      ap length (ap pieces_left c.in-Some-rest.is
          ∙ c.cut_piece-in-Some-rest.ensures.pieces),
    ))).0

-- a text of at most 1,025 pieces, of which one is left, gave the draft at most 1,024 subtags: there is room for one
pub add-requires-clause-room : goal.add-requires-clause-room
add-requires-clause-room c = (read_room c.args.text.now c.loop-rest.place (draft_view c.loop-rest.draft) _
    c.loop-rest.invariant.1
    (omega (
      arith,
      c.loop-rest.invariant.0,
      ap length (ap pieces_left c.in-Some-rest.is
          ∙ c.cut_piece-in-Some-rest.ensures.pieces),
    ))).1

-- this subtag is misplaced, but a later piece is no subtag, and that is the fault that comes first
pub returns-in_err-check_pieces-2-clause-fault : goal.returns-in_err-check_pieces-2-clause-fault
returns-in_err-check_pieces-2-clause-fault c =
    let p = err_from_is_err_and c.from_residual-in_err-check_pieces-2.result c.from_residual-in_err-check_pieces-2.ensures.1 in
    let has = subst (λ (left : List (List ℕ)). HasRead c.args.text.now c.loop-rest.place left
    (draft_view c.loop-rest.draft)) (ap pieces_left c.in-Some-rest.is ∙ c.cut_piece-in-Some-rest.ensures.pieces)
    c.loop-rest.invariant.1 in
    let read = sym c.subtag_at-in-Some-rest.ensures ∙ c.in_ok-subtag_at-2.was in
    rw (p.1, p.2) (piece_fault c.args.text.now c.in_err-check_pieces-2.field-0.0 c.requires.short
    (fault_behind c.args.text.now c.loop-rest.place (draft_view c.loop-rest.draft) _ _ has
    c.in_ok-subtag_at-2.field-0 read c.in_err-check_pieces-2.field-0.0 c.in_err-check_pieces-2.ensures))

-- the fault is Misplaced here: all pieces are subtags; those before this one begin a tag, and with it they begin none
pub returns-then-not-branch-clause-fault : goal.returns-then-not-branch-clause-fault
returns-then-not-branch-clause-fault c =
    let has = subst (λ (left : List (List ℕ)). HasRead c.args.text.now c.loop-rest.place left
    (draft_view c.loop-rest.draft)) (ap pieces_left c.in-Some-rest.is ∙ c.cut_piece-in-Some-rest.ensures.pieces)
    c.loop-rest.invariant.1 in
    let read = sym c.subtag_at-in-Some-rest.ensures ∙ c.in_ok-subtag_at-2.was in
    let none : drafted (draft_view c.loop-rest.draft) c.in_ok-subtag_at-2.field-0 ≡ None = rw c.if-not-branch.true at c.in_ok-add.ensures in
    misplaced_here c.args.text.now c.loop-rest.place (draft_view c.loop-rest.draft) _ _ has c.in_ok-subtag_at-2.field-0
    read none c.in_ok-check_pieces-2.ensures c.requires.short c.requires.other

-- a turn reads one subtag more, which the draft takes
pub loop-rest-preserved : goal.loop-rest-preserved
loop-rest-preserved c =
    let split = ap pieces_left c.in-Some-rest.is ∙ c.cut_piece-in-Some-rest.ensures.pieces in
    let has = subst (λ (left : List (List ℕ)). HasRead c.args.text.now c.loop-rest.place left
    (draft_view c.loop-rest.draft)) split c.loop-rest.invariant.1 in
    let read = sym c.subtag_at-in-Some-rest.ensures ∙ c.in_ok-subtag_at-2.was in
    let some : drafted (draft_view c.loop-rest.draft) c.in_ok-subtag_at-2.field-0 ≡ Some (draft_view c.add.new.self) =
    rw c.if-not-branch.false at c.in_ok-add.ensures in (
      omega (arith, c.loop-rest.invariant.0, ap length split),
      read_next c.args.text.now c.loop-rest.place
          (draft_view c.loop-rest.draft) _ _ has c.in_ok-subtag_at-2.field-0 read (draft_view c.add.new.self) some,
    )

-- no piece is left: the draft is that of the whole text, and has its shape
pub finish-requires-clause-shaped : goal.finish-requires-clause-shaped
finish-requires-clause-shaped c =
    let has = rw c.in_default-rest.is at c.loop-rest.invariant.1 in
    (whole_draft c.args.text.now c.loop-rest.place (draft_view c.loop-rest.draft) has).0

-- the draft spells one subtag for each piece of the text, which are at most 1,025
pub finish-requires-clause-few : goal.finish-requires-clause-few
finish-requires-clause-few c =
    let has = rw c.in_default-rest.is at c.loop-rest.invariant.1 in
    omega (
      arith,
      ap length (whole_draft c.args.text.now c.loop-rest.place (draft_view c.loop-rest.draft) has).1,
      whole_length c.args.text.now c.loop-rest.place (draft_view c.loop-rest.draft) has,
      c.loop-rest.invariant.0,
    )

-- the draft spells the list of the text, which is not that of a grandfathered tag
pub finish-requires-clause-other : goal.finish-requires-clause-other
finish-requires-clause-other c =
    let has = rw c.in_default-rest.is at c.loop-rest.invariant.1 in
    subst (λ (l : List (List ℕ)). IsNotGrandfathered l)
    (sym (whole_draft c.args.text.now c.loop-rest.place (draft_view c.loop-rest.draft) has).1) c.requires.other

-- the fault is Unfinished: the list of the text begins a tag, but the part that it ends with has no subtag yet
pub returns-in_default-2-clause-fault : goal.returns-in_default-2-clause-fault
returns-in_default-2-clause-fault c =
    let has = rw c.in_default-rest.is at c.loop-rest.invariant.1 in
    whole_unfinished c.args.text.now c.loop-rest.place (draft_view c.loop-rest.draft) has (sym c.in_default-2.is
    ∙ c.in_ok-tag.ensures) c.requires.short c.requires.other

-- all pieces were read as subtags
pub returns-clause-listed : goal.returns-clause-listed
returns-clause-listed c =
    let has = rw c.in_default-rest.is at c.loop-rest.invariant.1 in
    whole_listed c.args.text.now c.loop-rest.place (draft_view c.loop-rest.draft) has

-- the draft spells the list of the text, and so does the tag that it ends as
pub returns-clause-spelled : goal.returns-clause-spelled
returns-clause-spelled c =
    let has = rw c.in_default-rest.is at c.loop-rest.invariant.1 in
    whole_value c.args.text.now c.loop-rest.place (draft_view c.loop-rest.draft) has c.in-Some-2.tag (sym c.in-Some-2.is
    ∙ c.in_ok-tag.ensures)
