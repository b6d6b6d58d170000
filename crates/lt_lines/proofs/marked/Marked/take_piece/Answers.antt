use Rattle.std.proofs.Common.{◌≡◌, ◌↔◌, ◌∙◌, Bool, IsTrue, ℕ, List, true, false, ap, arith, length, length-append, refl, subst, sym}
use Rattle.std.proofs.lemmas.Result.{err_from_is_err_and}
use Rattle.lt_rows.specs.Marks.{IsWide, MayBeMark}
use Rattle.lt_lines.proofs.TextRunLemmas.{text_begins, text_lacks, text_may_be, text_piece, text_wide}
use Rattle.lt_lines.proofs.marked.Marked.take_piece.Goals as goal

-- The room for lines that its calls require, and the clause of `Marked::take_piece`, TakesText, at each of its ends.

-- the room for the kept bytes and the piece is room for the piece
pub take_piece-requires : goal.take_piece-requires
take_piece-requires g c = record {
  room = omega (arith, c.requires.room);
  feeds = omega (arith, c.requires.feeds);
  refused = c.requires.refused;
}

-- the mark is passed, and the piece goes on with the lines
pub returns-then-self : goal.returns-then-self
returns-then-self g c = text_piece _ g.W.Write.contents _ c.args.self.now _ _ _ c.take_piece.result c.if-self.true
    c.if-self.true refl c.take_piece.ensures

-- memory ran out before anything was written
pub returns-in_err-extend_from_slice : goal.returns-in_err-extend_from_slice
returns-in_err-extend_from_slice g c =
    let p = err_from_is_err_and c.from_residual.result c.from_residual.ensures.1 in
    rw (p.1, p.2) (text_lacks _ g.W.Write.contents _ c.args.self.now _ _ c.if-self.false)

-- the first bytes are the mark of UTF-16, and nothing was written
pub returns-then-is_wide : goal.returns-then-is_wide
returns-then-is_wide g c =
    text_wide _ g.W.Write.contents _ c.args.self.now _ _ c.if-self.false refl
    (subst IsWide (c.deref.ensures.value ∙ c.in_ok-extend_from_slice.ensures.items)
    (c.is_wide.ensures.0 c.if-is_wide.true))

-- the first bytes may still become a mark, and are kept
pub returns-then-may_be_mark : goal.returns-then-may_be_mark
returns-then-may_be_mark g c =
    let items = c.in_ok-extend_from_slice.ensures.items in
    text_may_be _ g.W.Write.contents _ c.args.self.now _ _ c.if-self.false c.if-self.false items refl
    (subst MayBeMark (c.deref-2.ensures.value ∙ items) (c.may_be_mark.ensures.0 c.if-may_be_mark.true))

-- the bytes that are kept now are those before and the piece, so the room is that for both
pub begin-requires : goal.begin-requires
begin-requires g c =
    let long = ap length c.in_ok-extend_from_slice.ensures.items ∙ length-append c.args.self.now.front.items c.args.piece.now in
    record { room = omega (arith, c.requires.room, long); feeds = omega (arith, c.requires.feeds, long); refused = c.requires.refused }

-- what a test `r` of the bytes `seen` did not find is not so
tells_not : (P : List ℕ → Type 0) (seen text : List ℕ) (r : Bool) → IsTrue r ↔ P seen → r ≡ false → seen ≡ text → P text → ⊥
tells_not P seen text r tells not same holds = let bad : true ≡ false = sym (tells.1 (subst P (sym same) holds)) ∙ not in cc

-- the first bytes tell whether there is a mark, and are split into that and text
pub returns : goal.returns
returns g c =
    let items = c.in_ok-extend_from_slice.ensures.items in
    text_begins _ g.W.Write.contents _ c.args.self.now _ _ c.if-self.false _ _ c.begin.result items refl
    (tells_not IsWide _ _ _ c.is_wide.ensures c.if-is_wide.false (c.deref.ensures.value ∙ items))
    (tells_not MayBeMark _ _ _ c.may_be_mark.ensures c.if-may_be_mark.false (c.deref-2.ensures.value ∙ items)) c.begin.ensures
