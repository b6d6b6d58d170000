use Rattle.std.proofs.Common.{◌≡◌, ◌↔◌, ◌∙◌, Bool, IsTrue, ℕ, List, true, false, refl, subst, sym}
use Rattle.lt_rows.specs.Marks.{IsWide, MayBeMark}
use Rattle.lt_heading.specs.declared.first_rows.FirstRow.{FirstRow}
use Rattle.lt_heading.proofs.FirstRowLemmas.{begun_of, piece_begins, piece_begun, undecided_of}
use Rattle.lt_heading.proofs.first_rows.FirstRow.take_piece.Goals as goal

-- The clause of `take_piece`, TakesPiece, where the text takes the piece and where it begins with it.

-- the mark is known, so the piece is appended to the text after it
pub returns-then-self : goal.returns-then-self
returns-then-self c =
    let S = c.args.separator in
    let old = c.args.self.now in
    let new : FirstRow = record { mark = old.mark; is_begun = old.is_begun; text = c.take_text.new.text; place = c.take_text.new.place } in
    piece_begun S c.args.piece.now old new c.take_text.result (begun_of S old c.if-self.true c.requires) refl
    c.if-self.true c.take_text.ensures

-- what a test `r` of the bytes `seen` did not find is not so
tells_not : (P : List ℕ → Type 0) (seen text : List ℕ) (r : Bool) → IsTrue r ↔ P seen → r ≡ false → seen ≡ text → P text → ⊥
tells_not P seen text r tells not same holds = let bad : true ≡ false = sym (tells.1 (subst P (sym same) holds)) ∙ not in cc

-- the kept bytes tell whether there is a mark, and are split into that and text
pub returns : goal.returns
returns c =
    let S = c.args.separator in
    let old = c.args.self.now in
    let items = c.in_ok-extend_from_slice.ensures.items in
    let mid : FirstRow = record { mark = c.extend_from_slice.new.self; is_begun = old.is_begun; text = old.text; place = old.place } in
    piece_begins S c.args.piece.now old c.begin.new.self mid (undecided_of S old c.if-self.false c.requires) items
    (tells_not IsWide _ _ _ c.is_wide.ensures c.if-is_wide.false (c.deref.ensures.value ∙ items))
    (tells_not MayBeMark _ _ _ c.may_be_mark.ensures c.if-may_be_mark.false (c.deref-2.ensures.value ∙ items))
    c.begin.result c.begin.ensures
