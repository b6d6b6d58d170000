use Rattle.std.proofs.Common.{◌≡◌, ◌-◌, ◌∙◌, slice_get, refl, sym, arith, Some, None}
use Rattle.std.proofs.lemmas.Option.{get_or_from_slice_get, slice_get_within}
use Rattle.lt_codes.specs.Codes.{found_in}
use Rattle.lt_codes.specs.declared.codes.Code.{Code}
use Rattle.lt_codes.proofs.IndexLemmas.{at_place, found_none, place_at}
use Rattle.lt_codes.proofs.codes.CodeTable.registered.Goals as goal
use Rattle.lt_codes.proofs.codes.CodeTable.registered.Goals.{Else-place-eq0}

-- the text is no three letters, so no code is this text, and None is right
pub returns-in_err-number : goal.returns-in_err-number
returns-in_err-number c =
    let none : found_in c.args.self.now c.args.text.now ≡ None = rw (← c.self.view_is)
    (found_none c.self.inside.codes.items c.args.text.now c.self.invariant.each
    (sym c.in_err-number.ensures.number)) in
    rw (none, c.from_residual.ensures) refl

-- the first code that is this text is at the place that was read, counted from 1
found : (c : Else-place-eq0) → (x : Code) × (found_in c.self.inside.codes.items c.args.text.now ≡ Some x)
    × (slice_get c.self.inside.codes.items (c.index-place.result.now - 1) ≡ Some x)
found c = at_place c.self.inside.codes.items c.args.text.now c.index-place.result.now c.if-place-eq0.false
    (place_at c.self.inside.codes.items c.self.inside.places.items c.args.text.now c.in_ok-number.number
    c.index-place.result.now c.self.invariant (sym c.in_ok-number.ensures.number) c.index-place.ensures)

-- the place that was read is that of a code, so the index is within the table
pub index-requires : goal.index-requires
index-requires c =
    let f = found c in
    omega (arith, slice_get_within c.self.inside.codes.items (c.index-place.result.now - 1) f.0 f.2, c.self.inside.codes.ok.0)

-- the code at the place that was read is the first that is this text, so what is registered for it is the answer
pub returns : goal.returns
returns c =
    let f = found (goal.at.returns c).Else-place-eq0 in
    let is : c.index.result.now ≡ f.0 = c.index.ensures
    ∙ get_or_from_slice_get c.self.inside.codes.items (c.index-place.result.now - 1) f.0 c.index.result.now f.2 in
    rw (← c.self.view_is, f.1, is) refl
