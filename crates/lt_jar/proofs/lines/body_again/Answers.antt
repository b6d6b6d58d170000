use Rattle.std.proofs.Common.{◌≡◌, ◌≢◌, ◌<◌, ◌∙◌, ℕ, List, [], sym, ap, subst, length, get_or, take, arith}
use Rattle.std.proofs.lemmas.Str.{IsCharBoundary-after_ascii}
use Rattle.lt_jar.specs.LineKinds.{Start, trim}
use Rattle.lt_jar.proofs.NameLemmas.{line_again, again_split}
use Rattle.lt_jar.proofs.lines.body_again.Goals as goal

-- the slice of the text behind the colon cuts no character, since a colon is an ASCII byte (58)
pub range_from-requires : goal.range_from-requires
range_from-requires c =
    let text = c.content-text.result.now in
    let n = length c.args.name.now in
    let same = c.as_bytes-bytes.ensures.value in
    let below : n < length text = subst (λ (l : List ℕ). n < length l) same (omega (arith, c.if-bytes-length.false)) in
    let colon : get_or text n 0 ≡ 58 = subst (λ (l : List ℕ). get_or l n 0 ≡ 58) same c.if-bytes-length-ne58.false in
    λ _. IsCharBoundary-after_ascii text n c.content-text.utf8 below (omega (arith, colon))

-- the line is the name, a colon and what follows it, so it begins a field of that name
pub returns-then-are_same : goal.returns-then-are_same
returns-then-are_same c =
    let text = c.content-text.result.now in
    let name = c.args.name.now in
    let n = length name in
    let same = c.as_bytes-bytes.ensures.value in
    let below : n < length text = subst (λ (l : List ℕ). n < length l) same (omega (arith, c.if-bytes-length.false)) in
    let colon : get_or text n 0 ≡ 58 = subst (λ (l : List ℕ). get_or l n 0 ≡ 58) same c.if-bytes-length-ne58.false in
    let front : take n text ≡ name = subst (λ (l : List ℕ). take n l ≡ name) same
    (c.are_same.ensures.0 c.if-are_same.true ∙ c.as_bytes.ensures.value) in
    let some : name ≢ [] = λ none. c.if-length-eq0.false (ap length none) in
    line_again c.args.line.now name _ c.requires some (sym c.content-text.ensures ∙ again_split text name below colon front)
    ∙ ap (λ (b : List ℕ). Start name b) (ap trim (sym c.range_from.ensures.value) ∙ sym c.trim.ensures)
