use Rattle.std.proofs.Common.{◌≡◌, ◌<◌, ◌-◌, ◌∙◌, ℕ, List, length, get_or, false, sym, subst, arith}
use Rattle.std.proofs.lemmas.Str.{IsCharBoundary-after_ascii}
use Rattle.lt_jar.specs.LineKinds.{is_blank}
use Rattle.lt_jar.proofs.TrimLemmas.{trim_spaced}
use Rattle.lt_jar.proofs.lines.trim.Goals as goal

-- the slice of the text behind its first byte cuts no character, since that is a space, an ASCII byte (32)
pub range_from-requires : goal.range_from-requires
range_from-requires c =
    let text = c.args.text.now in
    let same = c.as_bytes-bytes.ensures.value in
    let some : 1 < length text = subst (λ (l : List ℕ). 1 < length l) same (omega (arith, c.if-count-gt1.true)) in
    let space : get_or text 0 0 ≡ 32 = subst (λ (l : List ℕ). get_or l 0 0 ≡ 32) same c.if-bytes-eq32.true in
    λ _. IsCharBoundary-after_ascii text 0 c.utf8.text (omega (arith, some)) (omega (arith, space))

-- behind one space the text neither begins nor ends with a space or a tab, so nothing else is trimmed
pub returns-then-not-is_blank-2 : goal.returns-then-not-is_blank-2
returns-then-not-is_blank-2 c =
    let text = c.args.text.now in
    let same = c.as_bytes-bytes.ensures.value in
    let some : 1 < length text = subst (λ (l : List ℕ). 1 < length l) same (omega (arith, c.if-count-gt1.true)) in
    let space : get_or text 0 0 ≡ 32 = subst (λ (l : List ℕ). get_or l 0 0 ≡ 32) same c.if-bytes-eq32.true in
    let first : is_blank (get_or text 1 0) ≡ false =
    subst (λ (l : List ℕ). is_blank (get_or l 1 0) ≡ false) same (sym c.is_blank.ensures ∙ c.if-not-is_blank.true) in
    let last : is_blank (get_or text (length text - 1) 0) ≡ false =
    subst (λ (l : List ℕ). is_blank (get_or l (length l - 1) 0) ≡ false) same (sym c.is_blank-then-not-is_blank.ensures
    ∙ c.if-not-is_blank-2.true) in
    c.range_from.ensures.value ∙ sym (trim_spaced text some space first last)
