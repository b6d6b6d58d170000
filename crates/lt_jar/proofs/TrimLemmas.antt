-- What the quick case of `trim` needs: only one space is trimmed from a text that has it at its front, and no other
-- space or tab at either end.
use Rattle.std.proofs.Common.{◌≡◌, ◌<◌, ◌-◌, ◌∙◌, ◌∷◌, ℕ, suc, false, List, [], length, get_or, drop, reverse, refl, sym, ap, arith}
use Rattle.std.proofs.lemmas.List.{get_or-reverse, length-reverse, reverse-reverse}
use Rattle.lt_jar.specs.LineKinds.{is_blank, trim, trim_end, trim_start}

-- nothing is trimmed at the front of a text whose first byte is no space or tab
start_kept : (text : List ℕ) → 0 < length text → is_blank (get_or text 0 0) ≡ false → trim_start text ≡ text
start_kept [] some h = absurd (omega (arith, some))
start_kept (byte ∷ text) some h = rw h refl

-- nothing is trimmed at the end of a text whose last byte is no space or tab
end_kept : (text : List ℕ) → 0 < length text → is_blank (get_or text (length text - 1) 0) ≡ false → trim_end text ≡ text
end_kept text some h =
    let at : length text - 1 - 0 ≡ length text - 1 = omega arith in
    let first : get_or (reverse text) 0 0 ≡ get_or text (length text - 1) 0 = get_or-reverse text 0 0 some ∙ ap (λ i. get_or text i 0) at in
    ap reverse (start_kept (reverse text) (omega (arith, length-reverse text)) (ap is_blank first ∙ h)) ∙ reverse-reverse text

-- trimming a text that has a space (32) in front of a byte that is none, and no space or tab at its end, drops just
-- that space
pub trim_spaced : (text : List ℕ) → 1 < length text → get_or text 0 0 ≡ 32 → is_blank (get_or text 1 0) ≡ false
    → is_blank (get_or text (length text - 1) 0) ≡ false → trim text ≡ drop 1 text
trim_spaced [] some space first last = absurd (omega (arith, some))
trim_spaced (a ∷ []) some space first last = absurd (omega (arith, some))
trim_spaced (a ∷ b ∷ rest) some space first last =
    let long : length (a ∷ b ∷ rest) - 1 ≡ suc (length rest) = omega arith in
    let short : length (b ∷ rest) - 1 ≡ length rest = omega arith in
    let end : is_blank (get_or (b ∷ rest) (length (b ∷ rest) - 1) 0) ≡ false =
    ap (λ i. is_blank (get_or (b ∷ rest) i 0)) short ∙ sym (ap (λ i. is_blank (get_or (a ∷ b ∷ rest) i 0)) long) ∙ last in
    ap (λ c. trim (c ∷ b ∷ rest)) space ∙ ap trim_end (start_kept (b ∷ rest) (omega arith) first) ∙ end_kept (b ∷ rest) (omega arith) end
