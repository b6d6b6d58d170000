-- Lemmas for `split_first`: what a search finds is the first place of a byte, and the text is cut there.
use Rattle.std.proofs.Common.{refl, ◌≡◌, ◌≢◌, ◌≤◌, ◌<◌, ◌+◌, ◌-◌, ◌++◌, ◌∷◌, ◌∙◌, ℕ, List, length, length-append, sym}
use Rattle.std.proofs.Common.{ap, arith, subst, take, drop, get_or, add-one, take-append-drop}
use Rattle.std.proofs.Math.Seq.{drop-cons, get_or-append_seam, take-length}
use Rattle.std.proofs.lemmas.Bool.{eq-eqb}
use Rattle.std.proofs.lemmas.List.{take_rest, length-take-le, get_or-take}
use Rattle.std.proofs.lemmas.List.Elements.{All-from_get_or}
use Rattle.memchr.specs.Find.{Nowhere, Passes, is_byte}
use Rattle.lt_rows.specs.Splitting.{IsFreeOf}

-- where the byte is at the index i, the text is what is before it, the byte, and the slice from i + 1 to the end
pub split_at : (byte : ℕ) (text : List ℕ) (i : ℕ) → i < length text → get_or text i 0 ≡ byte
    → text ≡ take i text ++ byte ∷ take (length text - (i + 1)) (drop (i + 1) text)
split_at byte text i below is =
    sym (take-append-drop i text) ∙ ap (λ l. take i text ++ l) (rw (take_rest, add-one, drop-cons text i 0 below, is) refl)

-- where no byte before the index i is found to be the one searched for, the bytes before i are free of it
pub free_front : (byte : ℕ) (text : List ℕ) (i : ℕ) → i ≤ length text → Nowhere (Passes (is_byte byte) text) 0 i
    → IsFreeOf byte (take i text)
free_front byte text i le none =
    let long = length-take-le i text le in
    All-from_get_or (λ other. other ≢ byte) (take i text) 0
    (λ k inside e. none k (omega arith) (omega (arith, inside, long))
    (eq-eqb (get_or text k 0) byte (sym (get_or-take i text k 0 (omega (arith, inside, long))) ∙ e)))

-- where no byte of a text is found to be the one searched for, the text is free of it
pub free_whole : (byte : ℕ) (text : List ℕ) → Nowhere (Passes (is_byte byte) text) 0 (length text) → IsFreeOf byte text
free_whole byte text none = subst (IsFreeOf byte) (take-length text) (free_front byte text (length text) (omega arith) none)

-- ---- bytes that are nowhere

-- a list that is free of a byte can't be cut at it, into x and r
pub no_split : (byte : ℕ) (line x r : List ℕ) → IsFreeOf byte line → line ≡ x ++ byte ∷ r → ⊥
no_split byte line x r free e = free (length x) 0 (omega (arith, ap length e, length-append x (byte ∷ r)))
    (ap (λ l. get_or l (length x) 0) e ∙ get_or-append_seam x byte r 0)
