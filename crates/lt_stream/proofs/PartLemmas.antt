-- What is kept of a line that comes in pieces is its first bytes, at most `longest`, as `Lined::keep` keeps them.
use Rattle.std.proofs.Common.{◌≡◌, ◌<◌, ◌+◌, ◌-◌, ◌==◌, ◌++◌, ◌∙◌, inl, inr, ℕ, List, [], true, false, length, take}
use Rattle.std.proofs.Common.{sym, ap, arith, append-nil}
use Rattle.std.proofs.lemmas.Bool.{eqb-true, eqb-false}
use Rattle.std.proofs.lemmas.Bool.Decides.{leb_tells}
use Rattle.std.proofs.lemmas.List.{take_all, length-take, length-take-le, nil_from_length, take-append-le}
use Rattle.std.proofs.Math.Seq.{take-append-add}

-- a list that is found to have a `count` of 0 is empty
pub no_items : (items : List ℕ) (count : ℕ) → count ≡ length items → (count == 0) ≡ true → items ≡ []
no_items items count is e = nil_from_length items (sym is ∙ eqb-true count 0 e)

-- a list that is found to have a `count` other than 0 is not empty
pub some_items : (items : List ℕ) (count : ℕ) → count ≡ length items → (count == 0) ≡ false → items ≡ [] → ⊥
some_items items count is e none = eqb-false count 0 e (is ∙ ap length none)

-- the first bytes of no bytes are none
pub take_none : (longest : ℕ) (items : List ℕ) → items ≡ [] → take longest items ≡ []
take_none longest items none = take_all longest items (omega (arith, ap length none)) ∙ none

-- The first `longest` bytes of a line that goes on with `part` are `new`: what was kept of the line so far, `last`, and
-- as many bytes of the part as there is room for.
pub kept_front : (longest : ℕ) (kept last part new : List ℕ) → kept ≡ take longest last
    → new ≡ kept ++ take (longest - length kept) part → new ≡ take longest (last ++ part)
kept_front longest kept last part new is e = elim (leb_tells (length last) longest) [
  | inl short ↦
      let all : kept ≡ last = is ∙ take_all longest last short.1 in
      let room : longest ≡ length last + (longest - length last) = omega (arith, short.1) in
      e ∙ ap (λ (l : List ℕ). l ++ take (longest - length l) part) all
      ∙ sym (ap (λ (n : ℕ). take n (last ++ part)) room ∙ take-append-add last part (longest - length last))
  | inr long ↦
      let full : length kept ≡ longest = ap length is ∙ length-take-le longest last (omega (arith, long.1)) in
      let none : longest - length kept ≡ 0 = omega (arith, full) in
      e ∙ ap (λ (n : ℕ). kept ++ take n part) none ∙ append-nil kept ∙ is ∙ sym (take-append-le longest last part (omega (arith, long.1)))
]

-- a line of which nothing is kept has no bytes, since at least one would be kept
pub nothing_kept : (longest : ℕ) (kept last : List ℕ) → 0 < longest → kept ≡ take longest last → kept ≡ [] → last ≡ []
nothing_kept longest kept last some is none = nil_from_length last
    (omega (arith, some, ap length (sym is ∙ none), length-take longest last))
