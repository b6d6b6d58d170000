-- Whether a list begins with another, `front`, is found subtag by subtag: `after_front` needs this.
use Rattle.std.proofs.Common.{◌≡◌, ℕ, ◌<◌, ◌+◌, List, [], ◌∷◌, ◌++◌, length, get_or, take, drop, sym, ap, ◌∙◌}
use Rattle.std.proofs.lemmas.List.{append_assoc, append_cancel_left, take-append-drop, drop_more}
use Rattle.lt_range.specs.Matching.{BeginsWith}

module _ {X : Type 0} where
  -- a list is its first `i` elements, the one at index `i`, and the others; `d` stands for an index past the end
  pub parted : (xs : List X) (i : ℕ) (d : X) → i < length xs → xs ≡ take i xs ++ get_or xs i d ∷ drop (i + 1) xs
  parted xs i d h = sym (take-append-drop i xs) ∙ ap (λ (l : List X). take i xs ++ l) (drop_more xs i d h)

-- if `list` begins with the first `i` subtags of `front` and has the next one, `x`, after them, it begins with the
-- first `i + 1`; `rest` is what follows the `i`, and `others` what follows the `i + 1`
pub front_next : (front list rest others : List (List ℕ)) (i : ℕ) (x : List ℕ) → list ≡ take i front ++ rest → rest ≡ x ∷ others
    → take (i + 1) front ≡ take i front ++ x ∷ [] → list ≡ take (i + 1) front ++ others
front_next front list rest others i x so_far here more =
    so_far ∙ ap (λ (l : List (List ℕ)). take i front ++ l) here ∙ sym (append_assoc (take i front) (x ∷ []) others)
    ∙ ap (λ (l : List (List ℕ)). l ++ others) (sym more)

-- if `list` begins with the first `i` subtags of `front`, but `rest`, what follows them, doesn't begin with the next
-- one, `list` doesn't begin with `front`
pub front_stops : (front list rest : List (List ℕ)) (i : ℕ) (d : List ℕ) → i < length front → list ≡ take i front ++ rest
    → ((others : List (List ℕ)) → rest ≡ get_or front i d ∷ others → ⊥) → BeginsWith front list → ⊥
front_stops front list rest i d within so_far other begins =
    let more : List (List ℕ) = begins.0 in
    let s : List ℕ = get_or front i d in
    let whole : take i front ++ rest ≡ take i front ++ s ∷ (drop (i + 1) front ++ more) =
    sym so_far ∙ begins.1 ∙ ap (λ (l : List (List ℕ)). l ++ more) (parted front i d within)
    ∙ append_assoc (take i front) (s ∷ drop (i + 1) front) more in
    other (drop (i + 1) front ++ more) (append_cancel_left (take i front) rest (s ∷ (drop (i + 1) front ++ more)) whole)
