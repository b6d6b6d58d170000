-- The *run* of a piece is how many letters and digits are at its front, once it is padded with zeros to eight bytes.
-- All bytes of the piece are letters or digits exactly if the run is at least as long as the piece: `fold` tests this.
-- Then the padded bytes in lower case are what `Subtag` keeps.
use Rattle.std.proofs.Common.{◌≡◌, ℕ, zero, suc, ◌∷◌, ◌++◌, ◌<◌, ◌≤◌, ◌-◌, Bool, true, false, List, length, take}
use Rattle.std.proofs.Common.{get_or, replicate, refl, sym, ap, ◌∙◌, subst, arith}
use Rattle.std.specs.List.{list_all, prefix_len}
use Rattle.std.specs.Char.{is_ascii_alphanumeric, to_ascii_lowercase}
use Rattle.std.proofs.lemmas.List.{length-take-le, length-append, length-replicate, get_or-take, get_or_append_left}
use Rattle.std.proofs.lemmas.List.{take-take, take_at, take_all, map-append, length-map}
use Rattle.std.proofs.lemmas.List.Folds.{list_all_at}
use Rattle.std.proofs.lemmas.List.Sums.{list_all-from_AllPass, prefix_len_passes, prefix_len_stops, prefix_len-le-length}
use Rattle.std.proofs.lemmas.List.Elements.{All-from_get_or}
use Rattle.lt_subtag.specs.Bytes.{is_subtag, folded}
use Rattle.lt_subtag.proofs.BytesLemmas.{piece_folds}
use Rattle.lt_subtag.specs.Lanes.{padded}

-- the first n elements of v pass p, if the front of v that passes p is at least that long
pub run_passes : (p : ℕ → Bool) (v : List ℕ) (n : ℕ) → n ≤ prefix_len p v → list_all p (take n v) ≡ true
run_passes p v n le =
    let long = length-take-le n v (omega (arith, prefix_len-le-length p v)) in
    list_all-from_AllPass p (take n v)
    (All-from_get_or (λ x. p x ≡ true) (take n v) 0
    (λ k inside. subst (λ x. p x ≡ true) (sym (get_or-take n v k 0 (omega arith))) (prefix_len_passes p v k 0 (omega arith))))

-- up to eight bytes, padded, are eight
pub length_padded : (s : List ℕ) → length s ≤ 8 → length (padded s) ≡ 8
length_padded s few = length-append s (replicate (8 - length s) 0) ∙ omega (arith, length-replicate {A = ℕ} (8 - length s) 0)

-- the front of a padded piece is the piece
front_padded : (s : List ℕ) → length s ≤ 8 → take (length s) (take 8 (padded s)) ≡ s
front_padded s few = take-take (length s) 8 (padded s) few ∙ take_at s (replicate (8 - length s) 0) (length s) refl

-- r is the number of letters and digits at the front of the padded piece s; if s ends by there, all its bytes are such
pub padded_passes : (s : List ℕ) (r : ℕ) → length s ≤ 8 → r ≡ prefix_len is_ascii_alphanumeric (take 8 (padded s))
    → length s ≤ r → list_all is_ascii_alphanumeric s ≡ true
padded_passes s r few is le =
    subst (λ xs. list_all is_ascii_alphanumeric xs ≡ true) (front_padded s few)
    (run_passes is_ascii_alphanumeric (take 8 (padded s)) (length s) (omega arith))

-- if r ends before s does, a byte of s is neither a letter nor a digit
pub padded_fails : (s : List ℕ) (r : ℕ) → length s ≤ 8 → r ≡ prefix_len is_ascii_alphanumeric (take 8 (padded s))
    → r < length s → list_all is_ascii_alphanumeric s ≡ false
padded_fails s r few is lt =
    let v = take 8 (padded s) in
    let long = length-take-le 8 (padded s) (omega (arith, length_padded s few)) in
    let stop = subst (λ k. is_ascii_alphanumeric (get_or v k 0) ≡ false) (sym is)
    (prefix_len_stops is_ascii_alphanumeric v 0 (omega arith)) in
    let at = get_or-take 8 (padded s) r 0 (omega arith) ∙ get_or_append_left s (replicate (8 - length s) 0) 0 r lt in
    list_all_at is_ascii_alphanumeric s r 0 lt (subst (λ x. is_ascii_alphanumeric x ≡ false) at stop)

-- lower case leaves zeros as they are
zeros_fold : (n : ℕ) → folded (replicate n 0) ≡ replicate n 0
zeros_fold zero = refl
zeros_fold (suc n) = ap (λ zs. 0 ∷ zs) (zeros_fold n)

-- a padded piece in lower case is the piece in lower case, padded
pub folded_padded : (s : List ℕ) → length s ≤ 8 → folded (take 8 (padded s)) ≡ padded (folded s)
folded_padded s few =
    let n = 8 - length s in
    ap folded (take_all 8 (padded s) (omega (arith, length_padded s few))) ∙ map-append to_ascii_lowercase s (replicate n 0)
    ∙ ap (λ zs. folded s ++ zs) (zeros_fold n) ∙ ap (λ k. folded s ++ replicate (8 - k) 0) (sym (length-map s to_ascii_lowercase))

-- the front of `letters`, the padded piece s in lower case, is s in lower case
pub read_front : (s letters : List ℕ) → letters ≡ padded (folded s) → take (length s) letters ≡ folded s
read_front s letters is =
    ap (take (length s)) is ∙ take_at (folded s) (replicate (8 - length (folded s)) 0) (length s) (length-map s to_ascii_lowercase)

-- the invariant of `Subtag` holds for a piece s of 1 to 8 letters and digits: `letters`, its padded lower case, has the
-- subtag at its front and zeros after it
pub read_holds : (s letters : List ℕ) → letters ≡ padded (folded s) → list_all is_ascii_alphanumeric s ≡ true → 0 < length s → length s ≤ 8
    → (length s ≤ 8) × (is_subtag (take (length s) letters) ≡ true) × (letters ≡ padded (take (length s) letters))
read_holds s letters is good some few =
    let front = read_front s letters is in
    (few, ap is_subtag front ∙ piece_folds s good some few, is ∙ ap padded (sym front))
