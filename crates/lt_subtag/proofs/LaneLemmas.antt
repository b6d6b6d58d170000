-- A *load* is bytes of a text in a vector, a lane for each, and a mask has a bit for each lane. These lemmas are for
-- `run_of_8` and `fold_8`: the lowest bit set in the mask of a load tells how many bytes at its front pass a test, and
-- a choice between two vectors, lane by lane, is a choice for each byte.
use Rattle.std.proofs.Common.{◌≡◌, ℕ, ◌+◌, ◌%◌, ◌^◌, ◌<◌, ◌≤◌, eqb, Bool, true, not, List, [], ◌∷◌, map, length, get_or}
use Rattle.std.proofs.Common.{cond, Fits, w8, refl, ap, ap₂, ◌∙◌, arith}
use Rattle.std.proofs.lemmas.Bool.{agree_below, agree_below_at, eqb-true}
use Rattle.std.proofs.lemmas.Simd.{map-map, mask_l-mod, first_set_mask_l, length-chunk, chunk-fits, below_from_Fits, zip2_of_maps}
use Rattle.std.proofs.lemmas.List.{length-map}
use Rattle.std.specs.List.{prefix_len}
use lib.Lanes.{chunk, zip2, mask_l, top, sel_l, Each1}
use Rattle.lt_subtag.specs.Lanes.{first_set}

-- if two vectors are f and g of each lane of v, and h joins them lane by lane, each lane that comes of it is h of the
-- two
pub joined : (h : ℕ → ℕ → ℕ) (f g : ℕ → ℕ) (v : List ℕ) {a b : List ℕ} → a ≡ map f v → b ≡ map g v → zip2 h a b ≡ map (λ x. h (f x) (g x)) v
joined h f g v p q = zip2_of_maps h f g v p q

-- a vector as a function of its own lanes, the form in which `joined` and `selected` take it
pub itself : (v : List ℕ) → v ≡ map (λ x. x) v
itself [] = refl
itself (x ∷ xs) = ap (λ r. x ∷ r) (itself xs)

-- tests that agree below 256 pass the same front of a list of bytes
front_agrees : (f g : ℕ → Bool) → agree_below f g 256 ≡ true → (v : List ℕ) → Each1 (λ x. x < 256) v → prefix_len f v ≡ prefix_len g v
front_agrees f g all [] h = refl
front_agrees f g all (x ∷ xs) h = ap₂ (λ t n. cond t (1 + n) 0) (agree_below_at f g 256 x all h.0) (front_agrees f g all xs h.1)

-- functions that agree below 256 make the same lanes of a list of bytes
pub lanes_agree : (f g : ℕ → ℕ) → agree_below (λ x. eqb (f x) (g x)) (λ _. true) 256 ≡ true → (v : List ℕ)
    → Each1 (λ x. x < 256) v → map f v ≡ map g v
lanes_agree f g all [] h = refl
lanes_agree f g all (x ∷ xs) h = ap₂ (λ y ys. y ∷ ys)
    (eqb-true _ _ (agree_below_at (λ x. eqb (f x) (g x)) (λ _. true) 256 x all h.0)) (lanes_agree f g all xs h.1)

-- a choice lane by lane gives g of a lane of v if f of that lane has its top bit (bit 7) set, else h of the lane
select_is : (f g h : ℕ → ℕ) (v : List ℕ) → sel_l (map (top 7) (map f v)) (map g v) (map h v) ≡ map (λ x. cond (top 7 (f x)) (g x) (h x)) v
select_is f g h [] = refl
select_is f g h (x ∷ xs) = ap (λ r. cond (top 7 (f x)) (g x) (h x) ∷ r) (select_is f g h xs)

-- if the vectors a, b and c are f, g and h of each lane of v, a choice lane by lane gives g of a lane if f of that lane
-- has its top bit set, else h of the lane
pub selected : (f g h : ℕ → ℕ) (v : List ℕ) {a b c : List ℕ} → a ≡ map f v → b ≡ map g v → c ≡ map h v
    → sel_l (map (top 7) a) b c ≡ map (λ x. cond (top 7 (f x)) (g x) (h x)) v
selected f g h v {a} {b} {c} p q r = ap (λ x. sel_l (map (top 7) x) b c) p
    ∙ ap₂ (λ y z. sel_l (map (top 7) (map f v)) y z) q r ∙ select_is f g h v

-- the lanes of a load, the n bytes of d from index i on, are below 256
pub bytes_of : (i n : ℕ) (d : List ℕ) → ((k : ℕ) → Fits w8 (get_or d k 0)) → Each1 (λ x. x < 256) (chunk i n d)
bytes_of i n d fits = below_from_Fits w8 (chunk i n d) (chunk-fits w8 i n d fits)

-- A load is the n bytes of d from index i on. Its mask is made of the lanes z, which are f of the bytes: the top bit of
-- a lane is set exactly where its byte fails q. r, found in the mask, is how many bytes pass q before one fails.
pub front_of : (q : ℕ → Bool) (d : List ℕ) (i n r : ℕ) (z : List ℕ) → i + n ≤ length d → n ≤ 64 → ((k : ℕ) → Fits w8 (get_or d k 0))
    → r ≡ first_set (mask_l (map (top 7) z) % 2 ^ 64) n → (f : ℕ → ℕ) → z ≡ map f (chunk i n d)
    → agree_below (λ x. not (top 7 (f x))) q 256 ≡ true → r ≡ prefix_len q (chunk i n d)
front_of q d i n r z room few fits found f lanes all =
    let v = chunk i n d in
    let long = length-chunk i n d room in
    let stops : ℕ → Bool = λ x. top 7 (f x) in
    let mask = ap (λ l. mask_l l % 2 ^ 64) (ap (map (top 7)) lanes ∙ map-map (top 7) f v)
    ∙ mask_l-mod (map stops v) 64 (omega (arith, length-map v stops, long)) in
    found ∙ ap (λ m. first_set m n) mask ∙ first_set_mask_l stops v n long few
    ∙ front_agrees (λ x. not (stops x)) q all v (bytes_of i n d fits)
