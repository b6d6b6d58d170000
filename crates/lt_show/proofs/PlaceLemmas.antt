-- For the loop of `place`, which cuts a text at its hyphens and gives each piece the next kind: which parts it has at
-- each turn (`Reached`), and that these are all parts at the end.
use Rattle.std.proofs.Common.{◌≡◌, ℕ, ◌≤◌, ◌<◌, ◌+◌, ◌-◌, ◌==◌, true, false, List, [], ◌∷◌, ◌++◌, length, take, drop}
use Rattle.std.proofs.Common.{refl, sym, ap, ◌∙◌, arith, append_assoc, length-drop, get_or}
use Rattle.std.specs.Prelude.{Option, Some, None, position, is_some, unwrap_or}
use Rattle.std.proofs.lemmas.List.{take_rest, drop_more, drop-drop, length-take-le, append-nil}
use Rattle.std.proofs.lemmas.List.Quantifiers.{position-Some}
use Rattle.std.proofs.Math.ListN.{drop_of_length-le}
use Rattle.lt_tag.specs.Lists.{pieces}
use Rattle.lt_tag.proofs.PiecesLemmas.{pieces_cut, pieces_one}
use Rattle.lt_show.specs.Places.{placed}
use Rattle.lt_show.specs.declared.kinds.PartKind.{PartKind}
use Rattle.lt_show.specs.declared.placing.Part.{Part}

-- the index of the first hyphen (45), if there is one
abbrev hyphen : List ℕ → Option ℕ
hyphen text = position (λ b. b == 45) text

-- the part of this kind, with `size` bytes from `start` on
abbrev part : PartKind → ℕ → ℕ → Part
part kind start size = record { kind = kind; start = start; length = size }

-- without texts there are no parts
pub none_placed : (start : ℕ) (ks : List PartKind) → placed start ks [] ≡ []
none_placed start [] = refl
none_placed start (k ∷ ks) = refl

-- if the first hyphen from `start` on is `h` bytes further, the parts from `start` on are the one up to the hyphen and
-- those after it; `i` is the index of the next kind, and `d` is only the default of `get_or`
placed_cut : (kinds : List PartKind) (text : List ℕ) (i start h : ℕ) (d : PartKind) → i < length kinds → hyphen (drop start text) ≡ Some h
    → placed start (drop i kinds) (pieces (drop start text)) ≡ part (get_or kinds i d) start h
    ∷ placed (start + (h + 1)) (drop (i + 1) kinds) (pieces (drop (start + (h + 1)) text))
placed_cut kinds text i start h d lt found =
    let rest : List ℕ = drop start text in
    let k : PartKind = get_or kinds i d in
    let ks : List PartKind = drop (i + 1) kinds in
    let cut : pieces rest ≡ take h rest ∷ pieces (drop (h + 1) rest) =
    pieces_cut rest h found ∙ ap (λ (x : List ℕ). take h rest ∷ pieces x) (take_rest rest (h + 1)) in
    let within : h < length rest = (position-Some (λ (b : ℕ). b == 45) rest h 0 found).0 in
    let here : length (take h rest) ≡ h = length-take-le h rest (omega arith) in
    let sum : start + h + 1 ≡ start + (h + 1) = omega arith in
    ap (λ (x : List PartKind). placed start x (pieces rest)) (drop_more kinds i d lt)
    ∙ ap (λ (x : List (List ℕ)). placed start (k ∷ ks) x) cut
    ∙ ap (λ n. part k start n ∷ placed (start + n + 1) ks (pieces (drop (h + 1) rest))) here
    ∙ ap (λ n. part k start h ∷ placed n ks (pieces (drop (h + 1) rest))) sum
    ∙ ap (λ (x : List ℕ). part k start h ∷ placed (start + (h + 1)) ks (pieces x)) (drop-drop (h + 1) start text)

-- if the text has no hyphen from `start` on, the rest of the text is one part, of the kind at index `i`; `d` is only
-- the default of `get_or`
placed_last : (kinds : List PartKind) (text : List ℕ) (i start : ℕ) (d : PartKind) → i < length kinds → hyphen (drop start text) ≡ None
    → placed start (drop i kinds) (pieces (drop start text)) ≡ part (get_or kinds i d) start (length (drop start text)) ∷ []
placed_last kinds text i start d lt found =
    let rest : List ℕ = drop start text in
    let k : PartKind = get_or kinds i d in
    let ks : List PartKind = drop (i + 1) kinds in
    ap (λ (x : List PartKind). placed start x (pieces rest)) (drop_more kinds i d lt)
    ∙ ap (λ (x : List (List ℕ)). placed start (k ∷ ks) x) (pieces_one rest found)
    ∙ ap (λ (x : List Part). part k start (length rest) ∷ x) (none_placed (start + length rest + 1) ks)

-- `parts` are those of the first `i` kinds, and the text behind them begins at `start`: with the parts of that text
-- they are all parts
pub record Reached (kinds : List PartKind) (text : List ℕ) (i start : ℕ) (parts : List Part) : Type 0 where
  pub within : start ≤ length text
  pub all : parts ++ placed start (drop i kinds) (pieces (drop start text)) ≡ placed 0 kinds (pieces text)

-- one part was placed, behind the `parts` before it: `end` is the next hyphen's index in the rest of the text, `size`
-- the part's length, and `more` the parts with it; `kind` is only the default of `get_or`
pub record Places (kinds : List PartKind) (text : List ℕ) (i start : ℕ) (parts : List Part) (end : Option ℕ) (size : ℕ)
    (more : List Part) : Type 0 where
  pub kind : PartKind
  pub there : i < length kinds
  pub before : Reached kinds text i start parts
  pub found : end ≡ hyphen (take (length text - start) (drop start text))
  pub is_size : size ≡ unwrap_or end (length (take (length text - start) (drop start text)))
  pub pushed : more ≡ parts ++ part (get_or kinds i kind) start size ∷ []

-- if a hyphen ends the part, the next part begins behind that hyphen, and the parts so far with those from there are
-- all
pub reached_next : (kinds : List PartKind) (text : List ℕ) (i start : ℕ) (parts : List Part) (end : Option ℕ) (size
    : ℕ) (more : List Part) → Places kinds text i start parts end size more → is_some end ≡ true
    → Reached kinds text (i + 1) (start + (size + 1)) more
reached_next kinds text i start parts None size more p some = cc
reached_next kinds text i start parts (Some h) size more p some =
    let found : hyphen (drop start text) ≡ Some h = ap hyphen (sym (take_rest text start)) ∙ sym p.found in
    let lies : h < length (drop start text) = (position-Some (λ (b : ℕ). b == 45) (drop start text) h 0 found).0 in
    let within : start + (h + 1) ≤ length text = omega (arith, p.before.within, length-drop start text) in
    let last : List Part = part (get_or kinds i p.kind) start h ∷ [] in
    let on : List Part = placed (start + (h + 1)) (drop (i + 1) kinds) (pieces (drop (start + (h + 1)) text)) in
    let all : (parts ++ last) ++ on ≡ placed 0 kinds (pieces text) =
    append_assoc parts last on
    ∙ ap (λ (x : List Part). parts ++ x) (sym (placed_cut kinds text i start h p.kind p.there found))
    ∙ p.before.all in
    let next : Reached kinds text (i + 1) (start + (h + 1)) (parts ++ last) = record { within = within; all = all } in
    rw (p.pushed, p.is_size) next

-- if no hyphen ends the part, the parts with it are all
pub reached_last : (kinds : List PartKind) (text : List ℕ) (i start : ℕ) (parts : List Part) (end : Option ℕ) (size
    : ℕ) (more : List Part) → Places kinds text i start parts end size more → is_some end ≡ false
    → more ≡ placed 0 kinds (pieces text)
reached_last kinds text i start parts (Some h) size more p none = cc
reached_last kinds text i start parts None size more p none =
    let found : hyphen (drop start text) ≡ None = ap hyphen (sym (take_rest text start)) ∙ sym p.found in
    p.pushed
    ∙ ap (λ n. parts ++ part (get_or kinds i p.kind) start n ∷ []) (p.is_size ∙ ap length (take_rest text start))
    ∙ ap (λ (x : List Part). parts ++ x) (sym (placed_last kinds text i start p.kind p.there found)) ∙ p.before.all

-- past the last kind, the parts so far are all
pub reached_end : (kinds : List PartKind) (text : List ℕ) (i start : ℕ) (parts : List Part)
    → Reached kinds text i start parts → length kinds ≤ i → parts ≡ placed 0 kinds (pieces text)
reached_end kinds text i start parts r past =
    let empty : drop i kinds ≡ [] = drop_of_length-le kinds past in
    sym (ap (λ (x : List PartKind). parts ++ placed start x (pieces (drop start text))) empty ∙ append-nil parts) ∙ r.all
