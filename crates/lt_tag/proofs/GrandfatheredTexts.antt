-- A text has the list of a grandfathered tag exactly if it is the text of that tag in some letter case, and such a list
-- has at most 3 subtags: so `number_of_text` compares texts, `number_of` compares the pieces of a text with a list, and
-- `Core::literal` looks only at the first four subtags of a core.
use Rattle.std.proofs.Common.{◌≡◌, ℕ, ◌≤◌, ◌<◌, ◌+◌, Bool, true, false, not, List, [], ◌∷◌, ◌++◌, length, take, drop}
use Rattle.std.proofs.Common.{get_or, refl, sym, ap, ◌∙◌, arith, Bor, ◌-◌, zero, suc, map}
use Rattle.std.specs.Prelude.{Option, Some, None, IsTrue, is_some, nat_le, IfSome, IfNone, slice_get, slice_index_or, sum_by}
use Rattle.std.proofs.lemmas.List.{append_assoc, append-nil, append_cancel_left, take-append-drop, take_all, drop_more}
use Rattle.std.proofs.lemmas.List.{length-take, get_or-map, length-map, length-append}
use Rattle.std.proofs.lemmas.Grind.{take_at_read}
use Rattle.lt_tag.specs.Lists.{pieces, list_of}
use Rattle.lt_tag.specs.Rest.{pieces_left}
use Rattle.lt_tag.proofs.TextLemmas.{some_pieces}
use Rattle.lt_tag.proofs.ListLemmas.{head_is}
use Rattle.lt_tag.specs.WellFormed.{IsNotGrandfathered}
use Rattle.std.specs.List.{list_all, join_with_byte, onto_first}
use Rattle.std.proofs.lemmas.Bool.{leb-true}
use Rattle.lt_tag.specs.Grandfathered.{grandfathered_texts, grandfathered_list, IsGrandfathered}
use Rattle.lt_tag.proofs.TagLemmas.{list_all-at, table_length}
use Rattle.std.specs.Char.{to_ascii_lowercase}
use Rattle.lt_subtag.specs.Bytes.{is_subtag, folded}
use Rattle.lt_tag.specs.Parts.{Grandfathered}
use Rattle.lt_tag.specs.GrandfatheredFronts.{begins_listed}
use Rattle.lt_tag.specs.Faults.{HasList}
use Rattle.lt_tag.proofs.ShapeLemmas.{tag_subtags}
use Rattle.lt_tag.proofs.LetterLemmas.{join_pieces, list_of_is, to_HasList}
use Rattle.std.proofs.lemmas.List.Sums.{sum_by-cons}
use Rattle.std.proofs.lemmas.Bool.Decides.{nat_tests}

-- if a list goes on with x after its first i subtags, the subtag s that is read at index i is x
pub next_is : (list : List (List ℕ)) (i : ℕ) (s x : List ℕ) (more : List (List ℕ)) → i < length list
    → s ≡ get_or list i s → list ≡ take i list ++ x ∷ more → s ≡ x
next_is list i s x more within read e =
    let rest : drop i list ≡ x ∷ more = append_cancel_left (take i list) (drop i list) (x ∷ more) (take-append-drop i list ∙ e) in
    let here : drop i list ≡ get_or list i s ∷ drop (i + 1) list = drop_more list i s within in
    read ∙ head_is (get_or list i s) x (drop (i + 1) list) more (sym here ∙ rest)

-- One step more: if the pieces ps begin with the first i subtags of a list, and then comes the piece p, which is the
-- next subtag s, and then `more`, the pieces ps begin with the first i + 1 subtags.
pub one_more : (ps list : List (List ℕ)) (i : ℕ) (s p : List ℕ) (more : List (List ℕ)) → i < length list
    → s ≡ get_or list i s → s ≡ p → ps ≡ take i list ++ p ∷ more → ps ≡ take (i + 1) list ++ more
one_more ps list i s p more within read same e = rw ((take_at_read list i s within).1, append_assoc (take i list), ← read, same) e

-- if no subtag of the list is left, it equals the pieces ps exactly if no piece is left either, which r tells
pub at_end : (list ps : List (List ℕ)) (i : ℕ) (rest : Option (Bor (List ℕ))) (r : Bool) → length list ≤ i
    → ps ≡ take i list ++ pieces_left rest → is_some rest ≡ not r
    → (IsTrue r → list ≡ ps) × (list ≡ ps → IsTrue r)
at_end list ps i None true n e h = (λ _. rw (e, append-nil (take i list)) (sym (take_all i list n)), λ _. refl)
at_end list ps i (Some rest) true n e h = (λ _. cc, λ _. refl)
at_end list ps i None false n e h = (λ t. cc, λ s. cc)
at_end list ps i (Some rest) false n e h = (
  λ t. cc,
  λ s. absurd
      (omega (
        arith,
        some_pieces rest.now,
        ap length s,
        ap length e,
        length-append (take i list) (pieces rest.now),
        ap length (take_all i list n),
      )),
)

-- ---- the first four subtags

-- each of the 26 texts has at most 3 pieces
short_in_table : list_all (λ (t : List ℕ). nat_le (length (pieces t)) 3) grandfathered_texts ≡ true
unfolding grandfathered_texts
short_in_table = refl

-- the list of a grandfathered tag has at most 3 subtags
pub short : (number : ℕ) → 1 ≤ number → number ≤ 26 → length (grandfathered_list number) ≤ 3
unfolding grandfathered_list
short number first last =
    leb-true _ 3 (list_all-at (λ (t : List ℕ). nat_le (length (pieces t)) 3) grandfathered_texts (number - 1)
    short_in_table (omega (arith, table_length)))

-- a list whose first four subtags are those of a grandfathered tag has no others
pub from_front : (list : List (List ℕ)) (number : ℕ) → IsGrandfathered (take 4 list) number → IsGrandfathered list number
from_front list number g =
    let few = short number g.first g.last in
    let same : length (take 4 list) ≡ length (grandfathered_list number) = ap length g.same in
    record { first = g.first; last = g.last; same = sym (take_all 4 list (omega (arith, length-take 4 list))) ∙ g.same }

-- the first four subtags of a grandfathered list are the whole list
pub to_front : (list : List (List ℕ)) (number : ℕ) → IsGrandfathered list number → IsGrandfathered (take 4 list) number
to_front list number g =
    let few = short number g.first g.last in
    let same : length list ≡ length (grandfathered_list number) = ap length g.same in
    record { first = g.first; last = g.last; same = take_all 4 list (omega arith) ∙ g.same }

-- to cut a list to n elements, add others and cut again is to add them and cut once
pub take-take_append : {X : Type 0} (n : ℕ) (xs ys : List X) → take n (take n xs ++ ys) ≡ take n (xs ++ ys)
take-take_append zero xs ys = refl
take-take_append (suc n) [] ys = refl
take-take_append (suc n) (x ∷ xs) ys = ap (◌∷◌ x) (take-take_append n xs ys)

-- the number found for `front`, the first four subtags of a list, is that of the list
pub literal_found : (o : Option ℕ) (front list : List (List ℕ)) → front ≡ take 4 list
    → IfSome o (λ n. IsGrandfathered front n) → IfSome o (λ n. IsGrandfathered list n)
literal_found None front list e h = h
literal_found (Some n) front list e h = from_front list n (rw (← e) h)

-- if no number is found for `front`, the first four subtags of a list, the list has none
pub literal_none : (o : Option ℕ) (front list : List (List ℕ)) → front ≡ take 4 list
    → IfNone o (IsNotGrandfathered front) → IfNone o (IsNotGrandfathered list)
literal_none None front list e h = λ n g. h n (rw e (to_front list n g))
literal_none (Some n) front list e h = h

-- ---- a text has the list of a grandfathered tag exactly if it is that text in some letter case

-- the text of the grandfathered tag with this number
abbrev known : ℕ → List ℕ
known number = slice_index_or grandfathered_texts (number - 1) []

-- the 26 texts are in lower case
lower_table : map folded grandfathered_texts ≡ grandfathered_texts
unfolding grandfathered_texts
lower_table = refl

-- the text of each number is in lower case
folded-known : (number : ℕ) → 1 ≤ number → number ≤ 26 → folded (known number) ≡ known number
folded-known number first last =
    sym (get_or-map folded grandfathered_texts (number - 1) [] [] (omega (arith, table_length)))
    ∙ ap (λ (z : List (List ℕ)). slice_index_or z (number - 1) []) lower_table

-- a text that is, in some letter case, the text of a number has that number's list
pub match_found : (text : List ℕ) (number : ℕ) → 1 ≤ number → number ≤ 26 → folded text ≡ folded (known number)
    → IsGrandfathered (list_of text) number
unfolding grandfathered_list
match_found text number first last h =
    record { first = first; last = last; same = list_of_is text ∙ ap pieces (h ∙ folded-known number first last) }

-- a text that has the list of a number is that number's text in some letter case
pub match_needed : (text : List ℕ) (number : ℕ) → IsGrandfathered (list_of text) number → folded text ≡ folded (known number)
unfolding grandfathered_list
match_needed text number g =
    sym (join_pieces (folded text)) ∙ ap (join_with_byte 45) (sym (list_of_is text) ∙ g.same)
    ∙ join_pieces (known number) ∙ sym (folded-known number g.first g.last)

-- each piece of a text that has a grandfathered list is a subtag
pub match_listed : (text : List ℕ) (number : ℕ) → IsGrandfathered (list_of text) number → HasList text
match_listed text number g = to_HasList text (ap (list_all is_subtag) g.same ∙ tag_subtags (Grandfathered number) (g.first, g.last))

-- a byte put on the first piece adds one to the bytes of the pieces
sum-onto_first : (b : ℕ) (ps : List (List ℕ)) → 0 < length ps
    → sum_by length (onto_first b ps) + length (onto_first b ps) ≡ sum_by length ps + length ps + 1
sum-onto_first b [] n = absurd (omega arith)
sum-onto_first b (p ∷ ps) n = omega (arith, sum_by-cons (λ (x : List ℕ). length x) (b ∷ p) ps, sum_by-cons (λ (x : List ℕ). length x) p ps)

-- the bytes of the pieces and the number of pieces are together one more than the text has bytes, since a hyphen is
-- between any two
pub sum-pieces : (text : List ℕ) → sum_by length (pieces text) + length (pieces text) ≡ length text + 1
sum-pieces [] = refl
sum-pieces (b ∷ bs) =
    grind (
      arith,
      nat_tests,
      sum-pieces bs,
      sum_by-cons (λ (x : List ℕ). length x) [] (pieces bs),
      sum-onto_first b (pieces bs),
      some_pieces bs,
    )

-- the bytes and the number of the subtags of a grandfathered list are together one more than its text has bytes
pub list_length : (list : List (List ℕ)) (number : ℕ) → IsGrandfathered list number
    → sum_by length list + length list ≡ length (known number) + 1
unfolding grandfathered_list
list_length list number g = ap (λ (l : List (List ℕ)). sum_by length l + length l) g.same ∙ sum-pieces (known number)

-- each of the 26 texts passes `begins_listed` by its length and its first byte
begin_listed : list_all (λ (t : List ℕ). begins_listed (length t) (slice_index_or t 0 0)) grandfathered_texts ≡ true
unfolding grandfathered_texts
begin_listed = refl

-- each text that has a grandfathered list passes `begins_listed` by its length and its first byte in lower case
text_begins : (text : List ℕ) (number : ℕ) → IsGrandfathered (list_of text) number
    → begins_listed (length text) (to_ascii_lowercase (slice_index_or text 0 0)) ≡ true
text_begins text number g =
    let same : folded text ≡ known number = match_needed text number g ∙ folded-known number g.first g.last in
    let all = list_all-at (λ (t : List ℕ). begins_listed (length t) (slice_index_or t 0 0)) grandfathered_texts
    (number - 1) begin_listed (omega (arith, table_length, g.first, g.last)) in
    rw (← length-map text to_ascii_lowercase, first_folded text, same) all
  where
    first_folded : (text : List ℕ) → to_ascii_lowercase (slice_index_or text 0 0) ≡ slice_index_or (folded text) 0 0
    first_folded [] = refl
    first_folded (b ∷ bs) = refl

-- a text whose first byte is `first`, and which has a grandfathered list, passes `begins_listed`
pub first_begins : (text : List ℕ) (number first : ℕ) → Some first ≡ slice_get text 0
    → IsGrandfathered (list_of text) number → begins_listed (length text) (to_ascii_lowercase first) ≡ true
first_begins [] number first h g = cc
first_begins (b ∷ bs) number first h g = let same : first ≡ b = cc in rw same (text_begins (b ∷ bs) number g)

-- an empty text has no grandfathered list
pub none_begins : (text : List ℕ) (number : ℕ) → None ≡ slice_get text 0 → IsGrandfathered (list_of text) number → ⊥
none_begins [] number h g = let impossible : false ≡ true = text_begins [] number g in cc
none_begins (b ∷ bs) number h g = cc
