-- Two texts have the same list exactly if they differ only in letter case, and the pieces of a text are read as subtags
-- exactly if its list has only subtags. So texts of subtags are printed alike exactly if they differ only in letter
-- case.
use Rattle.std.proofs.Common.{◌≡◌, ℕ, ◌<◌, true, suc, List, [], ◌∷◌, length, map, refl, sym, ap, ◌∙◌, arith}
use Rattle.std.specs.Prelude.{IsOk, slice_index_or, ◌↔◌}
use Rattle.std.specs.List.{list_all, join_with_byte, onto_first}
use Rattle.std.specs.Char.{is_ascii_alphanumeric, to_ascii_lowercase}
use Rattle.std.proofs.lemmas.Bool.{and_from}
use Rattle.std.proofs.lemmas.Bool.Decides.{nat_tests}
use Rattle.std.proofs.lemmas.List.{length-map, get_or-map}
use Rattle.lt_subtag.specs.Bytes.{is_subtag, is_subtag_byte, folded}
use Rattle.lt_subtag.specs.Reading.{subtag_of}
use Rattle.lt_tag.specs.Lists.{pieces, list_of}
use Rattle.lt_tag.specs.Faults.{HasList}
use Rattle.lt_tag.specs.Conventional.{conventional}
use Rattle.lt_tag.proofs.TagLemmas.{list_all-at}
use Rattle.lt_tag.proofs.TextLemmas.{some_pieces}
use Rattle.lt_tag.proofs.AgainLemmas.{subtags_again}

-- a byte put on the first piece is in front of the text that hyphens (45) join
join_onto : (b : ℕ) (ps : List (List ℕ)) → 0 < length ps → join_with_byte 45 (onto_first b ps) ≡ b ∷ join_with_byte 45 ps
join_onto b [] n = absurd (omega arith)
join_onto b (p ∷ []) n = refl
join_onto b (p ∷ q ∷ ps) n = refl

-- an empty piece in front puts a hyphen in front of the text that hyphens join
join_empty : (ps : List (List ℕ)) → 0 < length ps → join_with_byte 45 ([] ∷ ps) ≡ 45 ∷ join_with_byte 45 ps
join_empty [] n = absurd (omega arith)
join_empty (p ∷ ps) n = refl

-- the pieces of a text joined by hyphens are the text
pub join_pieces : (text : List ℕ) → join_with_byte 45 (pieces text) ≡ text
join_pieces [] = refl
join_pieces (b ∷ bs) = grind (arith, nat_tests, some_pieces bs, join_pieces bs, join_empty (pieces bs), join_onto b (pieces bs))

-- to put a byte in front of the first piece and then make all lower case is to put it in lower case in front of the
-- pieces in lower case
folded_onto : (b : ℕ) (ps : List (List ℕ)) → map folded (onto_first b ps) ≡ onto_first (to_ascii_lowercase b) (map folded ps)
folded_onto b [] = refl
folded_onto b (p ∷ ps) = refl

-- the list of a text is the pieces of the text in lower case
pub list_of_is : (text : List ℕ) → list_of text ≡ pieces (folded text)
list_of_is [] = refl
list_of_is (b ∷ bs) = grind (arith, nat_tests, list_of_is bs, folded_onto b (pieces bs))

-- texts with the same list differ only in letter case
pub same_letters : (a b : List ℕ) → list_of a ≡ list_of b → folded a ≡ folded b
same_letters a b e =
    sym (join_pieces (folded a)) ∙ ap (join_with_byte 45) (sym (list_of_is a) ∙ e ∙ list_of_is b) ∙ join_pieces (folded b)

-- texts that differ only in letter case have the same list
pub same_list : (a b : List ℕ) → folded a ≡ folded b → list_of a ≡ list_of b
same_list a b e = list_of_is a ∙ ap pieces e ∙ sym (list_of_is b)

-- a piece that in lower case has only bytes of subtags has only ASCII letters and digits
bytes_from_lower : (p : List ℕ) → list_all is_subtag_byte (folded p) ≡ true → list_all is_ascii_alphanumeric p ≡ true
bytes_from_lower [] h = refl
bytes_from_lower (b ∷ p) h = grind (arith, nat_tests, bytes_from_lower p)

-- a piece of only ASCII letters and digits has in lower case only bytes of subtags
bytes_to_lower : (p : List ℕ) → list_all is_ascii_alphanumeric p ≡ true → list_all is_subtag_byte (folded p) ≡ true
bytes_to_lower [] h = refl
bytes_to_lower (b ∷ p) h = grind (arith, nat_tests, bytes_to_lower p)

-- a piece that is a subtag in lower case is read as one
piece_is : (p : List ℕ) → is_subtag (folded p) ≡ true → IsOk (subtag_of p)
unfolding is_subtag
piece_is p h = grind (arith, nat_tests, length-map p to_ascii_lowercase, bytes_from_lower p)

-- a piece that is read as a subtag is one in lower case
piece_folds : (p : List ℕ) → IsOk (subtag_of p) → is_subtag (folded p) ≡ true
unfolding is_subtag
piece_folds p h = grind (arith, nat_tests, length-map p to_ascii_lowercase, bytes_to_lower p)

-- pieces that are each read as a subtag are subtags in lower case
pieces_folded : (ps : List (List ℕ)) → ((i : ℕ) → i < length ps → IsOk (subtag_of (slice_index_or ps i [])))
    → list_all is_subtag (map folded ps) ≡ true
pieces_folded [] h = refl
pieces_folded (p ∷ ps) h =
    and_from (is_subtag (folded p)) (list_all is_subtag (map folded ps)) (piece_folds p (h 0 (omega arith)))
    (pieces_folded ps (λ i n. h (suc i) (omega arith)))

-- the list of a text is one of subtags if each piece is read as a subtag
pub from_HasList : (text : List ℕ) → HasList text → list_all is_subtag (list_of text) ≡ true
from_HasList text h = pieces_folded (pieces text) h

-- each piece of a text is read as a subtag if its list is one of subtags
pub to_HasList : (text : List ℕ) → list_all is_subtag (list_of text) ≡ true → HasList text
to_HasList text h i n =
    let ps = pieces text in
    let long : i < length (map folded ps) = omega (arith, length-map ps folded) in
    let here : slice_index_or (map folded ps) i [] ≡ folded (slice_index_or ps i []) = get_or-map folded ps i [] [] n in
    piece_is (slice_index_or ps i []) (ap is_subtag (sym here) ∙ list_all-at is_subtag (map folded ps) i h long)

-- the list of a text, printed in conventional case, is read as that list
pub printed_again : (text : List ℕ) → HasList text → list_of (conventional (list_of text)) ≡ list_of text
printed_again text h = subtags_again (list_of text) (omega (arith, length-map (pieces text) folded, some_pieces text)) (from_HasList text h)

-- two texts whose pieces are subtags are printed alike exactly if they differ only in letter case
pub printed_alike : (a b : List ℕ) → HasList a → HasList b → (conventional (list_of a) ≡ conventional (list_of b)) ↔ (folded a ≡ folded b)
printed_alike a b h k = (
  λ e. same_letters a b (sym (printed_again a h) ∙ ap list_of e ∙ printed_again b k),
  λ e. ap conventional (same_list a b e),
)
