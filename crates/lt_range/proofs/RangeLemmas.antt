-- The bytes of a language range are those of a *word*, neither white space nor a semicolon: so an element of a header
-- is cut just after its range. HeaderLaws needs this.
use Rattle.std.proofs.Common.{◌≡◌, ℕ, Bool, true, false, List, [], ◌∷◌, length, cond, refl, subst, arith}
use Rattle.std.specs.Prelude.{◌==◌, nat_le, Option, Some, None, Result, Ok, Err, IsOk}
use Rattle.std.specs.List.{list_all, AllByRecursion, join_with_byte}
use Rattle.std.specs.Char.{is_ascii_alphanumeric}
use Rattle.std.proofs.lemmas.Bool.Decides.{nat_tests}
use Rattle.std.proofs.lemmas.List.Splits.{join_with_byte-slice_split}
use Rattle.lt_subtag.specs.Bytes.{folded}
use Rattle.lt_subtag.specs.Reading.{subtag_of}
use Rattle.lt_subtag.specs.declared.SubtagFault.{SubtagFault}
use Rattle.lt_subtag.specs.declared.SubtagFault.TheVariants as subtag_faults
use Rattle.lt_tag.specs.Lists.{pieces}
use Rattle.lt_tag.proofs.ListLemmas.{list_all-append}
use Rattle.lt_range.specs.Reading.{is_star, of_subtag, of_first, later_piece, first_piece, with_piece, later_pieces}
use Rattle.lt_range.specs.Reading.{begun, range_of_pieces, range_of}
use Rattle.lt_range.specs.declared.faults.RangeFault.{RangeFault}
use Rattle.lt_range.specs.Words.{is_word_byte}
use Rattle.lt_range.proofs.WordLemmas.{all_imply}

-- the bytes of a text may all be in a word: none is white space or a semicolon
abbrev IsWord : List ℕ → Type 0
IsWord text = list_all is_word_byte text ≡ true

-- `*` is a word
star_word : (p : List ℕ) → is_star p ≡ true → IsWord p
star_word [] h = refl
star_word (b ∷ []) h = grind (arith, nat_tests)
star_word (b ∷ c ∷ bs) h = cc

-- letters and digits are bytes of a word
word_byte_of_letter : (b : ℕ) → is_ascii_alphanumeric b ≡ true → is_word_byte b ≡ true
word_byte_of_letter b h = grind (arith, nat_tests)

-- what is read as a subtag is a word
subtag_word : (p : List ℕ) → IsOk (subtag_of p) → IsWord p
subtag_word p h = all_imply is_ascii_alphanumeric is_word_byte word_byte_of_letter p
    (go (length p == 0) (list_all is_ascii_alphanumeric p) (nat_le (length p) 8) refl h)
  where
    go : (empty letters short : Bool) → list_all is_ascii_alphanumeric p ≡ letters
        → IsOk (cond empty (Err subtag_faults.Empty)
        (cond letters (cond short (Ok (folded p)) (Err subtag_faults.TooLong)) (Err subtag_faults.BadByte)))
        → list_all is_ascii_alphanumeric p ≡ true
    go true letters short e k = cc
    go false true short e k = e
    go false false short e k = cc

-- what is read as a later subtag of a range is read as a subtag
of_subtag_ok : (r : Result (List ℕ) SubtagFault) → IsOk (of_subtag r) → IsOk r
of_subtag_ok (Ok s) h = refl
of_subtag_ok (Err fault) h = cc

-- what is read as the first subtag of a range is read as a subtag
of_first_ok : (r : Result (List ℕ) SubtagFault) → IsOk (of_first r) → IsOk r
of_first_ok (Ok s) h = refl
of_first_ok (Err fault) h = cc

-- a later piece of a range, a subtag or `*`, is a word
later_word : (p : List ℕ) → IsOk (later_piece p) → IsWord p
later_word p h = go (is_star p) refl h
  where
    go : (star : Bool) → is_star p ≡ star → IsOk (cond star (Ok None) (of_subtag (subtag_of p))) → IsWord p
    go true e k = star_word p e
    go false e k = subtag_word p (of_subtag_ok (subtag_of p) k)

-- the first piece of a range, a subtag or `*`, is a word
first_word : (p : List ℕ) → IsOk (first_piece p) → IsWord p
first_word p h = go (is_star p) refl h
  where
    go : (star : Bool) → is_star p ≡ star → IsOk (cond star (Ok None) (of_first (subtag_of p))) → IsWord p
    go true e k = star_word p e
    go false e k = subtag_word p (of_first_ok (subtag_of p) k)

-- if a piece and those after it are together read without a fault, so is each of the two
with_piece_ok : (a : Result (Option (List ℕ)) RangeFault) (b : Result (List (List ℕ)) RangeFault) → IsOk (with_piece a b) → IsOk a × IsOk b
with_piece_ok (Err fault) b h = absurd (cc)
with_piece_ok (Ok s) (Err fault) h = absurd (cc)
with_piece_ok (Ok s) (Ok named) h = (refl, refl)

-- all later pieces of a range are words
later_words : (ps : List (List ℕ)) → IsOk (later_pieces ps) → AllByRecursion IsWord ps
unfolding later_pieces
later_words [] h = tt
later_words (p ∷ ps) h =
    let both = with_piece_ok (later_piece p) (later_pieces ps) h in (later_word p both.0, later_words ps both.1)

-- if the first piece and those after it are together read without a fault, so is each of the two
begun_ok : (a : Result (Option (List ℕ)) RangeFault) (b : Result (List (List ℕ)) RangeFault) → IsOk (begun a b) → IsOk a × IsOk b
begun_ok (Err fault) b h = absurd (cc)
begun_ok (Ok s) (Err fault) h = absurd (cc)
begun_ok (Ok None) (Ok named) h = (refl, refl)
begun_ok (Ok (Some s)) (Ok named) h = (refl, refl)

-- all pieces of a range are words
pieces_words : (ps : List (List ℕ)) → IsOk (range_of_pieces ps) → AllByRecursion IsWord ps
pieces_words [] h = tt
pieces_words (p ∷ ps) h =
    let both = begun_ok (first_piece p) (later_pieces ps) h in (first_word p both.0, later_words ps both.1)

-- words with hyphens (45) between them are a word
joined_word : (ps : List (List ℕ)) → AllByRecursion IsWord ps → IsWord (join_with_byte 45 ps)
joined_word [] h = refl
joined_word (p ∷ []) h = h.0
joined_word (p ∷ q ∷ ps) h = list_all-append is_word_byte p (45 ∷ join_with_byte 45 (q ∷ ps)) h.0 (joined_word (q ∷ ps) h.1)

-- the bytes of a language range are all bytes of a word
pub range_word : (text : List ℕ) → IsOk (range_of text) → list_all is_word_byte text ≡ true
range_word text h = subst (λ (l : List ℕ). IsWord l) (join_with_byte-slice_split 45 text)
    (joined_word (pieces text) (pieces_words (pieces text) h))

-- an empty text is no range
pub range_some : IsOk (range_of []) → ⊥
range_some h = cc
