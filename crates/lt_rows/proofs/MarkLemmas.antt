-- Lemmas on byte order marks, for `marks` and for texts that come in pieces: once the first bytes of a text can't be a
-- part of a mark any more, no bytes that follow change which mark the text has.
use Rattle.std.proofs.Common.{◌≡◌, ◌≢◌, ◌<◌, ◌++◌, ◌∷◌, ◌==◌, ◌∙◌, ◌⊎◌, ℕ, List, [], Bool, true, length, ap, refl}
use Rattle.std.proofs.Common.{subst, arith, append_assoc, append-nil, length-append, drop, take, inl, inr, All}
use Rattle.std.specs.Cmp.Lexicographic.{pointwise}
use Rattle.std.proofs.lemmas.Slice.Eq.{starts_is}
use Rattle.std.proofs.lemmas.Bool.{cases_eq}
use Rattle.std.proofs.lemmas.Bool.Decides.{Decides-eqb}
use Rattle.std.proofs.lemmas.List.Elements.{All-cons, All-head, All-tail}
use Rattle.lt_rows.specs.Marks.{Begins, IsShortOf, IsWide, MayBeMark, SplitsMark, big_mark, little_mark, utf8_mark}

-- if a mark begins with a text and is longer, the text is a front of the mark that lacks at least one byte
pub short_is : (mark text : List ℕ) → length text < length mark → Begins text mark → IsShortOf mark text
short_is mark text less (([], e)) = absurd (omega (arith, less, ap length e, ap length (append-nil text)))
short_is mark text less ((byte ∷ rest, e)) = (byte, rest, e)

-- a front of a mark that lacks at least one byte is shorter than the mark
pub short_length : (mark text : List ℕ) → IsShortOf mark text → length text < length mark
short_length mark text h = omega (arith, ap length h.2, length-append text (h.0 ∷ h.1))

-- equal lists have equal heads
head : {a b : ℕ} {ms ns : List ℕ} → a ∷ ms ≡ b ∷ ns → a ≡ b
head e = cc

-- equal lists have equal tails
tail : {a b : ℕ} {ms ns : List ℕ} → a ∷ ms ≡ b ∷ ns → ms ≡ ns
tail e = cc

-- where a text with more bytes behind it begins with a mark, the text itself does so, or is a shorter front of the mark
begins_append : (mark front more : List ℕ) → Begins mark (front ++ more) → Begins mark front ⊎ IsShortOf mark front
begins_append [] front more h = inl (front, refl)
begins_append (byte ∷ mark) [] more h = inr (byte, mark, refl)
begins_append (byte ∷ mark) (other ∷ front) more h =
    let heads : other ≡ byte = head h.1 in
    elim (begins_append mark front more (h.0, tail h.1)) [
      | inl b ↦ inl (b.0, rw heads (ap (λ (l : List ℕ). byte ∷ l) b.1))
      | inr s ↦ inr (s.0, s.1, rw heads (ap (λ (l : List ℕ). byte ∷ l) s.2))
    ]

-- where a text can't become a mark, more bytes behind it change nothing of its mark
pub split_more : (front mark rest more : List ℕ) → (MayBeMark front → ⊥) → SplitsMark front mark rest
    → SplitsMark (front ++ more) mark (rest ++ more)
split_more front mark rest more none s = record {
  whole = ap (λ (l : List ℕ). l ++ more) s.whole ∙ append_assoc mark rest more;
  is_mark = elim s.is_mark [
    | inl is ↦ inl is
    | inr is ↦ inr (is.0, λ b. elim (begins_append utf8_mark front more b) [ inl there ↦ is.1 there | inr short ↦ none (inl short) ])
  ];
}

-- where a text can't become a mark, more bytes behind it give it no mark of UTF-16
pub wide_more : (front more : List ℕ) → (MayBeMark front → ⊥) → (IsWide front → ⊥) → IsWide (front ++ more) → ⊥
wide_more front more none narrow (inl b) = elim (begins_append big_mark front more b)
    [ inl there ↦ narrow (inl there) | inr short ↦ none (inr (inl short)) ]
wide_more front more none narrow (inr b) = elim (begins_append little_mark front more b)
    [ inl there ↦ narrow (inr there) | inr short ↦ none (inr (inr short)) ]

-- the answer of `starts_with`, which compares byte by byte, is whether the text begins with `front`
pub begins_is : (text front : List ℕ) (r : Bool) → r ≡ pointwise ◌==◌ front (take (length front) text)
    → (r ≡ true → Begins front text) × (Begins front text → r ≡ true)
begins_is text front r is =
    let s = starts_is Decides-eqb text front r is in
    (λ e. (drop (length front) text, s.0 e), λ b. s.1 b.0 b.1)

-- ---- a mark that is begun

-- a text that may become a mark has at most two bytes
pub short_mark : (text : List ℕ) → MayBeMark text → length text < 3
short_mark text (inl s) = short_length utf8_mark text s
short_mark text (inr (inl s)) = let less = short_length big_mark text s in omega (arith, less)
short_mark text (inr (inr s)) = let less = short_length little_mark text s in omega (arith, less)

-- a text that may become a mark has no mark of UTF-8 yet
pub short_unmarked : (text : List ℕ) → MayBeMark text → SplitsMark text [] text
short_unmarked text s = record {
  whole = refl;
  is_mark = inr (refl, λ b. absurd (omega (arith, short_mark text s, ap length b.1, length-append utf8_mark b.0)));
}

-- a text that may become a mark has no mark of UTF-16 yet
pub short_narrow : (text : List ℕ) → MayBeMark text → IsWide text → ⊥
short_narrow text (inl s) (inl b) = let bad : 239 ≡ 254 = head (s.2 ∙ ap (λ (l : List ℕ). l ++ s.0 ∷ s.1) b.1) in
    absurd (omega (arith, bad))
short_narrow text (inl s) (inr b) = let bad : 239 ≡ 255 = head (s.2 ∙ ap (λ (l : List ℕ). l ++ s.0 ∷ s.1) b.1) in
    absurd (omega (arith, bad))
short_narrow text (inr (inl s)) (inl b) = absurd (omega (arith, short_length big_mark text s, ap length b.1, length-append big_mark b.0))
short_narrow text (inr (inl s)) (inr b) = absurd (omega (arith, short_length big_mark text s, ap length b.1, length-append little_mark b.0))
short_narrow text (inr (inr s)) (inl b) = absurd (omega (arith, short_length little_mark text s, ap length b.1, length-append big_mark b.0))
short_narrow text (inr (inr s)) (inr b) = absurd
    (omega (arith, short_length little_mark text s, ap length b.1, length-append little_mark b.0))

-- a front of a text without line feeds (10) has none
free_front : (text more : List ℕ) → All (λ (byte : ℕ). byte ≢ 10) (text ++ more) → All (λ (byte : ℕ). byte ≢ 10) text
free_front [] more free = λ k d lt. absurd (omega (arith, lt))
free_front (byte ∷ text) more free = All-cons (λ (b : ℕ). b ≢ 10) byte text
    (All-head (λ (b : ℕ). b ≢ 10) byte (text ++ more) free)
    (free_front text more (All-tail (λ (b : ℕ). b ≢ 10) byte (text ++ more) free))

-- a text of two bytes that are no line feed (10) has none
two_free : (a b : ℕ) → a ≢ 10 → b ≢ 10 → All (λ (byte : ℕ). byte ≢ 10) (a ∷ b ∷ [])
two_free a b one two = All-cons (λ (c : ℕ). c ≢ 10) a (b ∷ []) one
    (All-cons (λ (c : ℕ). c ≢ 10) b [] two (λ k d lt. absurd (omega (arith, lt))))

-- the beginning of a mark without line feeds (10) has none
short_free : (mark text : List ℕ) → All (λ (byte : ℕ). byte ≢ 10) mark → IsShortOf mark text → All (λ (byte : ℕ). byte ≢ 10) text
short_free mark text free s = free_front text (s.0 ∷ s.1) (subst (All (λ (byte : ℕ). byte ≢ 10)) s.2 free)

-- a text that may become a mark has no line feed (10)
pub short_one_line : (text : List ℕ) → MayBeMark text → All (λ (byte : ℕ). byte ≢ 10) text
short_one_line text (inl s) = short_free utf8_mark text
    (All-cons (λ (c : ℕ). c ≢ 10) 239 (187 ∷ 191 ∷ []) (λ e. absurd (omega (arith, e)))
    (two_free 187 191 (λ e. absurd (omega (arith, e))) (λ e. absurd (omega (arith, e))))) s
short_one_line text (inr (inl s)) = short_free big_mark text
    (two_free 254 255 (λ e. absurd (omega (arith, e))) (λ e. absurd (omega (arith, e)))) s
short_one_line text (inr (inr s)) = short_free little_mark text
    (two_free 255 254 (λ e. absurd (omega (arith, e))) (λ e. absurd (omega (arith, e)))) s

-- ---- a text has a mark or none

-- a text begins with `front` or it doesn't
begins_or_not : (front text : List ℕ) → Begins front text ⊎ (Begins front text → ⊥)
begins_or_not [] text = inl (text, refl)
begins_or_not (byte ∷ front) [] = inr (λ b. absurd (omega (arith, ap length b.1)))
begins_or_not (byte ∷ front) (other ∷ text) = elim (cases_eq other byte) [
  | inr differ ↦ inr (λ b. absurd (differ (head b.1)))
  | inl same ↦ elim (begins_or_not front text) [
    | inl b ↦ inl (b.0, rw same (ap (λ (l : List ℕ). byte ∷ l) b.1))
    | inr none ↦ inr (λ b. none (b.0, tail b.1))
  ]
]

-- each text is its byte order mark, or none, and a rest
pub split_of : (text : List ℕ) → (mark : List ℕ) × (rest : List ℕ) × SplitsMark text mark rest
split_of text = elim (begins_or_not utf8_mark text) [
  | inl b ↦ (utf8_mark, b.0, record { whole = b.1; is_mark = inl refl })
  | inr none ↦ ([], text, record { whole = refl; is_mark = inr (refl, none) })
]
