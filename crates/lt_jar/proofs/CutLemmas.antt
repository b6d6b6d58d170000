-- What `split_line` and the engine need: how the first line feed (10) cuts a text, and which lines the text then has.
use Rattle.std.proofs.Common.{◌≡◌, ◌≢◌, ◌<◌, ◌≤◌, ◌+◌, ◌-◌, ◌++◌, ◌∷◌, ◌∙◌, ℕ, List, [], take, drop, length, sym, ap}
use Rattle.std.proofs.Common.{arith, add-one, if◌then◌else◌, get_or, length-drop, suc, subst, refl}
use Rattle.std.proofs.Math.Seq.{drop-cons, take-length}
use Rattle.std.proofs.lemmas.Bool.{eq-eqb, eqb-true, ne_eqb}
use Rattle.std.proofs.lemmas.List.{get_or-take, length-take-le, take-append-drop, take_all}
use Rattle.std.proofs.lemmas.List.Elements.{All-from_get_or, All-head, All-tail}
use Rattle.memchr.specs.Find.{NoneBefore, Nowhere, Passes, is_byte}
use Rattle.lt_jar.specs.Lines.{IsOneLine, begin_first, lines_of}

-- the byte is no line feed (10), so it ends no line
abbrev pub IsNoEnd : ℕ → Type 0
IsNoEnd byte = byte ≢ 10

-- a byte other than a line feed (10), put before a text, goes to the front of the text's first line
begins : (byte : ℕ) (text : List ℕ) → byte ≢ 10 → lines_of (byte ∷ text) ≡ begin_first byte (lines_of text)
begins byte text other = ap (λ b. if b then [] ∷ lines_of text else begin_first byte (lines_of text)) (ne_eqb byte 10 other)

-- a line, a line feed (10) and a rest: the lines are this line and those of the rest
pub lines_of-ended : (line rest : List ℕ) → IsOneLine line → lines_of (line ++ 10 ∷ rest) ≡ line ∷ lines_of rest
lines_of-ended [] rest one = refl
lines_of-ended (byte ∷ line) rest one =
    begins byte (line ++ 10 ∷ rest) (All-head IsNoEnd byte line one)
    ∙ ap (begin_first byte) (lines_of-ended line rest (All-tail IsNoEnd byte line one))

-- a text that has bytes, and no line feed (10) among them, is one line
pub lines_of-last : (line : List ℕ) → IsOneLine line → 0 < length line → lines_of line ≡ line ∷ []
lines_of-last [] one some = absurd (omega arith)
lines_of-last (byte ∷ []) one some = begins byte [] (All-head IsNoEnd byte [] one)
lines_of-last (byte ∷ next ∷ line) one some =
    let tail = All-tail IsNoEnd byte (next ∷ line) one in
    begins byte (next ∷ line) (All-head IsNoEnd byte (next ∷ line) one)
    ∙ ap (begin_first byte) (lines_of-last (next ∷ line) tail (omega arith))

-- Bytes without a line feed (10), at least one, begin the first line, whatever follows them. Of the bytes `more` after
-- them that line has `front`, and `after` are the lines behind it.
pub first_goes_on : (byte : ℕ) (line more : List ℕ) → IsOneLine (byte ∷ line)
    → (front : List ℕ) × (after : List (List ℕ)) × (lines_of ((byte ∷ line) ++ more) ≡ ((byte ∷ line) ++ front) ∷ after)
first_goes_on byte [] more one = by_lines (lines_of more) refl
  where
    by_lines : (lines : List (List ℕ)) → lines_of more ≡ lines
        → (front : List ℕ) × (after : List (List ℕ)) × (lines_of (byte ∷ more) ≡ (byte ∷ front) ∷ after)
    by_lines [] is = ([], [], begins byte more (All-head IsNoEnd byte [] one) ∙ ap (begin_first byte) is)
    by_lines (front ∷ after) is = (front, after, begins byte more (All-head IsNoEnd byte [] one) ∙ ap (begin_first byte) is)
first_goes_on byte (next ∷ line) more one =
    let rest = first_goes_on next line more (All-tail IsNoEnd byte (next ∷ line) one) in
    (rest.0, rest.1, begins byte ((next ∷ line) ++ more) (All-head IsNoEnd byte (next ∷ line) one) ∙ ap (begin_first byte) rest.2)

-- where no byte before the index i is found to be a line feed (10), the bytes before i are one line
pub line_front : (text : List ℕ) (i : ℕ) → i ≤ length text → Nowhere (Passes (is_byte 10) text) 0 i → IsOneLine (take i text)
line_front text i le none =
    let long = length-take-le i text le in
    All-from_get_or IsNoEnd (take i text) 0
    (λ k inside e. none k (omega arith) (omega (arith, inside, long))
    (eq-eqb (get_or text k 0) 10 (sym (get_or-take i text k 0 (omega (arith, inside, long))) ∙ e)))

-- where no byte of a text is found to be a line feed (10), the text is one line
pub whole_line : (text : List ℕ) → Nowhere (Passes (is_byte 10) text) 0 (length text) → IsOneLine text
whole_line text none = subst IsOneLine (take-length text) (line_front text (length text) (omega arith) none)

-- the first line feed is at i
abbrev pub IsFirstFeed : ℕ → List ℕ → Type 0
IsFirstFeed i text = NoneBefore (Passes (is_byte 10) text) 0 (length text) i × Passes (is_byte 10) text i

-- the first line feed (10) of a text, at the index i: i is in the text, that byte is there, and the bytes before it
-- are one line
pub feed_at : (text : List ℕ) (i : ℕ) → IsFirstFeed i text → (i < length text) × (get_or text i 0 ≡ 10) × IsOneLine (take i text)
feed_at text i first = (first.0.high, eqb-true (get_or text i 0) 10 first.1, line_front text i (omega (arith, first.0.high)) first.0.before)

-- a text is the bytes before the line feed (10) at the index i, that line feed, and the bytes after it
pub cut_at : (text : List ℕ) (i : ℕ) → i < length text → get_or text i 0 ≡ 10 → text ≡ take i text ++ 10 ∷ drop (i + 1) text
cut_at text i below end =
    let back = drop-cons text i 0 below ∙ ap (λ b. b ∷ drop (suc i) text) end in
    rw add-one (sym (take-append-drop i text) ∙ ap (λ l. take i text ++ l) back)

-- a text is the bytes before the line feed (10) at the index i, that line feed, and the slice from the index i + 1 to
-- the end
pub split_at : (text : List ℕ) (i : ℕ) → i < length text → get_or text i 0 ≡ 10
    → text ≡ take i text ++ 10 ∷ take (length text - (i + 1)) (drop (i + 1) text)
split_at text i below end =
    let back = drop-cons text i 0 below ∙ ap (λ b. b ∷ drop (suc i) text) end in
    rw (take_all (length text - (i + 1)) (drop (i + 1) text) (omega (arith, length-drop (i + 1) text)), add-one)
    (sym (take-append-drop i text) ∙ ap (λ l. take i text ++ l) back)
