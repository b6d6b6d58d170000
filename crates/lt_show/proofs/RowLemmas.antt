-- The rows of parts, one after another, as the loop of `rows_of` adds them.
use Rattle.std.proofs.Common.{◌≡◌, ◌<◌, ◌+◌, ◌++◌, ◌∷◌, ◌∙◌, ℕ, List, [], ap, append_assoc, arith, get_or, length, sym, take}
use Rattle.std.proofs.lemmas.List.{length-take-le, take_more}
use Rattle.lt_tag.specs.Parts.{TagForm}
use Rattle.lt_show.specs.declared.placing.Part.{Part}
use Rattle.lt_registry.specs.Parts.{EntryParts}
use Rattle.lt_show.specs.Rows.{part_rows, row_of}
use Rattle.lt_show.specs.declared.rows.Row.{Row}

-- one part after others: its row, at the place `n`, is behind their rows, of which the first has the place `place`
rows_push : (R : List EntryParts) (tag : TagForm) (text : List ℕ) (place n : ℕ) (parts : List Part) (part : Part) → n ≡ place + length parts
    → part_rows R tag text place (parts ++ part ∷ []) ≡ part_rows R tag text place parts ++ row_of R tag text n part ∷ []
rows_push R tag text place n [] part at = let same : place ≡ n = omega (arith, at) in ap (λ (p : ℕ). row_of R tag text p part ∷ []) same
rows_push R tag text place n (first ∷ parts) part at =
    ap (λ (rows : List Row). row_of R tag text place first ∷ rows) (rows_push R tag text (place + 1) n parts part (omega (arith, at)))

-- the rows of the first `i + 1` parts: those of the first `i`, and that of the part at index `i`; `part` is only the
-- default of `get_or`
rows_more : (R : List EntryParts) (tag : TagForm) (text : List ℕ) (parts : List Part) (i : ℕ) (part : Part) → i < length parts
    → part_rows R tag text 1 (take (i + 1) parts) ≡ part_rows R tag text 1 (take i parts)
    ++ row_of R tag text (i + 1) (get_or parts i part) ∷ []
rows_more R tag text parts i part within =
    ap (part_rows R tag text 1) (take_more parts i part within)
    ∙ rows_push R tag text 1 (i + 1) (take i parts) (get_or parts i part) (omega (arith, length-take-le i parts (omega (arith, within))))

-- One turn of the loop: behind the rows `before`, `rows` has those of the first `i` parts, and the `row` of the part at
-- index `i` is pushed, which gives `new`. `bytes` is the tag's `text` as the call has it; `part` is only the default of
-- `get_or`.
pub rows_turn : (R : List EntryParts) (tag : TagForm) (text bytes : List ℕ) (parts : List Part) (i : ℕ) (part
    : Part) (before rows new : List Row) (row : Row) → i < length parts → bytes ≡ text
    → rows ≡ before ++ part_rows R tag text 1 (take i parts)
    → row ≡ row_of R tag bytes (i + 1) (get_or parts i part) → new ≡ rows ++ row ∷ []
    → new ≡ before ++ part_rows R tag text 1 (take (i + 1) parts)
rows_turn R tag text bytes parts i part before rows new row within same so is pushed =
    let front : List Row = part_rows R tag text 1 (take i parts) in
    let here : row ≡ row_of R tag text (i + 1) (get_or parts i part) = is
    ∙ ap (λ (t : List ℕ). row_of R tag t (i + 1) (get_or parts i part)) same in
    pushed ∙ ap (λ (l : List Row). l ++ row ∷ []) so ∙ append_assoc before front (row ∷ [])
    ∙ ap (λ (r : Row). before ++ (front ++ r ∷ [])) here
    ∙ ap (λ (l : List Row). before ++ l) (sym (rows_more R tag text parts i part within))
