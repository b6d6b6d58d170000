-- The table of a tag is its text and the lines of its rows, as they are appended.
use Rattle.std.proofs.Common.{◌≡◌, ◌++◌, ◌∷◌, ◌∙◌, ℕ, List, [], ap, append_assoc}
use Rattle.lt_jar.specs.Records.{Field}
use Rattle.lt_tag.specs.Parts.{TagForm}
use Rattle.lt_tag.specs.Texts.{text_of}
use Rattle.lt_registry.specs.Parts.{EntryParts}
use Rattle.lt_show.specs.Rows.{rows_of}
use Rattle.lt_show.specs.Tables.{rows_text, table_of}
use Rattle.lt_show.specs.declared.rows.Row.{Row}

-- `mid` is `old` with `text` appended, and `new` is `mid` with `rest` appended: `new` is `old` with both
pub after_that : (old mid new text rest : List ℕ) → mid ≡ old ++ text → new ≡ mid ++ rest → new ≡ old ++ (text ++ rest)
after_that old mid new text rest first next = next ∙ ap (λ (l : List ℕ). l ++ rest) first ∙ append_assoc old text rest

-- The table of a tag is appended to `old`: the tag's text (`named`), a line feed (`ended`) and the lines of its rows
-- (`new`). `text`, `shown` and `again` are the tag's text, and `rows` and `lines` are its rows, each as one of the
-- calls has it.
pub table_told : (R : List EntryParts) (records : List (List Field)) (tag : TagForm) (text shown again : List ℕ) (rows
    lines : List Row) (old named ended new : List ℕ) → text ≡ text_of tag → rows ≡ rows_of R tag → shown ≡ text
    → again ≡ text → lines ≡ rows
    → named ≡ old ++ shown → ended ≡ named ++ 10 ∷ [] → new ≡ ended ++ rows_text again records lines → new ≡ old ++ table_of R records tag
table_told R records tag text shown again rows lines old named ended new is_text are_rows is_shown is_again are_lines first feed last =
    let rest : rows_text again records lines ≡ rows_text (text_of tag) records (rows_of R tag) =
    ap (λ (t : List ℕ). rows_text t records lines) (is_again ∙ is_text)
    ∙ ap (λ (r : List Row). rows_text (text_of tag) records r) (are_lines ∙ are_rows) in
    after_that old named new shown (10 ∷ rows_text again records lines) first
    (after_that named ended new (10 ∷ []) (rows_text again records lines) feed last)
    ∙ ap (λ (t : List ℕ). old ++ (t ++ 10 ∷ rows_text again records lines)) (is_shown ∙ is_text)
    ∙ ap (λ (l : List ℕ). old ++ (text_of tag ++ 10 ∷ l)) rest
