-- Lemmas for the module `answer_rows`: the parts that it appends for a row are together the answer that is owed for the
-- row.
use Rattle.std.proofs.Common.{refl, ◌≡◌, ◌≤◌, ◌-◌, ◌++◌, ◌∷◌, ◌∙◌, [], ℕ, Bool, false, true, List, inl, inr, ap, arith}
use Rattle.std.proofs.Common.{append_assoc, codes, drop, length, subst, sym, take, take-append-drop}
use Rattle.std.proofs.lemmas.List.{drop-drop, drop-take, take_rest, take-take}
use Rattle.lt_jar.specs.Lines.{content_of}
use Rattle.lt_codes.specs.Codes.{registered_text}
use Rattle.lt_canon.specs.Texts.{AppendsCanonicalText, IsTextRefusal}
use Rattle.lt_canon.specs.declared.refusals.TextRefusal.{TextRefusal}
use Rattle.lt_lines.specs.Answering.{AppendsKept, AppendsRowReply, EndsRefused}
use Rattle.lt_lines.specs.Owed.{Ground, refused_line, row_line, with_canonical}
use Rattle.lt_lines.specs.declared.forms.RowForm.{RowForm}
use Rattle.lt_rows.specs.Looks.{HasTextAt}
use Rattle.lt_rows.specs.Rows.{HasFewer, HasField, HasReturn, IsTextIn, separator}
use Rattle.lt_rows.specs.declared.looks.TextAt.{TextAt}
use Rattle.lt_lines.proofs.LookLemmas.{content_front}
use Rattle.lt_rows.specs.declared.rows.Separator.{Separator}

-- a row whose field's text is replaced: `old` is the answers before it, `fronted` those with the row up to the text,
-- `filled` those with the canonical text too (if there is one), and `new` those with all of this row's answer
module _ (S : Separator) (G : Ground) (row : RowForm) (line front field after quotes text old fronted filled new : List
    ℕ) (at : HasField S row.before (content_of line) front field after)
    (is_text : IsTextIn S field quotes text) (none : HasReturn S (content_of line) → ⊥) (changed : row.is_kept ≡ false)
    (first : fronted ≡ old ++ (front ++ quotes)) where
  -- where the text has a canonical text, the row with it and an empty last field is the answer
  pub row_answered : AppendsCanonicalText G.entries (registered_text G.codes text) fronted filled
      → new ≡ filled ++ row_line S (quotes ++ after) [] line → AppendsRowReply S G row line old new false
  row_answered a last = record {
    bytes = row_line S ((front ++ quotes) ++ a.canonical ++ (quotes ++ after)) [] line;
    grown = rw (last, a.grown, first) (simp append_assoc);
    owed = inr (record {
      none = none;
      owed = inl (
        rw changed (record {
          front = front;
          field = field;
          after = after;
          at = at;
          quotes = quotes;
          text = text;
          is_text = is_text;
          canonical = a.canonical;
          is_canonical = a.is_canonical;
          line_is = refl;
        }),
        refl,
      );
    });
  }

  -- where the text is refused, the row as it was with a last field that says why is the answer
  pub row_refused : (refusal : TextRefusal) → IsTextRefusal G.entries (registered_text G.codes text) refusal
      → filled ≡ fronted → EndsRefused S refusal (text ++ (quotes ++ after)) line filled new
      → AppendsRowReply S G row line old new true
  row_refused refusal is same e = record {
    bytes = row_line S (content_of line) e.told line;
    grown = rw (e.grown, same, first, at.row_is, is_text.field_is) (simp append_assoc);
    owed = inr (record {
      none = none;
      owed = inr (
        inl (record {
          front = front;
          field = field;
          after = after;
          at = at;
          quotes = quotes;
          text = text;
          is_text = is_text;
          refusal = refusal;
          is_refusal = is;
          told = e.told;
          is_told = e.is_told;
          line_is = rw changed refl;
        }),
        refl,
      );
    });
  }

-- where rows are kept, the row with two further fields is the answer, the text answered or refused
pub row_kept : (S : Separator) (G : Ground) (row : RowForm) (line front field after quotes text old new : List
    ℕ) (refused : Bool) → HasField S row.before (content_of line) front field after
    → IsTextIn S field quotes text → (HasReturn S (content_of line) → ⊥) → row.is_kept ≡ true
    → AppendsKept S G text line old new refused → AppendsRowReply S G row line old new refused
row_kept S G row line front field after quotes text old new refused at is_text none kept a = record {
  bytes = row_line S (with_canonical true S (content_of line) a.canonical) a.told line;
  grown = a.grown;
  owed = inr (record {
    none = none;
    owed = elim a.owed [
      | inl c ↦ inl (
        rw kept (record {
          front = front;
          field = field;
          after = after;
          at = at;
          quotes = quotes;
          text = text;
          is_text = is_text;
          canonical = a.canonical;
          is_canonical = c.0;
          line_is = rw c.1 refl;
        }),
        c.2,
      )
      | inr f ↦ inr (
        inl (record {
          front = front;
          field = field;
          after = after;
          at = at;
          quotes = quotes;
          text = text;
          is_text = is_text;
          refusal = f.0;
          is_refusal = f.1;
          told = a.told;
          is_told = f.2;
          line_is = rw (kept, f.3) refl;
        }),
        f.4,
      )
    ];
  });
}

-- a row that is kept: `old` is the answers before it, `fronted` those with the row and a separator, `filled` those with
-- the canonical text too (if there is one), and `new` those with all of this row's answer
module _ (S : Separator) (G : Ground) (line text old fronted filled new : List ℕ)
    (first : fronted ≡ (old ++ content_of line) ++ separator S ∷ []) where
  -- if the text has a canonical text, and that and an empty field are added, this is the answer
  pub kept_answered : AppendsCanonicalText G.entries (registered_text G.codes text) fronted filled
      → new ≡ filled ++ row_line S [] [] line → AppendsKept S G text line old new false
  kept_answered a last = record {
    canonical = a.canonical;
    told = [];
    grown = rw (last, a.grown, first) (simp append_assoc);
    owed = inl (a.is_canonical, refl, refl);
  }

  -- if the text is refused, and an empty field and why are added, this is the answer
  pub kept_refused : (refusal : TextRefusal) → IsTextRefusal G.entries (registered_text G.codes text) refusal
      → filled ≡ fronted → EndsRefused S refusal [] line filled new → AppendsKept S G text line old new true
  kept_refused refusal is same e = record {
    canonical = [];
    told = e.told;
    grown = rw (e.grown, same, first) (simp append_assoc);
    owed = inr (refusal, is, e.is_told, refl, refl);
  }

-- ---- by the place of the field's text

-- a row from the start of its field's text on is the text and what follows it
text_and_rest : (row text after : List ℕ) (place : TextAt) → place.start ≤ place.end
    → take (place.end - place.start) (drop place.start row) ≡ text → drop place.end row ≡ after
    → drop place.start row ≡ text ++ after
text_and_rest row text after place ordered is follows =
    let rest = drop place.start row in
    sym (take-append-drop (place.end - place.start) rest)
    ∙ ap (λ l. take (place.end - place.start) rest ++ l) (drop-drop (place.end - place.start) place.start row
    ∙ ap (λ n. drop n row) (omega (arith, ordered)) ∙ follows)
    ∙ ap (λ l. l ++ after) is

-- the text of a field is the same in the line's content as in `text`, whose first `count` bytes are the line
pub text_within : (text : List ℕ) (count : ℕ) (place : TextAt) → count ≤ length text → place.start ≤ place.end
    → place.end ≤ length (content_of (take count text))
    → take (place.end - place.start) (take (length text - place.start) (drop place.start text))
    ≡ take (place.end - place.start) (drop place.start (content_of (take count text)))
text_within text count place le ordered inside =
    let row = content_of (take count text) in
    let n = length row in
    let long = place.end - place.start in
    let row_is : drop place.start row ≡ take (n - place.start) (drop place.start text) =
    ap (drop place.start) (sym (content_front text count le))
    ∙ ap (λ m. drop place.start (take m text)) (omega (arith, ordered, inside))
    ∙ drop-take place.start (n - place.start) text in
    ap (take long) (take_rest text place.start)
    ∙ sym (ap (take long) row_is ∙ take-take long (n - place.start) (drop place.start text) (omega (arith, inside)))

-- a row whose field's text was found at `place`; `old`, `fronted`, `filled` and `new` as above
module _ (S : Separator) (G : Ground) (row : RowForm) (line old fronted filled new : List ℕ) (place : TextAt)
    (h : HasTextAt S row.before (content_of line) place)
    (none : HasReturn S (content_of line) → ⊥) where
  -- the text of the row's field
  abbrev text : List ℕ
  text = take (place.end - place.start) (drop place.start (content_of line))

  -- if the text has a canonical text, which replaces it, this is the answer
  pub found_answered : row.is_kept ≡ false → fronted ≡ old ++ take place.start (content_of line)
      → AppendsCanonicalText G.entries (registered_text G.codes text) fronted filled
      → new ≡ filled ++ row_line S (drop place.end (content_of line)) [] line → AppendsRowReply S G row line old new false
  found_answered changed first a last =
      row_answered S G row line h.front h.field h.after h.quotes h.text old fronted filled new h.at h.is_text none
      changed (first ∙ ap (λ l. old ++ l) h.front_is)
      (subst (λ t. AppendsCanonicalText G.entries (registered_text G.codes t) fronted filled) h.text_is a)
      (last ∙ ap (λ l. filled ++ row_line S l [] line) h.after_is)

  -- if the text is refused, and stays as it was, with a last field that says why, this is the answer
  pub found_refused : row.is_kept ≡ false → fronted ≡ old ++ take place.start (content_of line)
      → (refusal : TextRefusal) → IsTextRefusal G.entries (registered_text G.codes text) refusal → filled ≡ fronted
      → EndsRefused S refusal (drop place.start (content_of line)) line filled new → AppendsRowReply S G row line old new true
  found_refused changed first refusal is same e =
      let rest = text_and_rest (content_of line) h.text (h.quotes ++ h.after) place h.ordered h.text_is h.after_is in
      row_refused S G row line h.front h.field h.after h.quotes h.text old fronted filled new h.at h.is_text none
      changed (first ∙ ap (λ l. old ++ l) h.front_is) refusal
      (subst (λ t. IsTextRefusal G.entries (registered_text G.codes t) refusal) h.text_is is) same
      (record { told = e.told; is_told = e.is_told; grown = e.grown ∙ ap (λ l. filled ++ row_line S l e.told line) rest })

  -- if the row is kept, and the answer to its text is added, this is the answer
  pub found_kept : (refused : Bool) → row.is_kept ≡ true → AppendsKept S G text line old new refused
      → AppendsRowReply S G row line old new refused
  found_kept refused kept a =
      row_kept S G row line h.front h.field h.after h.quotes h.text old new refused h.at h.is_text none kept
      (subst (λ t. AppendsKept S G t line old new refused) h.text_is a)

-- ---- a row without its field

-- a row with a carriage return outside of quotes is answered by the row and a last field `BadReturn`
pub row_returns : (S : Separator) (G : Ground) (row : RowForm) (line old new : List ℕ) → HasReturn S (content_of line)
    → new ≡ old ++ refused_line row.is_kept S line (codes "BadReturn") → AppendsRowReply S G row line old new true
row_returns S G row line old new returns grown = record {
  bytes = refused_line row.is_kept S line (codes "BadReturn");
  grown = grown;
  owed = inl (record { returns = returns; line_is = refl; refused = refl });
}

-- a row that has no field after `before` others is answered by the row and a last field `NoColumn`
pub row_lacks : (S : Separator) (G : Ground) (row : RowForm) (line old new : List ℕ)
    → (HasReturn S (content_of line) → ⊥) × HasFewer S row.before (content_of line)
    → new ≡ old ++ refused_line row.is_kept S line (codes "NoColumn") → AppendsRowReply S G row line old new true
row_lacks S G row line old new lacks grown = record {
  bytes = refused_line row.is_kept S line (codes "NoColumn");
  grown = grown;
  owed = inr (record { none = lacks.0; owed = inr (inr (record { fewer = lacks.1; line_is = refl }), refl) });
}
