-- The other spellings of a tag are among the rows of a table, and its canonical form is a part of its extlang form. So
-- `MatchingTable` and `tag_spellings` give the spellings of a tag.
use native.Mathlib.Omega.{arith}
use Rattle.std.proofs.Common.{◌≡◌, ◌==◌, ◌<◌, ◌≤◌, ◌+◌, ◌-◌, ◌++◌, ◌∙◌, ℕ, inl, inr, List, [], ◌∷◌}
use Rattle.std.proofs.Common.{IfOk, Ok, Err, Option, Some, None, drop, get_or, length, slice_index_or, refl, sym, ap, subst}
use Rattle.std.specs.Prelude.{Result, Vec}
use Rattle.std.specs.declared.alloc.Global.{Global}
use Rattle.std.proofs.lemmas.List.{append_assoc, append-nil}
use Rattle.std.proofs.lemmas.List.Splits.{length-slice_split}
use Rattle.std.proofs.Math.ListN.{drop_of_length-le}
use Rattle.lt_tag.specs.Grandfathered.{grandfathered_list, grandfathered_texts}
use Rattle.lt_tag.specs.Parts.{CoreParts, ExtensionParts, TagForm, LangTag, PrivateUse, Grandfathered}
use Rattle.lt_tag.specs.WellFormed.{spell}
use Rattle.lt_tag.specs.declared.faults.OutOfMemory.{OutOfMemory}
use Rattle.lt_tag.proofs.OneTagLemmas.{one_tag}
use Rattle.lt_registry.specs.Parts.{EntryParts}
use Rattle.lt_registry.specs.Entries.{prefixes}
use Rattle.lt_registry.specs.declared.entries.Kind.TheVariants as kinds
use Rattle.lt_registry.specs.declared.entries.EntryName.{EntryName}
use Rattle.lt_registry.specs.declared.entries.EntryName.TheVariants as names
use Rattle.lt_rewrite.specs.TagSteps.{IsCanonical}
use Rattle.lt_rewrite.specs.Rewriting.{same}
use Rattle.lt_check.specs.Conditions.{IsChecked}
use Rattle.lt_canon.specs.Answers.{IsCanonicalFormOf}
use Rattle.lt_canon.specs.ExtlangForm.{behind, extlang_form, IsExtlangFormOf, prefix_of}
use Rattle.lt_canon.proofs.CanonicalForms.{extlang_answer, no_extlang}
use Rattle.lt_canon.proofs.RepeatedVariants.{equivalence_is_equality}
use Rattle.lt_range.specs.Matched.{HasSubtags}
use Rattle.lt_range.specs.OtherSpellings.{after_prefix, AreAmong, AreOthersOf, AreRows, canonical_of, canonical_part, IsNoSpelling}
use Rattle.lt_range.specs.OtherSpellings.{IsRow, MayBeRow, MayDiffer, StaysAs}
use Rattle.lt_range.specs.Spellings.{AreOthers, HasSpellings, IsOtherSpelling, Spellings}
use Rattle.lt_range.proofs.FilterLemmas.{next_is}
use Rattle.lt_range.specs.declared.matching_table.OtherSpelling.{OtherSpelling}

-- the loop over the records that adds their rows
module _ (R : List EntryParts) (entries : List EntryParts) where
  -- `rows` are those so far, of the first `i` records: with those of the other records they are those of all
  abbrev pub RowsOn : ℕ → List OtherSpelling → Type 0
  RowsOn i rows = (more : List OtherSpelling) → AreRows R (drop i entries) more → AreRows R entries (rows ++ more)

  -- the row of the next record is added
  pub rows_yes : (i : ℕ) (e : EntryParts) (row : OtherSpelling) (rows : List OtherSpelling) → i < length entries
      → e ≡ get_or entries i e → IsRow R e row → RowsOn i rows → RowsOn (i + 1) (rows ++ row ∷ [])
  rows_yes i e row rows within is h go = λ more rest.
      let here : AreRows R (e ∷ drop (i + 1) entries) (row ∷ more) = inl (row, more, refl, h, rest) in
      subst (λ (l : List OtherSpelling). AreRows R entries l) (sym (append_assoc rows (row ∷ []) more))
      (go (row ∷ more) (subst (λ (l : List EntryParts). AreRows R l (row ∷ more)) (sym (next_is entries i e within is)) here))

  -- no row is added for a record that is of no other spelling
  pub rows_no : (i : ℕ) (e : EntryParts) (rows : List OtherSpelling) → i < length entries → e ≡ get_or entries i e
      → IsNoSpelling R e → RowsOn i rows → RowsOn (i + 1) rows
  rows_no i e rows within is h go = λ more rest.
      let here : AreRows R (e ∷ drop (i + 1) entries) more = inr (h, rest) in
      go more (subst (λ (l : List EntryParts). AreRows R l more) (sym (next_is entries i e within is)) here)

  -- past the last record, the rows are those of all
  pub rows_end : (i : ℕ) (rows : List OtherSpelling) → length entries ≤ i → RowsOn i rows → AreRows R entries rows
  rows_end i rows past go =
      let none : drop i entries ≡ [] = drop_of_length-le entries past in
      subst (λ (l : List OtherSpelling). AreRows R entries l) (append-nil rows)
      (go [] (subst (λ (l : List EntryParts). AreRows R l []) (sym none) refl))

-- the loop over the rows that adds the spellings of one canonical tag
module _ (canonical : List (List ℕ)) (rows : List OtherSpelling) where
  -- `lists` are those so far, among the first `i` rows: with those among the other rows they are those among all
  abbrev pub AmongOn : ℕ → Spellings → Type 0
  AmongOn i lists = (more : Spellings) → AreAmong canonical (drop i rows) more → AreAmong canonical rows (lists ++ more)

  -- the spelling of the next row is added, if its canonical form is that of the tag
  pub among_yes : (i : ℕ) (row : OtherSpelling) (lists : Spellings) → i < length rows → row ≡ get_or rows i row
      → canonical_of row ≡ canonical → AmongOn i lists → AmongOn (i + 1) (lists ++ row.spelled ∷ [])
  among_yes i row lists within is equal go = λ more rest.
      let here : AreAmong canonical (row ∷ drop (i + 1) rows) (row.spelled ∷ more) = inl (equal, (more, refl, rest)) in
      subst (λ (l : Spellings). AreAmong canonical rows l) (sym (append_assoc lists (row.spelled ∷ []) more))
      (go (row.spelled ∷ more) (subst (λ (l : List OtherSpelling). AreAmong canonical l (row.spelled ∷ more))
      (sym (next_is rows i row within is)) here))

  -- and it is not if that is another
  pub among_no : (i : ℕ) (row : OtherSpelling) (lists : Spellings) → i < length rows → row ≡ get_or rows i row
      → (canonical_of row ≡ canonical → ⊥) → AmongOn i lists → AmongOn (i + 1) lists
  among_no i row lists within is other go = λ more rest.
      let here : AreAmong canonical (row ∷ drop (i + 1) rows) more = inr (other, rest) in
      go more (subst (λ (l : List OtherSpelling). AreAmong canonical l more) (sym (next_is rows i row within is)) here)

  -- past the last row, the spellings are those among all
  pub among_end : (i : ℕ) (lists : Spellings) → length rows ≤ i → AmongOn i lists → AreAmong canonical rows lists
  among_end i lists past go =
      let none : drop i rows ≡ [] = drop_of_length-le rows past in
      subst (λ (l : Spellings). AreAmong canonical rows l) (append-nil lists)
      (go [] (subst (λ (l : List OtherSpelling). AreAmong canonical l []) (sym none) refl))

-- a tag has a subtag
pub spells_some : (t : TagForm) → length (spell t) ≡ 0 → ⊥
unfolding grandfathered_list
spells_some (LangTag c es ps) h = omega (arith, h)
spells_some (PrivateUse ps) h = omega (arith, h)
spells_some (Grandfathered n) h =
    omega (arith, h, length-slice_split (λ (b : ℕ). b == 45) (slice_index_or grandfathered_texts (n - 1) []))

-- a record is of one whole tag
one_whole : (name : EntryName) (a b : TagForm) → name ≡ names.Whole a → name ≡ names.Whole b → a ≡ b
one_whole name a b h k = let e : names.Whole a ≡ names.Whole b = sym h ∙ k in cc

module _ (R : List EntryParts) (C : IsChecked R) where
  -- a tag has one canonical form
  pub one_canonical : (t a b : TagForm) → IsCanonicalFormOf R t a → IsCanonicalFormOf R t b → a ≡ b
  one_canonical t a b h k = (equivalence_is_equality R C).equal t t a b h k same

  -- a record is of another spelling of one canonical tag
  one_spelled : (e : EntryParts) (t u a b : TagForm) → IsOtherSpelling R e t a → IsOtherSpelling R e u b → a ≡ b
  one_spelled e t u a b h k = one_canonical u a b
      (subst (λ (x : TagForm). IsCanonicalFormOf R x a) (one_whole e.name t u h.named k.named) h.form) k.form

  -- a canonical tag has one list of other spellings among these records
  pub one_others : (tag : TagForm) (es : List EntryParts) (a b : Spellings) → AreOthers R tag es a → AreOthers R tag es b → a ≡ b
  one_others tag [] a b h k = h ∙ sym k
  one_others tag (e ∷ es) a b (inl h) (inl k) =
      let t : h.0 ≡ k.0 = one_whole e.name h.0 k.0 h.1.named k.1.named in
      h.2.1 ∙ ap (λ (l : List (List ℕ)). l ∷ h.2.0) (ap spell t)
      ∙ ap (λ (ls : Spellings). spell k.0 ∷ ls) (one_others tag es h.2.0 k.2.0 h.2.2 k.2.2) ∙ sym k.2.1
  one_others tag (e ∷ es) a b (inl h) (inr k) = absurd (k.0 h.0 h.1)
  one_others tag (e ∷ es) a b (inr h) (inl k) = absurd (h.0 k.0 k.1)
  one_others tag (e ∷ es) a b (inr h) (inr k) = one_others tag es a b h.1 k.1

  module _ (tag : TagForm) (canonical : List (List ℕ)) (K : IsCanonical R tag) (is : canonical ≡ spell tag) where
    -- the row of a record is of this canonical tag if the subtags are those of the tag
    row_of_tag : (e : EntryParts) (row : OtherSpelling) (r : IsRow R e row) → canonical_of row ≡ canonical → r.canonical ≡ tag
    row_of_tag e row r h = one_tag r.canonical tag r.is.form.canonical.valid.proper.tag.tag K.valid.proper.tag.tag
        (sym r.canonically ∙ h ∙ is)

    -- the spellings among the rows of records are those among the records
    pub among_rows : (es : List EntryParts) (rows : List OtherSpelling) (lists : Spellings) → AreRows R es rows
        → AreAmong canonical rows lists → AreOthers R tag es lists
    among_rows [] rows lists h a = subst (λ (l : List OtherSpelling). AreAmong canonical l lists) h a
    among_rows (e ∷ es) rows lists (inr h) a = inr ((λ t o. h.0 t tag o), among_rows es rows lists h.1 a)
    among_rows (e ∷ es) rows lists (inl h) a = elim (subst (λ (l : List OtherSpelling). AreAmong canonical l lists) h.2 a) [
      | inl b ↦ inl (
        h.3.tag,
        subst (λ (x : TagForm). IsOtherSpelling R e h.3.tag x) (row_of_tag e h.0 h.3 b.0) h.3.is,
        (b.1.0, b.1.1 ∙ ap (λ (l : List (List ℕ)). l ∷ b.1.0) h.3.spelled, among_rows es h.1 b.1.0 h.4 b.1.2),
      )
      | inr b ↦ inr (
        (λ t o. b.0 (h.3.canonically ∙ ap spell (one_spelled e h.3.tag t h.3.canonical tag h.3.is o) ∙ sym is)),
        among_rows es h.1 lists h.4 b.1,
      )
    ]

  -- a record of a whole tag is of the row of this tag and its canonical form, if the two are not spelled alike
  pub row_found : (e : EntryParts) (tag form : TagForm) (r : Result (Option OtherSpelling) OutOfMemory)
      → e.name ≡ names.Whole tag → IsCanonicalFormOf R tag form → IfOk r (MayDiffer (spell tag) (spell form))
      → IfOk r (MayBeRow R e)
  row_found e tag form (Ok None) named h alike = λ t c o.
      let one : t ≡ tag = one_whole e.name t tag o.named named in
      let same_form : c ≡ form = one_canonical tag c form (subst (λ (x : TagForm). IsCanonicalFormOf R x c) one o.form) h in
      o.other (one ∙ one_tag tag form h.valid.proper.tag.tag h.canonical.valid.proper.tag.tag alike ∙ sym same_form)
  row_found e tag form (Ok (Some row)) named h differs = record {
    tag = tag;
    canonical = form;
    is = record { named = named; other = λ e. differs.2 (ap spell e); form = h };
    spelled = differs.0;
    canonically = differs.1;
  }
  row_found e tag form (Err memory) named h differs = tt

  -- the other spellings of a canonical tag are those among the rows of all records
  pub others_of : (canonical : List (List ℕ)) (rows : List OtherSpelling) (lists : Spellings) → AreRows R R rows
      → AreAmong canonical rows lists → AreOthersOf R canonical lists
  others_of canonical rows lists h a = λ tag K is. among_rows tag canonical K is R rows lists h a

  -- the same of an answer that may be a refusal
  pub others_ok : (canonical : List (List ℕ)) (rows : List OtherSpelling) (r : Result (Vec (List (List ℕ)) Global) OutOfMemory)
      → AreRows R R rows → IfOk r (λ lists. AreAmong canonical rows lists.items)
      → IfOk r (λ lists. AreOthersOf R canonical lists.items)
  others_ok canonical rows (Ok lists) h a = others_of canonical rows lists.items h a
  others_ok canonical rows (Err memory) h a = tt

  -- the subtags of a canonical langtag are a part of those of its extlang form, with the Prefix `o` in front
  part_behind : (o : Option (List ℕ)) (d : CoreParts) (es : List ExtensionParts) (ps : List (List ℕ)) → d.extlangs ≡ []
      → canonical_part (LangTag (behind o d) es ps) (spell (LangTag (behind o d) es ps)) ≡ spell (LangTag d es ps)
  part_behind None d es ps none = ap (λ (xs : List (List ℕ)). after_prefix xs (spell (LangTag d es ps))) none
  part_behind (Some p) d es ps none = rw none refl

  -- the subtags of a canonical tag are a part of those of its extlang form
  part_of : (c : TagForm) → IsCanonical R c → canonical_part (extlang_form R c) (spell (extlang_form R c)) ≡ spell c
  part_of (LangTag d es ps) K = part_behind (prefix_of (prefixes R kinds.Extlang d.language)) d es ps
      (no_extlang R C (LangTag d es ps) d K refl)
  part_of (PrivateUse ps) K = refl
  part_of (Grandfathered n) K = refl

  -- the extlang form of a tag, with the other spellings of its canonical part, are the tag's spellings
  pub form_spellings : (t form : TagForm) (others : Spellings) → IsExtlangFormOf R t form
      → AreOthersOf R (canonical_part form (spell form)) others → HasSpellings R t (spell form ∷ others)
  form_spellings t form others h a = record {
    form = form;
    is_form = h;
    others = others;
    are_others = a h.canonical h.canonical_form.canonical
        (subst (λ (x : TagForm). canonical_part x (spell x) ≡ spell h.canonical) (sym h.is)
        (part_of h.canonical h.canonical_form.canonical));
    spelled = refl;
  }

  -- the subtags of a text that stays, with the other spellings of these, are the spellings of the text's tag
  pub staying_spellings : (text : List ℕ) (subtags : List (List ℕ)) (others : Spellings) → StaysAs R text subtags
      → AreOthersOf R subtags others → HasSubtags R text (subtags ∷ others)
  staying_spellings text subtags others s a =
      let h = extlang_answer R C s.tag s.tag s.tag s.canonical s.form in
      record {
        tag = s.tag;
        read = s.read;
        holds = record {
          form = s.tag;
          is_form = h;
          others = others;
          are_others = a h.canonical h.canonical_form.canonical
              (s.spelled ∙ ap spell (one_canonical s.tag s.tag h.canonical s.canonical h.canonical_form));
          spelled = ap (λ (l : List (List ℕ)). l ∷ others) s.spelled;
        };
      }
