-- A list is spelled by one tag at most. So a text is read as one tag at most, the text of a tag is read as that tag
-- unless it is too long, and two tags have the same text exactly if they are equal: these are laws in `laws.rt`.
use Rattle.std.proofs.Common.{◌≡◌, ℕ, ◌≤◌, ◌<◌, ◌-◌, Bool, true, false, ◌&&◌, not, zero, suc, List, [], ◌∷◌, length}
use Rattle.std.proofs.Common.{refl, sym, ap, ◌∙◌, arith, eqb}
use Rattle.std.specs.Prelude.{slice_index_or, ◌↔◌}
use Rattle.std.specs.List.{list_all, join_with_byte}
use Rattle.std.proofs.lemmas.Bool.{and_parts}
use Rattle.lt_subtag.specs.Bytes.{is_subtag}
use Rattle.lt_subtag.specs.Shapes.{is_x}
use Rattle.lt_tag.specs.Parts.{TagForm, LangTag, PrivateUse, Grandfathered}
use Rattle.lt_tag.specs.Lists.{pieces, list_of, longest_text}
use Rattle.lt_tag.specs.Grandfathered.{grandfathered_texts, grandfathered_list, IsGrandfathered}
use Rattle.lt_tag.specs.Spelling.{x_subtag}
use Rattle.lt_tag.specs.WellFormed.{spell, IsTag}
use Rattle.lt_tag.specs.Conventional.{conventional}
use Rattle.lt_tag.specs.Faults.{HasList, HasTag}
use Rattle.lt_tag.proofs.TagLemmas.{list_all-at, table_length}
use Rattle.lt_tag.proofs.ShapeLemmas.{tag_subtags}
use Rattle.lt_tag.proofs.AgainLemmas.{tag_again}
use Rattle.lt_tag.proofs.LetterLemmas.{join_pieces, to_HasList}
use Rattle.lt_tag.proofs.DraftLemmas.{one_shaped}
use Rattle.std.specs.Cmp.Lexicographic.{bytes_decides, pointwise}

-- each text differs from those after it
abbrev all_differ : List (List ℕ) → Bool
all_differ [] = true
all_differ (t ∷ ts) = list_all (λ (u : List ℕ). not (pointwise eqb t u)) ts && all_differ ts

-- the 26 grandfathered texts differ
table_differs : all_differ grandfathered_texts ≡ true
unfolding grandfathered_texts
table_differs = refl

-- a text that differs from each text of a list is at no index of it
no_later : (t : List ℕ) (ts : List (List ℕ)) (i : ℕ) → list_all (λ (u : List ℕ). not (pointwise eqb t u)) ts ≡ true
    → i < length ts → t ≡ slice_index_or ts i [] → ⊥
no_later t ts i h n e =
    let other = list_all-at (λ (u : List ℕ). not (pointwise eqb t u)) ts i h n in
    let whole = (bytes_decides t (slice_index_or ts i [])).1 e in
    cc

-- in a list whose texts differ a text is at one index only
one_place : (ts : List (List ℕ)) (i j : ℕ) → all_differ ts ≡ true → i < length ts → j < length ts
    → slice_index_or ts i [] ≡ slice_index_or ts j [] → i ≡ j
one_place [] i j h m n e = absurd (omega arith)
one_place (t ∷ ts) zero zero h m n e = refl
one_place (t ∷ ts) zero (suc j) h m n e = absurd (no_later t ts j (and_parts _ (all_differ ts) h).0 (omega arith) e)
one_place (t ∷ ts) (suc i) zero h m n e = absurd (no_later t ts i (and_parts _ (all_differ ts) h).0 (omega arith) (sym e))
one_place (t ∷ ts) (suc i) (suc j) h m n e = ap suc (one_place ts i j (and_parts _ (all_differ ts) h).1 (omega arith) (omega arith) e)

-- the 26 lists differ
one_list : (a b : ℕ) → 1 ≤ a → a ≤ 26 → 1 ≤ b → b ≤ 26 → grandfathered_list a ≡ grandfathered_list b → a ≡ b
unfolding grandfathered_list
one_list a b first last low high e =
    let texts : slice_index_or grandfathered_texts (a - 1) [] ≡ slice_index_or grandfathered_texts (b - 1) [] =
    sym (join_pieces _) ∙ ap (join_with_byte 45) e ∙ join_pieces _ in
    let place : a - 1 ≡ b - 1 = one_place grandfathered_texts (a - 1) (b - 1) table_differs
    (omega (arith, table_length)) (omega (arith, table_length)) texts in
    omega arith

-- a list is that of one grandfathered tag at most
pub one_number : (list : List (List ℕ)) (a b : ℕ) → IsGrandfathered list a → IsGrandfathered list b → a ≡ b
one_number list a b g k = one_list a b g.first g.last k.first k.last (sym g.same ∙ k.same)

-- the first subtag of a list is `x`
abbrev x_first : List (List ℕ) → Bool
x_first [] = false
x_first (s ∷ ss) = is_x s

-- none of the 26 grandfathered texts begins with the subtag `x`
table_no_x : list_all (λ (t : List ℕ). not (x_first (pieces t))) grandfathered_texts ≡ true
unfolding grandfathered_texts
table_no_x = refl

-- no private use tag spells a grandfathered list
no_private : (subtags : List (List ℕ)) (number : ℕ) → 1 ≤ number → number ≤ 26 → x_subtag ∷ subtags ≡ grandfathered_list number → ⊥
unfolding grandfathered_list
no_private subtags number first last e =
    let none = list_all-at (λ (t : List ℕ). not (x_first (pieces t))) grandfathered_texts (number - 1) table_no_x
    (omega (arith, table_length)) in
    let some = ap x_first (sym e) in
    cc

-- a list is spelled by one tag at most
pub one_tag : (a b : TagForm) → IsTag a → IsTag b → spell a ≡ spell b → a ≡ b
one_tag (LangTag c es ps) (Grandfathered n) h k e = absurd (h.1 n (record { first = k.0; last = k.1; same = e }))
one_tag (PrivateUse ps) (Grandfathered n) h k e = absurd (no_private ps n k.0 k.1 e)
one_tag (Grandfathered m) (LangTag d fs qs) h k e = absurd (k.1 m (record { first = h.0; last = h.1; same = sym e }))
one_tag (Grandfathered m) (PrivateUse qs) h k e = absurd (no_private qs m h.0 h.1 (sym e))
one_tag (Grandfathered m) (Grandfathered n) h k e = ap (λ (z : ℕ). Grandfathered z) (one_list m n h.0 h.1 k.0 k.1 e)
one_tag (LangTag c es ps) (LangTag d fs qs) h k e = one_shaped (LangTag c es ps) (LangTag d fs qs) h.0 k.0 e
one_tag (LangTag c es ps) (PrivateUse qs) h k e = one_shaped (LangTag c es ps) (PrivateUse qs) h.0 k e
one_tag (PrivateUse ps) (LangTag d fs qs) h k e = one_shaped (PrivateUse ps) (LangTag d fs qs) h k.0 e
one_tag (PrivateUse ps) (PrivateUse qs) h k e = one_shaped (PrivateUse ps) (PrivateUse qs) h k e

-- a text is read as one tag at most
pub one_tag_of_text : (text : List ℕ) (a b : TagForm) → HasTag text a → HasTag text b → a ≡ b
one_tag_of_text text a b h k = one_tag a b h.tag k.tag (h.spelled ∙ sym k.spelled)

-- the text of a tag in conventional case has the list that the tag spells
pub text_of_tag : (tag : TagForm) → IsTag tag → HasList (conventional (spell tag)) × (list_of (conventional (spell tag)) ≡ spell tag)
text_of_tag tag k = (to_HasList (conventional (spell tag)) (ap (list_all is_subtag) (tag_again tag k) ∙ tag_subtags tag k), tag_again tag k)

-- the text of a tag is read as that tag, if it is not too long
pub read_again : (tag : TagForm) → IsTag tag → length (conventional (spell tag)) ≤ longest_text → HasTag (conventional (spell tag)) tag
read_again tag k short = record { short = short; tag = k; spelled = sym (text_of_tag tag k).1 }

-- two tags have the same text exactly if they are equal
pub same_text : (a b : TagForm) → IsTag a → IsTag b → (conventional (spell a) ≡ conventional (spell b)) ↔ (a ≡ b)
same_text a b h k = (
  λ e. one_tag a b h k (sym (tag_again a h) ∙ ap list_of e ∙ tag_again b k),
  λ e. ap (λ (t : TagForm). conventional (spell t)) e,
)
