-- What was found of some fields (`HasFound`) is still true after `Found::put` has noted one more field. There is a
-- lemma for each name that this field may have.
use Rattle.std.proofs.Common.{get_or, ◌≡◌, ℕ, Bool, true, false, ◌||◌, List, [], ◌∷◌, ◌++◌, length, Some, refl, sym, ap, ◌∙◌, arith}
use Rattle.std.specs.Prelude.{is_some}
use Rattle.std.specs.Option.{option_or}
use Rattle.lt_jar.specs.Records.{Field}
use Rattle.lt_registry.specs.Records.{body, date_name, is_called, is_repeated, kind_of, subtag_name, tag_name, type_name, value_name}
use Rattle.lt_registry.specs.RecordSteps.{HasFound, field_told}
use Rattle.lt_registry.specs.declared.entries.Kind.TheVariants as kinds
use Rattle.lt_registry.specs.declared.fields.FieldName.TheVariants as told
use Rattle.lt_registry.specs.declared.fields.Found.{Found}
use Rattle.lt_registry.proofs.FieldLemmas.{apart, by_date, by_none, by_subtag, by_tag, by_type, by_value, place_more}
use Rattle.lt_registry.proofs.FieldLemmas.{place_same, repeated_more, repeated_same, some_more, some_same}

-- with a true test the disjunction is true
or_true : (a : Bool) → (a || true) ≡ true
or_true true = refl
or_true false = refl

-- with a false test the disjunction is what it was
or_false : (a : Bool) → (a || false) ≡ a
or_false true = refl
or_false false = refl

-- a test `e` after four others may be joined to the first of them
or_1 : (a b c d e : Bool) → ((a || (b || (c || d))) || e) ≡ ((a || e) || (b || (c || d)))
or_1 a b c d true = or_true (a || (b || (c || d))) ∙ sym (ap (λ z. z || (b || (c || d))) (or_true a))
or_1 a b c d false = or_false (a || (b || (c || d))) ∙ sym (ap (λ z. z || (b || (c || d))) (or_false a))

-- a test `e` after four others may be joined to the second of them
or_2 : (a b c d e : Bool) → ((a || (b || (c || d))) || e) ≡ (a || ((b || e) || (c || d)))
or_2 a b c d true = or_true (a || (b || (c || d))) ∙ sym (ap (λ z. a || (z || (c || d))) (or_true b) ∙ or_true a)
or_2 a b c d false = or_false (a || (b || (c || d))) ∙ sym (ap (λ z. a || (z || (c || d))) (or_false b))

-- a test `e` after four others may be joined to the third of them
or_3 : (a b c d e : Bool) → ((a || (b || (c || d))) || e) ≡ (a || (b || ((c || e) || d)))
or_3 a b c d true = or_true (a || (b || (c || d)))
    ∙ sym (ap (λ z. a || (b || (z || d))) (or_true c) ∙ ap (λ z. a || z) (or_true b) ∙ or_true a)
or_3 a b c d false = or_false (a || (b || (c || d))) ∙ sym (ap (λ z. a || (b || (z || d))) (or_false c))

-- a test `e` after four others may be joined to the fourth of them
or_4 : (a b c d e : Bool) → ((a || (b || (c || d))) || e) ≡ (a || (b || (c || (d || e))))
or_4 a b c d true =
    or_true (a || (b || (c || d)))
    ∙ sym (ap (λ z. a || (b || (c || z))) (or_true d) ∙ ap (λ z. a || (b || z)) (or_true c)
    ∙ ap (λ z. a || z) (or_true b) ∙ or_true a)
or_4 a b c d false = or_false (a || (b || (c || d))) ∙ sym (ap (λ z. a || (b || (c || z))) (or_false d))

-- each of four tests may be replaced by an equal one
four : (a b c d x y z w : Bool) → x ≡ a → y ≡ b → z ≡ c → w ≡ d → (a || (b || (c || d))) ≡ (x || (y || (z || w)))
four a b c d x y z w e f g h = cc (e, f, g, h)

-- `old` is what was found among the fields `r`, and the field `f` follows at the place `place`
module _ (r : List Field) (f : Field) (place : ℕ) (old : Found) (l : length r ≡ place) (h : HasFound r old) where
  -- after a field Type: its place is found if it is the first such field, else the field is repeated
  pub found_type : field_told f.0 ≡ told.Type
      → HasFound (r ++ f ∷ []) (record old {
        kind = option_or old.kind (Some place);
        repeats = old.repeats || is_some old.kind;
      })
  found_type t =
      let yes : is_called type_name f ≡ true = by_type (is_called type_name f) (is_called subtag_name f)
      (is_called tag_name f) (is_called value_name f) (is_called date_name f) t in
      let no_subtag = apart f.0 type_name subtag_name (λ w. cc w) yes in
      let no_tag = apart f.0 type_name tag_name (λ w. cc w) yes in
      let no_value = apart f.0 type_name value_name (λ w. cc w) yes in
      let no_date = apart f.0 type_name date_name (λ w. cc w) yes in
      record {
        kind = ap (λ z. option_or z (Some place)) h.kind ∙ place_more (is_called type_name) r f place l yes;
        subtag = h.subtag ∙ place_same (is_called subtag_name) r f no_subtag;
        tag = h.tag ∙ place_same (is_called tag_name) r f no_tag;
        value = h.value ∙ place_same (is_called value_name) r f no_value;
        dated = h.dated ∙ sym (some_same date_name r f no_date);
        repeats = ap (λ z. z || is_some old.kind) h.repeats
            ∙ or_1 (is_repeated type_name r) (is_repeated subtag_name r) (is_repeated tag_name r) (is_repeated
            value_name r) (is_some old.kind)
            ∙ four (is_repeated type_name r || is_some old.kind) (is_repeated subtag_name r) (is_repeated tag_name
            r) (is_repeated value_name r) (is_repeated type_name (r ++ f ∷ []))
            (is_repeated subtag_name (r ++ f ∷ [])) (is_repeated tag_name (r ++ f ∷ []))
            (is_repeated value_name (r ++ f ∷ [])) (repeated_more type_name r f old.kind h.kind yes)
            (repeated_same subtag_name r f no_subtag) (repeated_same tag_name r f no_tag)
            (repeated_same value_name r f no_value);
      }

  -- after a field Subtag: its place is found if it is the first such field, else the field is repeated
  pub found_subtag : field_told f.0 ≡ told.Subtag
      → HasFound (r ++ f ∷ []) (record old {
        subtag = option_or old.subtag (Some place);
        repeats = old.repeats || is_some old.subtag;
      })
  found_subtag t =
      let yes : is_called subtag_name f ≡ true = by_subtag (is_called type_name f) (is_called subtag_name f)
      (is_called tag_name f) (is_called value_name f) (is_called date_name f) t in
      let no_type = apart f.0 subtag_name type_name (λ w. cc w) yes in
      let no_tag = apart f.0 subtag_name tag_name (λ w. cc w) yes in
      let no_value = apart f.0 subtag_name value_name (λ w. cc w) yes in
      let no_date = apart f.0 subtag_name date_name (λ w. cc w) yes in
      record {
        kind = h.kind ∙ place_same (is_called type_name) r f no_type;
        subtag = ap (λ z. option_or z (Some place)) h.subtag ∙ place_more (is_called subtag_name) r f place l yes;
        tag = h.tag ∙ place_same (is_called tag_name) r f no_tag;
        value = h.value ∙ place_same (is_called value_name) r f no_value;
        dated = h.dated ∙ sym (some_same date_name r f no_date);
        repeats = ap (λ z. z || is_some old.subtag) h.repeats
            ∙ or_2 (is_repeated type_name r) (is_repeated subtag_name r) (is_repeated tag_name r) (is_repeated
            value_name r) (is_some old.subtag)
            ∙ four (is_repeated type_name r) (is_repeated subtag_name r || is_some old.subtag) (is_repeated tag_name
            r) (is_repeated value_name r) (is_repeated type_name (r ++ f ∷ []))
            (is_repeated subtag_name (r ++ f ∷ [])) (is_repeated tag_name (r ++ f ∷ []))
            (is_repeated value_name (r ++ f ∷ [])) (repeated_same type_name r f no_type)
            (repeated_more subtag_name r f old.subtag h.subtag yes) (repeated_same tag_name r f no_tag)
            (repeated_same value_name r f no_value);
      }

  -- after a field Tag: its place is found if it is the first such field, else the field is repeated
  pub found_tag : field_told f.0 ≡ told.Tag
      → HasFound (r ++ f ∷ []) (record old {
        tag = option_or old.tag (Some place);
        repeats = old.repeats || is_some old.tag;
      })
  found_tag t =
      let yes : is_called tag_name f ≡ true = by_tag (is_called type_name f) (is_called subtag_name f)
      (is_called tag_name f) (is_called value_name f) (is_called date_name f) t in
      let no_type = apart f.0 tag_name type_name (λ w. cc w) yes in
      let no_subtag = apart f.0 tag_name subtag_name (λ w. cc w) yes in
      let no_value = apart f.0 tag_name value_name (λ w. cc w) yes in
      let no_date = apart f.0 tag_name date_name (λ w. cc w) yes in
      record {
        kind = h.kind ∙ place_same (is_called type_name) r f no_type;
        subtag = h.subtag ∙ place_same (is_called subtag_name) r f no_subtag;
        tag = ap (λ z. option_or z (Some place)) h.tag ∙ place_more (is_called tag_name) r f place l yes;
        value = h.value ∙ place_same (is_called value_name) r f no_value;
        dated = h.dated ∙ sym (some_same date_name r f no_date);
        repeats = ap (λ z. z || is_some old.tag) h.repeats
            ∙ or_3 (is_repeated type_name r) (is_repeated subtag_name r) (is_repeated tag_name r) (is_repeated
            value_name r) (is_some old.tag)
            ∙ four (is_repeated type_name r) (is_repeated subtag_name r) (is_repeated tag_name r
            || is_some old.tag) (is_repeated value_name r) (is_repeated type_name (r ++ f ∷ []))
            (is_repeated subtag_name (r ++ f ∷ [])) (is_repeated tag_name (r ++ f ∷ []))
            (is_repeated value_name (r ++ f ∷ [])) (repeated_same type_name r f no_type)
            (repeated_same subtag_name r f no_subtag) (repeated_more tag_name r f old.tag h.tag yes)
            (repeated_same value_name r f no_value);
      }

  -- after a field Preferred-Value: its place is found if it is the first such field, else the field is repeated
  pub found_value : field_told f.0 ≡ told.PreferredValue
      → HasFound (r ++ f ∷ []) (record old {
        value = option_or old.value (Some place);
        repeats = old.repeats || is_some old.value;
      })
  found_value t =
      let yes : is_called value_name f ≡ true = by_value (is_called type_name f) (is_called subtag_name f)
      (is_called tag_name f) (is_called value_name f) (is_called date_name f) t in
      let no_type = apart f.0 value_name type_name (λ w. cc w) yes in
      let no_subtag = apart f.0 value_name subtag_name (λ w. cc w) yes in
      let no_tag = apart f.0 value_name tag_name (λ w. cc w) yes in
      let no_date = apart f.0 value_name date_name (λ w. cc w) yes in
      record {
        kind = h.kind ∙ place_same (is_called type_name) r f no_type;
        subtag = h.subtag ∙ place_same (is_called subtag_name) r f no_subtag;
        tag = h.tag ∙ place_same (is_called tag_name) r f no_tag;
        value = ap (λ z. option_or z (Some place)) h.value ∙ place_more (is_called value_name) r f place l yes;
        dated = h.dated ∙ sym (some_same date_name r f no_date);
        repeats = ap (λ z. z || is_some old.value) h.repeats
            ∙ or_4 (is_repeated type_name r) (is_repeated subtag_name r) (is_repeated tag_name r) (is_repeated
            value_name r) (is_some old.value)
            ∙ four (is_repeated type_name r) (is_repeated subtag_name r) (is_repeated tag_name
            r) (is_repeated value_name r || is_some old.value) (is_repeated type_name (r ++ f ∷ []))
            (is_repeated subtag_name (r ++ f ∷ [])) (is_repeated tag_name (r ++ f ∷ []))
            (is_repeated value_name (r ++ f ∷ [])) (repeated_same type_name r f no_type)
            (repeated_same subtag_name r f no_subtag) (repeated_same tag_name r f no_tag)
            (repeated_more value_name r f old.value h.value yes);
      }

  -- after a field that is no Type, Subtag, Tag or Preferred-Value: what is found changes at most in whether there is a
  -- File-Date (`dated`)
  passed : is_called type_name f ≡ false → is_called subtag_name f ≡ false → is_called tag_name f ≡ false
      → is_called value_name f ≡ false → (dated : Bool) → dated ≡ is_some (body date_name (r ++ f ∷ []))
      → HasFound (r ++ f ∷ []) (record old { is_dated = dated })
  passed a b c d dated is = record {
    kind = h.kind ∙ place_same (is_called type_name) r f a;
    subtag = h.subtag ∙ place_same (is_called subtag_name) r f b;
    tag = h.tag ∙ place_same (is_called tag_name) r f c;
    value = h.value ∙ place_same (is_called value_name) r f d;
    dated = is;
    repeats = h.repeats ∙ four (is_repeated type_name r) (is_repeated subtag_name r) (is_repeated tag_name r) (is_repeated value_name r)
        (is_repeated type_name (r ++ f ∷ [])) (is_repeated subtag_name (r ++ f ∷ []))
        (is_repeated tag_name (r ++ f ∷ [])) (is_repeated value_name (r ++ f ∷ []))
        (repeated_same type_name r f a) (repeated_same subtag_name r f b) (repeated_same tag_name r f c) (repeated_same value_name r f d);
  }

  -- after a field File-Date: what is found says that there is one
  pub found_date : field_told f.0 ≡ told.FileDate → HasFound (r ++ f ∷ []) (record old { is_dated = true })
  found_date t =
      let yes : is_called date_name f ≡ true = by_date (is_called type_name f) (is_called subtag_name f)
      (is_called tag_name f) (is_called value_name f) (is_called date_name f) t in
      passed (apart f.0 date_name type_name (λ w. cc w) yes) (apart f.0 date_name subtag_name (λ w. cc w) yes)
      (apart f.0 date_name tag_name (λ w. cc w) yes) (apart f.0 date_name value_name (λ w. cc w) yes)
      true (sym (some_more date_name r f yes))

  -- after a field of another name: what is found stays
  pub found_other : field_told f.0 ≡ told.Other → HasFound (r ++ f ∷ []) old
  found_other t =
      let no = by_none (is_called type_name f) (is_called subtag_name f) (is_called tag_name f) (is_called value_name f)
      (is_called date_name f) t in
      passed no.0 no.1 no.2 no.3 old.is_dated (h.dated ∙ sym (some_same date_name r f no.4))

-- The type of a language, as it is written in most records.

-- a text of the eight bytes of `language` (108 is `l`) names the kind Language
pub language_spelled : (s : List ℕ) → length s ≡ 8 → get_or s 0 0 ≡ 108 → get_or s 1 0 ≡ 97 → get_or s 2 0 ≡ 110 → get_or s 3 0 ≡ 103
    → get_or s 4 0 ≡ 117 → get_or s 5 0 ≡ 97 → get_or s 6 0 ≡ 103 → get_or s 7 0 ≡ 101 → kind_of s ≡ Some kinds.Language
language_spelled [] long = absurd (omega (arith, long))
language_spelled (a ∷ []) long = absurd (omega (arith, long))
language_spelled (a ∷ b ∷ []) long = absurd (omega (arith, long))
language_spelled (a ∷ b ∷ c ∷ []) long = absurd (omega (arith, long))
language_spelled (a ∷ b ∷ c ∷ d ∷ []) long = absurd (omega (arith, long))
language_spelled (a ∷ b ∷ c ∷ d ∷ e ∷ []) long = absurd (omega (arith, long))
language_spelled (a ∷ b ∷ c ∷ d ∷ e ∷ f ∷ []) long = absurd (omega (arith, long))
language_spelled (a ∷ b ∷ c ∷ d ∷ e ∷ f ∷ g ∷ []) long = absurd (omega (arith, long))
language_spelled (a ∷ b ∷ c ∷ d ∷ e ∷ f ∷ g ∷ h ∷ []) long =
    λ is_a is_b is_c is_d is_e is_f is_g is_h. rw (is_a, is_b, is_c, is_d, is_e, is_f, is_g, is_h) refl
language_spelled (a ∷ b ∷ c ∷ d ∷ e ∷ f ∷ g ∷ h ∷ x ∷ s) long = absurd (omega (arith, long))
