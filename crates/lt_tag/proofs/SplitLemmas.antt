-- The subtags of an extension are cut at their *marks*, the keys or the separators, into keywords or fields: these
-- spell the subtags, and are found again in what they spell. `AreKeywords` and `AreFields` say how far the loops of
-- `read_keywords` and `read_fields` are.
use Rattle.std.proofs.Common.{◌≡◌, ℕ, ◌≤◌, Bool, true, false, ◌==◌, not, List, [], ◌∷◌, ◌++◌, length, take, drop, refl, sym, ◌∙◌, arith, ap}
use Rattle.std.specs.Prelude.{flat_map, unwrap_or, nat_lt}
use Rattle.std.specs.List.{list_all, AllByRecursion, position, position_or_len}
use Rattle.std.proofs.Math.Numerals.{one-add}
use Rattle.std.proofs.lemmas.List.Sums.{prefix_len-le-length}
use Rattle.std.proofs.lemmas.List.{append-nil, append_assoc}
use Rattle.lt_subtag.specs.Shapes.{is_key, is_separator}
use Rattle.lt_tag.specs.Parts.{KeywordParts, FieldParts}
use Rattle.lt_tag.specs.Extensions.{spell_keyword, spell_field, is_long, IsKeyword, IsField}
use Rattle.lt_tag.specs.Splitting.{before, onward, keywords_of, fields_of, are_values, has_values}
use Rattle.lt_tag.proofs.ListLemmas.{list_all-more}
use Rattle.std.proofs.lemmas.Bool.Decides.{nat_tests}
use Rattle.lt_tag.proofs.ShapeLemmas.{all_weaker, length_no_separator}

-- a mark is a subtag of which `mark` is true: a key or a separator
module _ (mark : List ℕ → Bool) where
  -- to take as many subtags as the index of the first mark says, or all if there is none, gives those before it
  pub before_is : (ss : List (List ℕ)) → take (position_or_len mark ss) ss ≡ before mark ss
  before_is [] = refl
  before_is (s ∷ ss) = grind (arith, nat_tests, before_is ss, one-add (position_or_len mark ss))

  -- to leave out as many subtags gives the first mark and all after it
  pub onward_is : (ss : List (List ℕ)) → drop (position_or_len mark ss) ss ≡ onward mark ss
  onward_is [] = refl
  onward_is (s ∷ ss) = grind (arith, nat_tests, onward_is ss, one-add (position_or_len mark ss))

  -- of the subtags from the first mark on none is before it
  pub before_onward : (ss : List (List ℕ)) → before mark (onward mark ss) ≡ []
  before_onward [] = refl
  before_onward (s ∷ ss) = grind (arith, nat_tests, before_onward ss)

  -- if a front has no mark, the subtags before the first mark of a whole list with it are the front and those of the
  -- rest
  pub before-append : (front rest : List (List ℕ)) → list_all (λ (s : List ℕ). not (mark s)) front ≡ true
      → before mark (front ++ rest) ≡ front ++ before mark rest
  before-append [] rest h = refl
  before-append (s ∷ front) rest h = grind (arith, nat_tests, before-append front rest)

-- the subtags before the first key, and those of the keywords after it, are all
pub keywords-spelled : (ss : List (List ℕ)) → before is_key ss ++ flat_map spell_keyword (keywords_of ss) ≡ ss
keywords-spelled [] = refl
keywords-spelled (s ∷ ss) = grind (arith, nat_tests, keywords-spelled ss)

-- the subtags before the first separator, and those of the fields after it, are all
pub fields-spelled : (ss : List (List ℕ)) → before is_separator ss ++ flat_map spell_field (fields_of ss) ≡ ss
fields-spelled [] = refl
fields-spelled (s ∷ ss) = grind (arith, nat_tests, fields-spelled ss)

-- what is before the first key adds no keyword
pub keywords-onward : (ss : List (List ℕ)) → keywords_of (onward is_key ss) ≡ keywords_of ss
keywords-onward [] = refl
keywords-onward (s ∷ ss) = grind (arith, nat_tests, keywords-onward ss)

-- what is before the first separator adds no field
pub fields-onward : (ss : List (List ℕ)) → fields_of (onward is_separator ss) ≡ fields_of ss
fields-onward [] = refl
fields-onward (s ∷ ss) = grind (arith, nat_tests, fields-onward ss)

-- a front without a key adds no keyword
pub keywords-append : (front rest : List (List ℕ)) → list_all (λ (s : List ℕ). not (is_key s)) front ≡ true
    → keywords_of (front ++ rest) ≡ keywords_of rest
keywords-append [] rest h = refl
keywords-append (s ∷ front) rest h = grind (arith, nat_tests, keywords-append front rest)

-- a front without a separator adds no field
pub fields-append : (front rest : List (List ℕ)) → list_all (λ (s : List ℕ). not (is_separator s)) front ≡ true
    → fields_of (front ++ rest) ≡ fields_of rest
fields-append [] rest h = refl
fields-append (s ∷ front) rest h = grind (arith, nat_tests, fields-append front rest)

-- `mark` is true of no subtag
abbrev no_mark : (mark : List ℕ → Bool) → List (List ℕ) → Type 0
no_mark mark ss = list_all (λ (s : List ℕ). not (mark s)) ss ≡ true

-- subtags of 3 to 8 letters or digits are no keys
pub no_keys : (ss : List (List ℕ)) → list_all is_long ss ≡ true → no_mark is_key ss
unfolding is_long is_key
no_keys = all_weaker is_long (λ (s : List ℕ). not (is_key s)) (λ s h. grind (arith, nat_tests))

-- subtags of 3 to 8 letters or digits are no separators
pub no_separators : (ss : List (List ℕ)) → list_all is_long ss ≡ true → no_mark is_separator ss
unfolding is_long
no_separators =
    all_weaker is_long (λ (s : List ℕ). not (is_separator s))
    (λ s h. let long : 3 ≤ length s = grind (arith, nat_tests) in ap not (length_no_separator s (λ e. omega (arith, long, e))))

-- keywords begin with a key: no subtag is before it
pub before-keywords : (ks : List KeywordParts) → AllByRecursion IsKeyword ks → before is_key (flat_map spell_keyword ks) ≡ []
before-keywords [] h = refl
before-keywords (k ∷ ks) h = rw h.0.key refl

-- fields begin with a separator: no subtag is before it
pub before-fields : (fs : List FieldParts) → AllByRecursion IsField fs → before is_separator (flat_map spell_field fs) ≡ []
before-fields [] h = refl
before-fields (f ∷ fs) h = rw h.0.separator refl

-- keywords are found again in what they spell
pub keywords-again : (ks : List KeywordParts) → AllByRecursion IsKeyword ks → keywords_of (flat_map spell_keyword ks) ≡ ks
keywords-again [] h = refl
keywords-again (k ∷ ks) h =
    let rest = flat_map spell_keyword ks in
    let types : before is_key (k.types ++ rest) ≡ k.types =
    rw (before-append is_key k.types rest (no_keys k.types h.0.types), before-keywords ks h.1)
    (append-nil k.types) in
    rw (h.0.key, types, keywords-append k.types rest (no_keys k.types h.0.types), keywords-again ks h.1) refl

-- fields are found again in what they spell
pub fields-again : (fs : List FieldParts) → AllByRecursion IsField fs → fields_of (flat_map spell_field fs) ≡ fs
fields-again [] h = refl
fields-again (f ∷ fs) h =
    let rest = flat_map spell_field fs in
    let values : before is_separator (f.values ++ rest) ≡ f.values =
    rw (before-append is_separator f.values rest (no_separators f.values h.0.values), before-fields fs h.1)
    (append-nil f.values) in
    rw (h.0.separator, values, fields-append f.values rest (no_separators f.values h.0.values), fields-again fs h.1) refl

-- the index of the first mark, or the length where there is none: what the code computes is `position_or_len`
pub place_of : (mark : List ℕ → Bool) (ss : List (List ℕ)) → unwrap_or (position mark ss) (length ss) ≡ position_or_len mark ss
place_of mark ss = grind (arith, nat_tests, prefix_len-le-length (λ (s : List ℕ). not (mark s)) ss)

-- the subtags from the first mark on are no more than all
pub length_onward : (mark : List ℕ → Bool) (ss : List (List ℕ)) → length (onward mark ss) ≤ length ss
length_onward mark [] = omega arith
length_onward mark (s ∷ ss) = grind (arith, nat_tests, length_onward mark ss)

-- where no subtag is before the first mark, the first subtag, s, is that mark
marked : (mark : List ℕ → Bool) (s : List ℕ) (ss : List (List ℕ)) → before mark (s ∷ ss) ≡ [] → mark s ≡ true
marked mark s ss h = grind (arith, nat_tests)

-- While keywords are read: `all` are those so far, `done`, and then those of the subtags left, `rest`, which begin with
-- a key.
pub record AreKeywords (all done : List KeywordParts) (rest : List (List ℕ)) : Type 0 where
  pub at_key : before is_key rest ≡ []
  pub whole : done ++ keywords_of rest ≡ all

-- at first no keyword is read, and the subtags from the first key on are left
pub keywords_begin : (ss rest : List (List ℕ)) (done : List KeywordParts) → done ≡ [] → rest ≡ onward is_key ss
    → AreKeywords (keywords_of ss) done rest
keywords_begin ss rest done e r =
    record { at_key = rw r (before_onward is_key ss); whole = rw (e, r) (keywords-onward ss) }

-- if `key` and then `types`, the subtags up to the next key, are next, they are one keyword more, and `after` are left
pub keywords_next : (all done more : List KeywordParts) (rest : List (List ℕ)) (key : List ℕ) (others types after : List
    (List ℕ)) → AreKeywords all done rest → rest ≡ key ∷ others
    → types ≡ before is_key others → after ≡ onward is_key others
    → more ≡ done ++ record { key = key; types = types } ∷ [] → AreKeywords all more after
keywords_next all done more rest key others types after h split t a m =
    let keyed : is_key key ≡ true = marked is_key key others (rw split at h.at_key) in
    record {
      at_key = rw a (before_onward is_key others);
      whole = rw (m, t, a, append_assoc done, keywords-onward others) (rw (split, keyed) at h.whole);
    }

-- if no subtag is left, the keywords so far are all
pub keywords_end : (all done : List KeywordParts) (rest : List (List ℕ)) → AreKeywords all done rest → length rest ≡ 0 → done ≡ all
keywords_end all done [] h n = sym (append-nil done) ∙ h.whole
keywords_end all done (s ∷ ss) h n = absurd (omega arith)

-- a list that is tested not to be empty has a positive length
pub some_there : (ss : List (List ℕ)) → (length ss == 0) ≡ false → nat_lt 0 (length ss) ≡ true
some_there ss h = grind (arith, nat_tests)

-- While fields are read: `all` are those so far, `done`, which have values, and then those of the subtags left, `rest`,
-- which begin with a separator.
pub record AreFields (all done : List FieldParts) (rest : List (List ℕ)) : Type 0 where
  pub at_separator : before is_separator rest ≡ []
  pub whole : done ++ fields_of rest ≡ all
  pub values : list_all has_values done ≡ true

-- at first no field is read, and the subtags from the first separator on are left
pub fields_begin : (ss rest : List (List ℕ)) (done : List FieldParts) → done ≡ [] → rest ≡ onward is_separator ss
    → AreFields (fields_of ss) done rest
fields_begin ss rest done e r =
    record { at_separator = rw r (before_onward is_separator ss); whole = rw (e, r) (fields-onward ss); values = rw e refl }

-- what begins with a separator is a field, with the subtags up to the next separator as its values, and further fields
fields_split : (separator : List ℕ) (others : List (List ℕ)) → before is_separator (separator ∷ others) ≡ []
    → fields_of (separator ∷ others) ≡ record { separator = separator; values = before is_separator others } ∷ fields_of others
fields_split separator others h = rw (marked is_separator separator others h) refl

-- if `separator` and then `values`, the subtags up to the next separator, are next, they are one field more, and
-- `after` are left
pub fields_next : (all done more : List FieldParts) (rest : List (List ℕ)) (separator : List ℕ) (others values after
    : List (List ℕ)) → AreFields all done rest → rest ≡ separator ∷ others
    → values ≡ before is_separator others → after ≡ onward is_separator others → are_values values ≡ true
    → more ≡ done ++ record { separator = separator; values = values } ∷ [] → AreFields all more after
fields_next all done more rest separator others values after h split t a good m =
    let whole : done ++ fields_of (separator ∷ others) ≡ all = rw split at h.whole in
    record {
      at_separator = rw a (before_onward is_separator others);
      whole = rw (m, t, a, append_assoc done, fields-onward others)
          (rw (fields_split separator others (rw split at h.at_separator)) at whole);
      values = rw m (list_all-more has_values done (record { separator = separator; values = values }) h.values good);
    }

-- if one field among others has no values, or one without the form of a value, not all fields have values
all_fail : (done rest : List FieldParts) (first : FieldParts) → has_values first ≡ false
    → list_all has_values (done ++ first ∷ rest) ≡ false
all_fail [] rest first h = grind (arith, nat_tests)
all_fail (d ∷ done) rest first h = grind (arith, nat_tests, all_fail done rest first h)

-- if the next field has no values, or one without the form of a value, not all fields have values
pub fields_fail : (all done : List FieldParts) (rest : List (List ℕ)) (separator : List ℕ) (others values : List
    (List ℕ)) → AreFields all done rest → rest ≡ separator ∷ others
    → values ≡ before is_separator others → are_values values ≡ false → list_all has_values all ≡ false
fields_fail all done rest separator others values h split t bad =
    let whole : done ++ fields_of (separator ∷ others) ≡ all = rw split at h.whole in
    let fails : are_values (before is_separator others) ≡ false = rw (← t) bad in
    rw (← whole, fields_split separator others (rw split at h.at_separator)) (all_fail done (fields_of others) _ fails)

-- if no subtag is left, the fields so far are all, and have values
pub fields_end : (all done : List FieldParts) (rest : List (List ℕ)) → AreFields all done rest → length rest ≡ 0
    → (done ≡ all) × (list_all has_values done ≡ true)
fields_end all done [] h n = (sym (append-nil done) ∙ h.whole, h.values)
fields_end all done (s ∷ ss) h n = absurd (omega arith)
