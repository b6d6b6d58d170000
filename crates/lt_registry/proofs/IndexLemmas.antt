-- How the rows of the indexes are gathered, entry by entry. And what a look-up in an index of a `SortedTable` finds:
-- the entry that a search through all entries, from the first on, would find.
use Rattle.std.proofs.Common.{◌≡◌, ℕ, ◌+◌, ◌<◌, ◌≤◌, Bool, true, false, cond, eqb, List, [], ◌∷◌, ◌++◌, length, get_or}
use Rattle.std.proofs.Common.{refl, sym, ap, ◌∙◌, arith, inl, inr, ◌&&◌, Option, Some, None, subst}
use Rattle.std.specs.List.{All, Contains, find, slice_get, HoldsAt, cons_option}
use Rattle.std.specs.List.Sorted.{IsNonDecreasingBy, IsPartitionPoint}
use Rattle.std.specs.Ordering.{nat_cmp, is_eq, ordering_index}
use Rattle.std.specs.Cmp.{IsTotalOrder, Equal-is}
use Rattle.std.specs.declared.cmp.Ordering.TheVariants.{Less, Equal, Greater}
use Rattle.std.specs.Cmp.Lexicographic.{options_total}
use Rattle.std.proofs.lemmas.Bool.{and_parts, cases_lt}
use Rattle.std.proofs.lemmas.Cmp.{nat_cmp_total, then_total, on_total, tied_itself}
use Rattle.std.proofs.lemmas.List.{append-nil}
use Rattle.std.specs.Option.{option_map, option_and_then}
use Rattle.std.proofs.lemmas.Option.{slice_get_within, get_or_from_slice_get, slice_get_read, same_Some}
use Rattle.std.proofs.lemmas.List.Elements.{All-push, Contains-append_left, Contains-push}
use Rattle.lt_tag.specs.Parts.{TagForm}
use Rattle.lt_tag.specs.OrderLaws.{tag_total, tags_apart}
use Rattle.lt_tag.specs.Order.{tag_cmp}
use Rattle.lt_registry.specs.Entries.{has_form, is_whole_kind, FitsName, IsEntry, is_named, holds, is_whole, entry, whole}
use Rattle.lt_subtag.specs.Lanes.{number}
use Rattle.lt_registry.specs.Sorted.{IsRowAt, AreRows, single_number, single_row, place_of, tag_in, tag_at}
use Rattle.lt_registry.specs.Sorted.{language_number, whole_row, whole_key, whole_key_cmp, IsSingles, IsWholes}
use Rattle.lt_registry.specs.Sorted.{index_of}
use Rattle.lt_registry.specs.declared.entries.Kind.{Kind}
use Rattle.lt_registry.specs.Same.{same_tag, same_kind}
use Rattle.lt_registry.specs.Parts.{EntryParts}
use Rattle.lt_registry.specs.declared.entries.EntryName.{EntryName}
use Rattle.lt_registry.specs.declared.rows.Row.{Row}
use Rattle.lt_registry.specs.declared.indexes.Indexes.{Indexes}
use Rattle.lt_registry.specs.declared.entries.Kind.TheVariants as kinds
use Rattle.lt_registry.specs.declared.entries.EntryName.TheVariants as names
use Rattle.lt_subtag.proofs.NumberLemmas.{IsFew, numbers_equal}
use Rattle.lt_registry.proofs.NumberLemmas.{form_few, same_test}
use Rattle.lt_registry.proofs.SortedLemmas.{absent, find_none, found, found_passes, matches, missing, nats_equal, rises}
use Rattle.lt_registry.proofs.SortedLemmas.{tags_equal, then_equal, unfound_fails}

-- rows are gathered entry by entry: `row` gives the row of an entry at a place, if it has one, and `place` gives the
-- place of a row
module _ {W : Type 0} (row : ℕ → EntryParts → Option W) (place : W → ℕ) (R : List EntryParts) where
  -- the entry `f` at the place `p`, which is the index `i`, has the row of the entry `e` at that index
  same_row : (i p : ℕ) (e f : EntryParts) → i < length R → e ≡ get_or R i e → p < i + 1 → i ≤ p → slice_get R p ≡ Some f → row p f ≡ row i e
  same_row i p e f l is low high there =
      let here : p ≡ i = omega arith in
      let same : Some e ≡ Some f = sym (slice_get_read R (length R) i e refl l is) ∙ ap (slice_get R) (sym here) ∙ there in
      ap (row p) (sym (same_Some e f same)) ∙ ap (λ k. row k e) here

  -- if the entry at the index `i` has no row, the rows of the first `i + 1` entries are those of the first `i`
  pub rows_skipped : (i : ℕ) (e : EntryParts) (rows new : List W) → i < length R → e ≡ get_or R i e → row i e ≡ None
      → new ≡ rows → AreRows row place R i rows → AreRows row place R (i + 1) new
  rows_skipped i e rows new l is none same g =
      rw same record {
        sound = g.sound;
        complete = λ p f w low there gives.
            elim (cases_lt p i) [
              | inl before ↦ g.complete p f w before there gives
              | inr after ↦ let bad : None ≡ Some w = sym none ∙ sym (same_row i p e f l is low after there) ∙ gives in cc
            ];
      }

  -- if the entry at the index `i` has a row `v`, the rows of the first `i + 1` entries are those of the first `i` and
  -- that
  pub rows_more : (i : ℕ) (e : EntryParts) (v : W) (rows new : List W) → i < length R → e ≡ get_or R i e
      → row i e ≡ Some v → place v ≡ i → new ≡ rows ++ v ∷ [] → AreRows row place R i rows
      → AreRows row place R (i + 1) new
  rows_more i e v rows new l is some where_v same g =
      rw same record {
        sound = All-push (IsRowAt row place R) rows v g.sound (
          e,
          ap (slice_get R) where_v
              ∙ slice_get_read R (length R) i e refl l is,
          ap (λ k. row k e) where_v ∙ some,
        );
        complete = λ p f w low there gives.
            elim (cases_lt p i) [
              | inl before ↦ Contains-append_left rows (v ∷ []) w (g.complete p f w before there gives)
              | inr after ↦
                  let are : Some v ≡ Some w = sym some ∙ sym (same_row i p e f l is low after there) ∙ gives in
                  subst (Contains (rows ++ v ∷ [])) (same_Some v w are) (Contains-push rows v)
            ];
      }

  -- the rows of the first `i + 1` entries are those of the first `i` and that of the next, `o`, if it has one
  pub rows_turned : (i : ℕ) (e : EntryParts) (o : Option W) (rows new : List W)
      → ((w : W) → row i e ≡ Some w → place w ≡ i) → i < length R → e ≡ get_or R i e → row i e ≡ o
      → new ≡ rows ++ cons_option o [] → AreRows row place R i rows → AreRows row place R (i + 1) new
  rows_turned i e None rows new placed l is none same g = rows_skipped i e rows new l is none (same ∙ append-nil rows) g
  rows_turned i e (Some v) rows new placed l is some same g = rows_more i e v rows new l is some (placed v some) same g

-- if each row that `make` gives has the place `p`, so has `w`, which it gives of the value of `o` if `b` is true
pub placed_at : {A W : Type 0} (place : W → ℕ) (make : A → W) (p : ℕ) → ((a : A) → place (make a) ≡ p)
    → (b : Bool) (o : Option A) (w : W) → cond b (option_map make o) None ≡ Some w → place w ≡ p
placed_at place make p at true (Some a) w h = let same : make a ≡ w = cc in ap place (sym same) ∙ at a
placed_at place make p at _ _ w h = cc

-- What the indexes of a sorted table find.

-- if each element of a list has the forms of an entry, the one at the place `p` has
pub entry_at : (R : List EntryParts) → All IsEntry R → (p : ℕ) (e : EntryParts) → slice_get R p ≡ Some e → IsEntry e
entry_at R forms p e there = subst IsEntry (get_or_from_slice_get R p e e there) (forms p e (slice_get_within R p e there))

-- with a false test the conjunction is false
pub and_false : (b : Bool) → (b && false) ≡ false
and_false true = refl
and_false false = refl

-- single records

-- the row of a single record has the place of its entry
pub single_placed : (kind : Kind) (p : ℕ) (e : EntryParts) (w : Row) → single_row kind p e ≡ Some w → w.place ≡ p
single_placed kind p e w h = placed_at (λ (r : Row). r.place) (λ (n : ℕ). record { number = n; place = p }) p
    (λ n. refl) (same_kind e.kind kind) (single_number e.name) w h

-- what a search in the rows of single records finds for the subtag `s`
module _ (R : List EntryParts) (kind : Kind) (rows : List Row) (s : List ℕ) (ix : IsSingles R kind rows)
    (forms : All IsEntry R) (few : IsFew s) where
  -- whether an entry is of the kind and names just the subtag
  abbrev is_it : EntryParts → Bool
  is_it e = same_kind e.kind kind && is_named s e.name

  -- an entry names just the subtag exactly if its row has the subtag's number; `b` is whether the entry is of the kind,
  -- and `p` is its place
  name_agrees : (p : ℕ) (k : Kind) (b : Bool) (name : EntryName) → FitsName k name
      → (b && is_named s name)
      ≡ matches nat_cmp (λ (w : Row). w.number) (number s) (cond b
      (option_map (λ (n : ℕ). record { number = n; place = p }) (single_number name)) None)
  name_agrees p k true (names.Single n) fits = sym (nats_equal (number n) (number s) ∙ numbers_equal n s (form_few k n fits) few)
  name_agrees p k _ _ fits = refl

  -- the entry at a place of the registry names just the subtag exactly if its row has the subtag's number
  agrees : (p : ℕ) (e : EntryParts) → slice_get R p ≡ Some e
      → is_it e ≡ matches nat_cmp (λ (w : Row). w.number) (number s) (single_row kind p e)
  agrees p e there = name_agrees p e.kind (same_kind e.kind kind) e.name (entry_at R forms p e there).name

  -- the place that the rows give for the subtag's number `n` (`o`) is that of the first record that names just the
  -- subtag
  pub single_at : (n : ℕ) (o : Option ℕ) → n ≡ number s → o ≡ place_of n rows → option_and_then (slice_get R) o ≡ find is_it R
  single_at n o is said =
      ap (option_and_then (slice_get R)) (said ∙ ap (λ m. place_of m rows) is)
      ∙ sym (by (find (λ (w : Row). eqb w.number (number s)) rows) refl)
    where
      by : (o : Option Row) → find (λ (w : Row). eqb w.number (number s)) rows ≡ o
          → find is_it R ≡ option_and_then (slice_get R) (option_map (λ (w : Row). w.place) o)
      by (Some w) is =
          let at = found_passes (λ (v : Row). eqb v.number (number s)) rows w is in
          found nat_cmp_total (λ (r : Row). r.number) (λ (r : Row). r.place) (single_row kind) (single_placed kind) R
          rows ix (number s) is_it agrees at.0 w at.1 at.2
          ((Equal-is (nat_cmp w.number (number s))).0 (nats_equal w.number (number s) ∙ at.3))
      by None is =
          missing nat_cmp_total (λ (r : Row). r.number) (λ (r : Row). r.place) (single_row kind) (single_placed kind) R
          rows ix (number s) is_it agrees
          (λ i w l at tied.
          let no = unfound_fails (λ (v : Row). eqb v.number (number s)) rows is i w l at in
          let bad : true ≡ false = ap is_eq (sym tied) ∙ nats_equal w.number (number s) ∙ no in cc)

-- whole records

-- the row of a record with a whole tag has the place of its entry
pub whole_placed : (p : ℕ) (e : EntryParts) (w : Row) → whole_row p e ≡ Some w → w.place ≡ p
whole_placed p e w h = placed_at (λ (r : Row). r.place)
    (λ (t : TagForm). record { number = language_number t; place = p }) p (λ t. refl) true (tag_in e.name) w h

-- the order of the keys of whole tags is a total order
pub key_total : IsTotalOrder whole_key_cmp
key_total = then_total (on_total (λ (k : ℕ × Option TagForm). k.0) nat_cmp_total)
    (on_total (λ (k : ℕ × Option TagForm). k.1) (options_total tag_total))

-- the keys of two tags are equal exactly if the tags are the same
keys_equal : (u t : TagForm) → is_eq (whole_key_cmp (language_number u, Some u) (language_number t, Some t)) ≡ same_tag u t
keys_equal u t =
    same_test (is_eq (whole_key_cmp (language_number u, Some u) (language_number t, Some t))) (same_tag u t)
    (λ e. sym (tags_equal u t)
    ∙ (and_parts (is_eq (nat_cmp (language_number u) (language_number t))) (is_eq (tag_cmp u t))
    (sym (then_equal (nat_cmp (language_number u) (language_number t)) (tag_cmp u t)) ∙ e)).1)
    (λ e.
    let same : u ≡ t = tags_apart u t ((Equal-is (tag_cmp u t)).0 (tags_equal u t ∙ e)) in
    subst (λ z. is_eq (whole_key_cmp (language_number u, Some u) (language_number z, Some z)) ≡ true) same
    (ap is_eq (tied_itself key_total (language_number u, Some u))))

-- what a search in the rows of whole tags finds for the tag `t`
module _ (R : List EntryParts) (rows : List Row) (t : TagForm) (ix : IsWholes R rows) where
  -- whether an entry names the tag
  abbrev is_that : EntryParts → Bool
  is_that e = is_whole t e.name

  -- the key of the tag
  abbrev sought : ℕ × Option TagForm
  sought = (language_number t, Some t)

  -- an entry names the tag exactly if its row has the tag's key; `name` is the entry's name, `p` its place
  tag_agrees : (p : ℕ) (e : EntryParts) (name : EntryName) → name ≡ e.name → slice_get R p ≡ Some e
      → is_whole t name
      ≡ matches whole_key_cmp (whole_key R) sought (option_map
      (λ (u : TagForm). record { number = language_number u; place = p }) (tag_in name))
  tag_agrees p e (names.Whole u) is there =
      let here : tag_at R p ≡ Some u = ap (option_and_then (λ (f : EntryParts). tag_in f.name)) there ∙ sym (ap tag_in is) in
      sym (ap (λ o. is_eq (whole_key_cmp (language_number u, o) sought)) here ∙ keys_equal u t)
  tag_agrees p e _ is there = refl

  -- a row that compares as equal to the tag has the place of the tag's entry
  pub whole_found : (i : ℕ) (w : Row) → i < length rows → w ≡ get_or rows i w
      → HoldsAt (λ (v : Row). whole_key_cmp (whole_key R v) sought ≡ Equal) rows i → whole R t ≡ slice_get R w.place
  whole_found i w l is tied =
      found key_total (whole_key R) (λ (v : Row). v.place) whole_row whole_placed R rows ix sought is_that
      (λ p e there. tag_agrees p e e.name refl there) i w l is
      (ap (λ (v : Row). whole_key_cmp (whole_key R v) sought) is ∙ tied w)

  -- if the search ends between lesser and greater rows, the tag has no entry
  pub whole_absent : (i : ℕ)
      → (IsNonDecreasingBy (λ (v : Row). ordering_index (whole_key_cmp (whole_key R v) sought)) rows
      → IsPartitionPoint (λ (v : Row). whole_key_cmp (whole_key R v) sought ≡ Less) (λ (v : Row).
      whole_key_cmp (whole_key R v) sought ≡ Greater) rows i)
      → whole R t ≡ None
  whole_absent i point =
      absent key_total (whole_key R) (λ (v : Row). v.place) whole_row whole_placed R rows ix sought is_that
      (λ p e there. tag_agrees p e e.name refl there) i
      (point (rises key_total (whole_key R) (λ (v : Row). v.place) whole_row whole_placed R rows ix sought))

-- if a subtag has the form of the kind `k`, then `k` is not `kind`, a kind of whole tags
pub apart : (s : List ℕ) (k kind : Kind) → is_whole_kind kind ≡ true → has_form k s ≡ true → same_kind k kind ≡ false
apart s kinds.Grandfathered kind w f = cc
apart s kinds.Redundant kind w f = cc
apart s _ kinds.Grandfathered w f = refl
apart s _ kinds.Redundant w f = refl
apart s _ _ w f = cc

-- under a kind of whole tags no subtag has an entry
pub no_entry : (R : List EntryParts) (kind : Kind) (s : List ℕ) → All IsEntry R → is_whole_kind kind ≡ true → entry R kind s ≡ None
no_entry R kind s forms w =
    rw (find_none (λ (e : EntryParts). same_kind e.kind kind && is_named s e.name) R
    (λ p e there. (unmet e.kind e.name (entry_at R forms p e there).name).0))
    (find_none (λ (e : EntryParts). same_kind e.kind kind && holds s e.name) R
    (λ p e there. (unmet e.kind e.name (entry_at R forms p e there).name).1))
  where
    -- under a kind of whole tags, no name that fits its own kind is the subtag or a range that holds it
    unmet : (k : Kind) (name : EntryName) → FitsName k name → ((same_kind k kind && is_named s name) ≡ false)
        × ((same_kind k kind && holds s name) ≡ false)
    unmet k (names.Single n) fits = (rw (apart n k kind w fits) refl, and_false (same_kind k kind))
    unmet k (names.Range a b) fits = (and_false (same_kind k kind), rw (apart a k kind w fits.first_form) refl)
    unmet k _ fits = (and_false (same_kind k kind), and_false (same_kind k kind))

-- a kind that has no index is a kind of whole tags
pub no_index : (indexes : Indexes) (kind : Kind) → index_of indexes kind ≡ None → is_whole_kind kind ≡ true
no_index indexes kinds.Grandfathered h = refl
no_index indexes kinds.Redundant h = refl
no_index indexes _ h = cc
