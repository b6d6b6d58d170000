-- The numbers of subtags, by which indexes and Prefixes are searched: they are in the letter order of the subtags, and
-- only equal subtags have equal numbers. `IsFew` is said of at most 8 bytes that a subtag may have.
use Rattle.std.proofs.Common.{Ordering, ◌≡◌, ◌≢◌, ℕ, ◌+◌, ◌*◌, ◌^◌, ◌<◌, ◌≤◌, Bool, true, false, ◌||◌, eqb, ltb, leb}
use Rattle.std.proofs.Common.{List, [], ◌∷◌, length, map, get_or, true≢false, refl, sym, ap, ◌∙◌, arith, inl, inr, ◌&&◌}
use Rattle.std.proofs.Common.{Result, Ok, Err}
use Rattle.std.specs.Prelude.{bytes_eq}
use Rattle.std.specs.List.{list_all, AllByRecursion, AllAdjacentBelow, IsDistinct, list_any, filter_map}
use Rattle.std.specs.List.Sorted.{IsPermutation, IsBinarySearchResult, IsSorted}
use Rattle.std.specs.Ordering.{nat_cmp, eq_by_cmp, is_le}
use Rattle.std.specs.Cmp.Lexicographic.{slice_cmp}
use Rattle.std.specs.Cmp.{nat_cmp_is}
use Rattle.std.specs.declared.cmp.Ordering.TheVariants.{Less}
use Rattle.std.specs.Char.{is_ascii_lowercase, is_ascii_digit}
use Rattle.std.proofs.lemmas.Bool.{and_parts, cases_lt, ltb-true, eq-eqb, ne_eqb}
use Rattle.std.proofs.Math.Bool.{and-true, and-false}
use Rattle.std.proofs.lemmas.Bool.Decides.{nat_tests}
use Rattle.std.proofs.lemmas.Cmp.{nat_cmp_total, eq_by_cmp_equiv, same_from_slice_cmp}
use Rattle.std.proofs.lemmas.List.Sorted.{IsPermutation-sym, searched, sorted_far, list_any-IsPermutation, ranks_by}
use Rattle.std.proofs.lemmas.Map.Keys.{IsDistinct-IsPermutation, IsDistinct-from_sorted, sorted_from_all_adjacent, ge_from_not_lt}
use Rattle.std.specs.Result.{is_ok}
use Rattle.std.proofs.lemmas.Grind.{get_or_default_zero}
use Rattle.std.proofs.lemmas.List.Folds.{list_any_none, list_any-from_Any}
use Rattle.std.proofs.lemmas.List.MinMax.{ranks_by}
use Rattle.lt_subtag.specs.Bytes.{is_subtag, is_subtag_byte}
use Rattle.lt_subtag.specs.Shapes.{is_variant}
use Rattle.lt_subtag.proofs.NumberLemmas.{IsFew, subtag_few, number_below, numbers_ordered, numbers_equal}
use Rattle.lt_tag.proofs.Apart.{extlang_is, script_is, region_is}
use Rattle.lt_tag.proofs.ShapeLemmas.{all_weaker, language_long}
use Rattle.lt_registry.specs.Entries.{has_form, letters_le, IsPrefix, has_prefix}
use Rattle.lt_registry.specs.Validity.{Distinct}
use Rattle.lt_subtag.specs.Lanes.{number}
use Rattle.lt_registry.specs.Sorted.{rank}
use Rattle.lt_registry.specs.declared.entries.Kind.{Kind}
use Rattle.lt_registry.specs.Prefixes.{single_of, AreSingles}
use Rattle.lt_registry.specs.declared.entries.Kind.TheVariants as kinds

-- at most 8 lower-case letters are `IsFew`
letters_few : (s : List ℕ) → list_all is_ascii_lowercase s ≡ true → length s ≤ 8 → IsFew s
letters_few s h l = record { bytes = all_weaker is_ascii_lowercase is_subtag_byte (λ b k. rw k refl) s h; few = l }

-- what has the form of a kind is `IsFew`: at most 8 bytes, each of which a subtag may have
pub form_few : (kind : Kind) (s : List ℕ) → has_form kind s ≡ true → IsFew s
unfolding is_variant
form_few kinds.Language s h = subtag_few s (language_long s h).subtag
form_few kinds.Extlang s h = let x = extlang_is s h in letters_few s x.0 (omega (arith, x.1))
form_few kinds.Script s h = let x = script_is s h in letters_few s x.0 (omega (arith, x.1))
form_few kinds.Region s h =
    elim (region_is s h) [
      | inl x ↦ letters_few s x.0 (omega (arith, x.1))
      | inr x ↦ record {
        bytes = all_weaker is_ascii_digit is_subtag_byte (λ b k. grind (arith, nat_tests)) s x.0;
        few = omega (arith, x.1);
      }
    ]
form_few kinds.Variant s h = subtag_few s (and_parts (is_subtag s) _ h).0
form_few _ s h = cc

-- two tests are equal if each implies the other
pub same_test : (b c : Bool) → (b ≡ true → c ≡ true) → (c ≡ true → b ≡ true) → b ≡ c
same_test true c f g = sym (f refl)
same_test false true f g = g refl
same_test false false f g = refl

-- `s` is not after `t` in letter order exactly if `o`, by which lists of bytes are compared, says Less or Equal
is_letters_le : (s t : List ℕ) (o : Ordering) → o ≡ slice_cmp nat_cmp s t → is_le o ≡ letters_le s t
is_letters_le = same_from_slice_cmp nat_cmp is_le letters_le refl (λ _ _. refl) (λ _ _. refl) (λ x y s t o h. grind (arith, nat_tests))

-- the order of two numbers says that the first is at most the second exactly if the test does
least_is : (m n : ℕ) → is_le (nat_cmp m n) ≡ leb m n
least_is m n = grind (arith, nat_tests)

-- the letter order of two subtags is the order of their numbers
numbers_rise_with : (s t : List ℕ) → IsFew s → IsFew t → letters_le s t ≡ leb (number s) (number t)
numbers_rise_with s t h k =
    sym (is_letters_le s t (slice_cmp nat_cmp s t) refl) ∙ ap is_le (numbers_ordered s t h k)
    ∙ least_is (number s) (number t)

-- a shorter subtag has a lesser rank
pub rank_shorter : (s t : List ℕ) → IsFew s → length s < length t → rank s < rank t
rank_shorter s t h low = omega (arith, number_below s h, low)

-- the letter order of two subtags of one length is the order of their ranks
pub ranks_ordered : (s t : List ℕ) → IsFew s → IsFew t → length s ≡ length t → letters_le s t ≡ leb (rank s) (rank t)
ranks_ordered s t h k one =
    let shifted : leb (length s * 2 ^ 64 + number s) (length s * 2 ^ 64 + number t) ≡ leb (number s) (number t) = grind
    (arith, nat_tests) in
    numbers_rise_with s t h k ∙ sym (ap (λ l. leb (rank s) (l * 2 ^ 64 + number t)) (sym one) ∙ shifted)

-- distinct numbers are those of distinct subtags

-- whether two numbers are equal by their order
abbrev by_order : ℕ → ℕ → Bool
by_order = eq_by_cmp nat_cmp

-- if the number of `s` is that of none of `ts`, `s` is none of `ts`
apart_from : (s : List ℕ) (ts : List (List ℕ)) → AllByRecursion (λ n. by_order (number s) n ≡ false) (map number ts)
    → AllByRecursion (λ t. t ≢ s) ts
apart_from s [] d = tt
apart_from s (t ∷ ts) d = (
  (λ e. true≢false (sym ((eq_by_cmp_equiv nat_cmp_total).refl (number s))
      ∙ ap (λ u. by_order (number s) (number u)) (sym e) ∙ d.0)),
  apart_from s ts d.1,
)

-- subtags are distinct if their numbers are
pub subtags_differ : (ss : List (List ℕ)) → IsDistinct by_order (map number ss) → Distinct ss
unfolding IsDistinct
subtags_differ [] d = tt
subtags_differ (s ∷ ss) d = (apart_from s ss d.0, subtags_differ ss d.1)

-- numbers `ms` are distinct if, sorted as `ns`, each is less than the next
pub rising_differ : (ms ns : List ℕ) → IsPermutation ms ns → AllAdjacentBelow (λ m n. true ≡ ltb m n) ns (length ns)
    → IsDistinct by_order ms
rising_differ ms ns moved up =
    IsDistinct-IsPermutation by_order (eq_by_cmp_equiv nat_cmp_total).symm ns ms (IsPermutation-sym ms ns moved)
    (IsDistinct-from_sorted nat_cmp ns
    (sorted_from_all_adjacent nat_cmp_total ns 0
    (λ k l. sym (nat_cmp_is (get_or ns k 0) (get_or ns (k + 1) 0) Less (ltb-true _ _ (sym (up k 0 l)))))))

-- Prefixes of one subtag are found by their numbers.

-- a language `l` is one of the Prefixes `ps` exactly if a Prefix of one subtag has its number
lists_number : (ps : List (List (List ℕ))) (l : List ℕ) → AllByRecursion IsPrefix ps → is_subtag l ≡ true
    → has_prefix ps l ≡ list_any (λ n. eqb n (number l)) (filter_map single_of ps)
lists_number [] l h k = refl
lists_number ([] ∷ ps) l h k = lists_number ps l h.1 k
lists_number ((s ∷ []) ∷ ps) l h k =
    let same : (bytes_eq s l && true) ≡ eqb (number s) (number l) = and-true (bytes_eq s l)
    ∙ sym (numbers_equal s l (subtag_few s (and_parts (is_subtag s) true h.0.subtags).0) (subtag_few l k)) in
    ap (λ b. b || has_prefix ps l) same ∙ ap (λ b. eqb (number s) (number l) || b) (lists_number ps l h.1 k)
lists_number ((s ∷ t ∷ r) ∷ ps) l h k = ap (λ b. b || has_prefix ps l) (and-false (bytes_eq s l)) ∙ lists_number ps l h.1 k

-- in a sorted list no number is greater than one after it
numbers_rise : (ns : List ℕ) → IsSorted nat_cmp ns → (i j : ℕ) → i ≤ j → j < length ns → get_or ns i 0 ≤ get_or ns j 0
numbers_rise ns s i j a b = ge_from_not_lt (get_or ns j 0) (get_or ns i 0) (sorted_far _ (ranks_by nat_cmp_total (λ n. n)) ns s i j 0 a b)

-- a binary search in sorted numbers finds `n` exactly if `n` is among them; `r` is its result
number_found : (ns : List ℕ) (n : ℕ) (r : Result ℕ ℕ) → IsSorted nat_cmp ns
    → IsBinarySearchResult (λ m. nat_cmp m n) ns r → is_ok r ≡ list_any (λ m. eqb m n) ns
number_found ns n (Ok i) s h =
    let at = searched ns n (Ok i) h (numbers_rise ns s) in
    sym (list_any-from_Any (λ m. eqb m n) ns (i, n, at.0, get_or_default_zero ns i n at.0 ∙ at.1, eq-eqb n n refl))
number_found ns n (Err i) s h =
    let at = searched ns n (Err i) h (numbers_rise ns s) in
    sym (list_any_none (λ m. eqb m n) ns (λ k d l. other k d l at))
  where
    -- the search found no `n`: numbers before the index `i` are less, and those from it on greater, so none is `n`
    other : (k d : ℕ) → k < length ns → (i ≤ length ns) × ((k : ℕ) → k < i → get_or ns k 0 < n)
        × ((k : ℕ) → i ≤ k → k < length ns → n < get_or ns k 0) → eqb (get_or ns k d) n ≡ false
    other k d l at =
        elim (cases_lt k i) [
          | inl w ↦ ne_eqb (get_or ns k d) n (λ e. omega (arith, at.1 k w, get_or_default_zero ns k d l, e))
          | inr w ↦ ne_eqb (get_or ns k d) n (λ e. omega (arith, at.2 k w l, get_or_default_zero ns k d l, e))
        ]

-- a search among the sorted numbers tells whether one of the Prefixes is just the subtag `l`
pub lists_found : (ps : List (List (List ℕ))) (ns : List ℕ) (l : List ℕ) (r : Result ℕ ℕ) → AreSingles ps ns
    → AllByRecursion IsPrefix ps → is_subtag l ≡ true → IsBinarySearchResult (λ m. nat_cmp m (number l)) ns r
    → is_ok r ≡ has_prefix ps l
lists_found ps ns l r s h k b =
    number_found ns (number l) r s.rising b
    ∙ sym (list_any-IsPermutation (λ m. eqb m (number l)) (filter_map single_of ps) ns s.same)
    ∙ sym (lists_number ps l h k)
